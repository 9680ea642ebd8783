-- Many pairs at once: an asker that says 12 to all breaks the promise, and the promise can be met (docs/FORMAT.md, P5). No contract cites this file.
--
--   s-answer, s-list, s-ask   the witness: file S with the tables of its reading, asked for `android` on `a`
--   twelve-to-all-broken      an asker that says 12 to all
--   many-meets-some           the definition itself meets the promise
use Rattle.std.specs.Prelude.{Ok}
use Prim.Native.Nat.{ℕ}
use native.Mathlib.Omega.{arith}
use mathlib.Core.Path.{◌≡◌, refl, sym, ◌∙◌, ap}
use mathlib.Core.List.{List, [], ◌∷◌}
use lib.ListN.{length, get_or}
use Rattle.system_types.specs.Names.{lends}
use Rattle.errors.proofs.Laws.{pair_numbers_of-unique}
use Rattle.first_value.specs.Question.{android_name}
use Rattle.first_values.specs.Pairs.{many_answer, answers_after}
use Rattle.claims.specs.Askers.{Ask, Asker, MeetsAll, TwelveToAll}
use Rattle.claims.proofs.Cases.Table.{file_s, first_node, lead}
use Rattle.claims.proofs.Cases.Computing.{computing}

abbrev one_pair : List ℕ
one_pair = 0 ∷ 1 ∷ 1 ∷ 7 ∷ []

abbrev its_area : List ℕ
its_area = 97 ∷ android_name

abbrev its_list : List ℕ
its_list = 0 ∷ 0 ∷ 0 ∷ 0 ∷ []

s-answer : many_answer file_s (lends [] []) first_node lead 1 1 one_pair its_area 4 ≡ Ok 1
unfolding file_s computing
s-answer = refl

s-list : answers_after file_s (lends [] []) first_node lead 1 1 one_pair its_area 4 ≡ 0 ∷ 3 ∷ 0 ∷ 0 ∷ []
unfolding file_s computing
s-list = refl

s-ask : Ask file_s (lends [] []) first_node lead one_pair its_area its_list 1 1
unfolding file_s
s-ask =
    record {
      file = record { below = refl; short = omega arith };
      name_words = record { below = refl; short = omega arith };
      area_bytes = record { below = refl; short = omega arith };
      node_words = record { below = refl; short = omega arith };
      attribute_words = record { below = refl; short = omega arith };
      pair_words = record { below = refl; short = omega arith };
      pair_bytes = record { below = refl; short = omega arith };
      answer_words = record { below = refl; short = omega arith };
      node_count = omega arith;
      attribute_count = omega arith;
    }

pub twelve-to-all-broken : (A : Asker) → MeetsAll A → TwelveToAll A → ⊥
twelve-to-all-broken A meets twelve =
    let m = meets file_s (lends [] []) first_node lead one_pair its_area its_list 1 1 s-ask in
    let a : (A file_s (lends [] []) first_node lead one_pair its_area its_list 1 1).answer ≡ Ok 1 = pair_numbers_of-unique _ _ m.answer ∙ s-answer in
    let t = twelve file_s (lends [] []) first_node lead one_pair its_area its_list 1 1 s-ask 1 0 a (omega arith) in
    let l : ◌≡◌ {A = ℕ} 0 12 = sym (ap (λ (x : List ℕ). get_or x 0 0) (m.list ∙ s-list)) ∙ t in
    absurd (let z : ⊥ = omega (arith, l) in z)

-- by the definition itself
pub many-meets-some : MeetsAll (λ f lent ns ats pairs area before nodes attributes.
    record {
      answer = many_answer f lent ns ats nodes attributes pairs area (length before);
      list = answers_after f lent ns ats nodes attributes pairs area (length before);
    })
many-meets-some f lent ns ats pairs area before nodes attributes call = record { answer = refl; list = refl }
