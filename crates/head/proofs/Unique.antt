-- What follows from the promises of the two questions. No contract cites this file.
-- In order: two results that the text question allows are equal (`text-unique`); the content is empty where the text question
-- refuses with anything but 11 (`content-refused`).
use Rattle.std.specs.Prelude.{Result, Ok, Err}
use Prim.Native.Nat.{ℕ}
use native.Mathlib.Omega.{arith}
use mathlib.Core.Path.{◌≡◌, refl, sym, ◌∙◌}
use mathlib.Core.List.{List, []}
use mathlib.Core.Bool.{Bool, true, false, cond}
use lib.ListN.{length}
use lib.Dec.{leb}
use Rattle.errors.specs.Refusal.{refusal_number}
use Rattle.errors.specs.declared.Refusal.{Refusal}
use Rattle.errors.specs.declared.Refusal.TheVariants.{TextShort}
use Rattle.errors.specs.declared.TextState.{TextState}
use Rattle.errors.proofs.Laws.{text_numbers_of-unique}
use Rattle.system_types.specs.Names.{Lent}
use Rattle.text.specs.Content.{Content, none, cut, some, content_of, text_in, damage_in, raw_of}
use Rattle.head.specs.Head.{tables_in}
use Rattle.head.specs.Ask.{open_of, content_asked_by, state_told, fitted, text_by, text_answer_by, text_answer, content_answer, TextReads}
use Rattle.errors.specs.declared.TextWritten.{TextWritten}
use Rattle.text.specs.declared.Head.{Head}

-- ---- the text question

pub text-unique
    : (f : List ℕ) (lent : Lent) (before : List ℕ) (i : ℕ) {r r' : Result TextWritten Refusal} {after after' : List ℕ}
    → TextReads f lent before i r after
    → TextReads f lent before i r' after'
    → (r ≡ r') × (after ≡ after')
text-unique f lent before i {r} {r'} a b = (text_numbers_of-unique r r' (a.answer ∙ sym b.answer), a.out ∙ sym b.out)

-- ---- the content question

-- the refusal of a text that is there is 11
fitted_short : (n : ℕ) (text : List ℕ) (state : TextState) (why : Refusal) → fitted n text state ≡ Err why → refusal_number why ≡ 11
unfolding refusal_number
fitted_short n text state why e = go (leb (length text) n) e
  where
    go :
        (b : Bool) →
        cond {A = Result TextWritten Refusal} b (Ok (record { length = length text; state = state })) (Err (TextShort (length text))) ≡ Err why →
        refusal_number why ≡ 11
    go true q = let z : ◌≡◌ {A = ℕ} 0 1 = cc in absurd (let y : ⊥ = omega arith in y)
    go false q = let w : why ≡ TextShort (length text) = cc in rw w

text_by-refused : (n : ℕ) (c : Content) (why : Refusal) → text_by n c ≡ Err why → (refusal_number why ≡ 11 → ⊥) → raw_of c ≡ []
text_by-refused n none why e not-11 = refl
text_by-refused n cut why e not-11 = refl
text_by-refused n (some w s) why e not-11 = absurd (not-11 (fitted_short n (text_in (some w s)) (state_told (damage_in (some w s))) why e))

pub content-refused
    : (f : List ℕ) (lent : Lent) (n i : ℕ) (why : Refusal)
    → text_answer f lent n i ≡ Err why
    → (refusal_number why ≡ 11 → ⊥)
    → content_answer f lent i ≡ []
unfolding text_answer content_answer
content-refused f lent n i why e not-11 = go (open_of f lent) e
  where
    go : (o : Result Head Refusal) → text_answer_by n (content_asked_by f lent i o) o ≡ Err why → raw_of (content_asked_by f lent i o) ≡ []
    go (Err r) q = refl
    go (Ok h) q = text_by-refused n (content_of h (tables_in f h) lent i) why q not-11
