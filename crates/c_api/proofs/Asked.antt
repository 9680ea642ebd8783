-- The answer to many pairs, in numbers: the promise of `axml_first_values` from that of `first_values`. No contract cites this file.
use Rattle.std.specs.Prelude.{Result}
use Prim.Native.Nat.{ℕ}
use mathlib.Core.Path.{◌≡◌, ◌∙◌, ap}
use mathlib.Core.List.{List}
use Rattle.errors.specs.Refusal.{pair_numbers_of}
use Rattle.errors.specs.declared.PairNumbers.{PairNumbers}
use Rattle.system_types.specs.Names.{Lent}
use Rattle.first_values.specs.Pairs.{ManyReads}
use Rattle.c_api.specs.Asking.{pairs_answer_of, AsksMany}
use Rattle.c_api.specs.declared.asking.AxmlPairsAnswer.{AxmlPairsAnswer}
use Rattle.errors.specs.declared.Refusal.{Refusal}

pub asks-of-many
    : (f : List ℕ) (lent : Lent) (ns ats pairs area before : List ℕ) (nodes attributes : ℕ) {r : Result ℕ Refusal} {after : List ℕ}
    → ManyReads f lent ns ats pairs area before nodes attributes r after
    → {n : PairNumbers} → n ≡ pair_numbers_of r
    → {a : AxmlPairsAnswer} → a ≡ pairs_answer_of n
    → AsksMany f lent ns ats pairs area before nodes attributes a after
asks-of-many f lent ns ats pairs area before nodes attributes p e g = record { answer = g ∙ ap pairs_answer_of (e ∙ p.answer); list = p.list }
