-- Which screens start, in numbers: the promise of `axml_main_activities` from that of `main_activities`. No contract cites this file.
use Rattle.std.specs.Prelude.{Result}
use Prim.Native.Nat.{ℕ}
use mathlib.Core.Path.{◌≡◌, ◌∙◌, ap}
use mathlib.Core.List.{List}
use Rattle.system_types.specs.Names.{Lent}
use Rattle.main_activities.specs.declared.MainNumbers.{MainNumbers}
use Rattle.main_activities.specs.Activities.{main_numbers_of, MainReads}
use Rattle.c_api.specs.Starting.{main_answer_of, AsksMain}
use Rattle.c_api.specs.declared.starting.AxmlMainAnswer.{AxmlMainAnswer}
use Rattle.errors.specs.declared.Refusal.{Refusal}

pub asks-of-main
    : (f : List ℕ) (lent : Lent) (items area ns ats before : List ℕ) (nodes attributes : ℕ) {r : Result ℕ Refusal} {after : List ℕ}
    → MainReads f lent items area ns ats before nodes attributes r after
    → {n : MainNumbers} → n ≡ main_numbers_of r
    → {a : AxmlMainAnswer} → a ≡ main_answer_of n
    → AsksMain f lent items area ns ats before nodes attributes a after
asks-of-main f lent items area ns ats before nodes attributes p e g = record { answer = g ∙ ap main_answer_of (e ∙ p.answer); list = p.list }
