-- Which screens start, computed: an application with an activity, as the tables of a reading have it, with and without its filter; and a teller that
-- gives every activity breaks the promise, which can be met (docs/FORMAT.md, P5). No contract cites this file.
--
--   one-starts          with its filter the activity starts: its name is the answer
--   every-one-broken    without it a teller that gives every activity is wrong
use Rattle.std.specs.Prelude.{Ok}
use Prim.Native.Nat.{ℕ}
use native.Mathlib.Omega.{arith}
use mathlib.Core.Path.{◌≡◌, refl, ◌∙◌}
use mathlib.Core.Bool.{true}
use mathlib.Core.List.{List, [], ◌∷◌}
use lib.ListN.{length}
use Rattle.system_types.specs.Names.{lends}
use Rattle.head.specs.Head.{opened_of, tables_in}
use Rattle.main_activities.specs.Activities.{tree_of}
use Rattle.main_activities.specs.Activities.{main_open, main_answer, list_after}
use Rattle.main_activities.proofs.Unique.{main_numbers_of-unique}
use Rattle.claims.specs.Screens.{Ask, Teller, MeetsAll, NamedActivity, EveryOne}
use Rattle.claims.proofs.Cases.Computing.{computing}

-- a head whose strings are application, activity, name, intent-filter, action, category, and the texts of the main action and the launcher's category
unfoldable pub head : List ℕ
head =
    3 ∷ 0 ∷ 8 ∷ 0 ∷ 208 ∷ 0 ∷ 0 ∷ 0 ∷ 1 ∷ 0 ∷ 28 ∷ 0 ∷ 192 ∷ 0 ∷ 0 ∷ 0 ∷ 8 ∷ 0 ∷ 0 ∷ 0 ∷ 0 ∷ 0 ∷ 0 ∷ 0 ∷ 0 ∷ 1 ∷ 0 ∷ 0 ∷ 60 ∷ 0 ∷ 0 ∷
    0 ∷ 0 ∷ 0 ∷ 0 ∷ 0 ∷ 0 ∷ 0 ∷ 0 ∷ 0 ∷ 14 ∷ 0 ∷ 0 ∷ 0 ∷ 25 ∷ 0 ∷ 0 ∷ 0 ∷ 32 ∷ 0 ∷ 0 ∷ 0 ∷ 48 ∷ 0 ∷ 0 ∷ 0 ∷ 57 ∷ 0 ∷ 0 ∷ 0 ∷ 68 ∷ 0 ∷
    0 ∷ 0 ∷ 97 ∷ 0 ∷ 0 ∷ 0 ∷ 11 ∷ 11 ∷ 97 ∷ 112 ∷ 112 ∷ 108 ∷ 105 ∷ 99 ∷ 97 ∷ 116 ∷ 105 ∷ 111 ∷ 110 ∷ 0 ∷ 8 ∷ 8 ∷ 97 ∷ 99 ∷ 116 ∷
    105 ∷ 118 ∷ 105 ∷ 116 ∷ 121 ∷ 0 ∷ 4 ∷ 4 ∷ 110 ∷ 97 ∷ 109 ∷ 101 ∷ 0 ∷ 13 ∷ 13 ∷ 105 ∷ 110 ∷ 116 ∷ 101 ∷ 110 ∷ 116 ∷ 45 ∷ 102 ∷
    105 ∷ 108 ∷ 116 ∷ 101 ∷ 114 ∷ 0 ∷ 6 ∷ 6 ∷ 97 ∷ 99 ∷ 116 ∷ 105 ∷ 111 ∷ 110 ∷ 0 ∷ 8 ∷ 8 ∷ 99 ∷ 97 ∷ 116 ∷ 101 ∷ 103 ∷ 111 ∷ 114 ∷
    121 ∷ 0 ∷ 26 ∷ 26 ∷ 97 ∷ 110 ∷ 100 ∷ 114 ∷ 111 ∷ 105 ∷ 100 ∷ 46 ∷ 105 ∷ 110 ∷ 116 ∷ 101 ∷ 110 ∷ 116 ∷ 46 ∷ 97 ∷ 99 ∷ 116 ∷ 105 ∷
    111 ∷ 110 ∷ 46 ∷ 77 ∷ 65 ∷ 73 ∷ 78 ∷ 0 ∷ 32 ∷ 32 ∷ 97 ∷ 110 ∷ 100 ∷ 114 ∷ 111 ∷ 105 ∷ 100 ∷ 46 ∷ 105 ∷ 110 ∷ 116 ∷ 101 ∷ 110 ∷
    116 ∷ 46 ∷ 99 ∷ 97 ∷ 116 ∷ 101 ∷ 103 ∷ 111 ∷ 114 ∷ 121 ∷ 46 ∷ 76 ∷ 65 ∷ 85 ∷ 78 ∷ 67 ∷ 72 ∷ 69 ∷ 82 ∷ 0 ∷ 128 ∷ 1 ∷ 8 ∷ 0 ∷ 8 ∷
    0 ∷ 0 ∷ 0 ∷ []

-- an application, its activity, a filter of that, an action and a category of this
abbrev nodes : List ℕ
nodes =
    0 ∷ 0 ∷ 4294967295 ∷ 0 ∷ 0 ∷ 1 ∷ 0 ∷ 0 ∷ 0 ∷ 0 ∷ 0 ∷ 1 ∷ 1 ∷ 0 ∷ 1 ∷ 0 ∷ 1 ∷ 1 ∷ 3 ∷ 0 ∷ 2 ∷ 1 ∷ 0 ∷ 1 ∷ 4 ∷ 0 ∷ 3 ∷ 1 ∷ 1 ∷ 1 ∷
    5 ∷ 0 ∷ 3 ∷ 2 ∷ 1 ∷ 1 ∷ []

-- the activity's name, that of the action, that of the category
abbrev attributes : List ℕ
attributes = 2 ∷ 1 ∷ 2 ∷ 3 ∷ 1 ∷ 0 ∷ 4 ∷ 1 ∷ 2 ∷ 3 ∷ 6 ∷ 0 ∷ 5 ∷ 1 ∷ 2 ∷ 3 ∷ 7 ∷ 0 ∷ []

pub one-starts : main_answer head (lends [] []) [] [] nodes attributes 6 3 2 ≡ Ok 1
unfolding head computing
one-starts = refl

pub its-name : list_after head (lends [] []) [] [] nodes attributes 6 3 2 ≡ 0 ∷ 0 ∷ []
unfolding head computing
its-name = refl

-- of the first three nodes none starts
none-starts : main_answer head (lends [] []) [] [] nodes attributes 3 3 1 ≡ Ok 0
unfolding head computing
none-starts = refl

opened : main_open head (lends [] []) [] [] nodes attributes 3 3 ≡ Ok (opened_of head).head
unfolding head computing
opened = refl

has_one : NamedActivity (tree_of (opened_of head).head (tables_in head (opened_of head).head) (lends [] []) [] [] nodes attributes 3) ≡ true
unfolding head computing
has_one = refl

asks : Ask head (lends [] []) [] [] nodes attributes (7 ∷ []) 3 3
unfolding head
asks =
    record {
      file = record { below = refl; short = omega arith };
      name_words = record { below = refl; short = omega arith };
      area_bytes = record { below = refl; short = omega arith };
      item_words = record { below = refl; short = omega arith };
      item_bytes = record { below = refl; short = omega arith };
      node_words = record { below = refl; short = omega arith };
      attribute_words = record { below = refl; short = omega arith };
      list_words = record { below = refl; short = omega arith };
      node_count = omega arith;
      attribute_count = omega arith;
    }

pub every-one-broken : (A : Teller) → MeetsAll A → EveryOne A → ⊥
every-one-broken A meets every =
    let m = meets head (lends [] []) [] [] nodes attributes (7 ∷ []) 3 3 asks in
    every head (lends [] []) [] [] nodes attributes (7 ∷ []) 3 3 asks (opened_of head).head opened has_one (main_numbers_of-unique _ _ m.answer ∙ none-starts)

-- by the definition itself
pub main-meets-some : MeetsAll (λ f lent items area ns ats before n a.
    record {
      answer = main_answer f lent items area ns ats n a (length before);
      list = list_after f lent items area ns ats n a (length before);
    })
main-meets-some f lent items area ns ats before n a call = record { answer = refl; list = refl }
