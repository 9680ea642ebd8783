-- Words of the theorems about the screens that a launcher starts: docs/FORMAT.md, S.
--
--   with_parent    of n records, numbered from k, those whose parent word is p
--   Ask           what a program can be called with: bytes and words
--   Teller        takes what a call of `main_activities` is lent, and gives an answer and the list afterwards
--   MeetsAll      the promise holds of all its results, asked of calls alone, so that a program is a teller
--   NamedActivity whether an application of the tables has an activity with a name
--   EveryOne      where that is so, it never says that no screen starts: so does one that gives every activity
use Rattle.std.specs.Prelude.{ℕ, zero, suc, ◌+◌, ◌*◌, ◌<◌, ◌≡◌, Bool, true, false, cond, ◌&&◌, List, [], ◌∷◌, eqb, Option, Some, None, Result, Ok}
use Rattle.system_types.specs.Names.{Lent}
use Rattle.text.specs.declared.Head.{Head}
use Rattle.head.specs.Head.{tables_in}
use Rattle.main_activities.specs.Activities.{Tree, tree_of, parent_of, children_of, any_of, tagged, attribute_of, application_tag, activity_tag, name_name, main_open, MainReads}
use Rattle.claims.specs.Readers.{Bytes, Words}
use Rattle.errors.specs.declared.Refusal.{Refusal}

unfoldable pub with_parent : List ℕ → ℕ → ℕ → ℕ → List ℕ
with_parent ns p k zero = []
with_parent ns p k (suc n) = cond (eqb (parent_of ns k) p) (k ∷ with_parent ns p (k + 1) n) (with_parent ns p (k + 1) n)

pub record Ask (f : List ℕ) (lent : Lent) (items area ns ats before : List ℕ) (nodes attributes : ℕ) : Type 0 where
  pub file : Bytes f
  pub name_words : Words lent.names
  pub area_bytes : Bytes lent.area
  pub item_words : Words items
  pub item_bytes : Bytes area
  pub node_words : Words ns
  pub attribute_words : Words ats
  pub list_words : Words before
  pub node_count : nodes < 4294967296
  pub attribute_count : attributes < 4294967296

pub record Told : Type 0 where
  pub answer : Result ℕ Refusal
  pub list : List ℕ

-- from file, names and their area, items and their area, the tables of nodes and attributes, the list, and the two counts
abbrev pub Teller : Type 0
Teller = List ℕ → Lent → List ℕ → List ℕ → List ℕ → List ℕ → List ℕ → ℕ → ℕ → Told

abbrev pub MeetsAll : Teller → Type 0
MeetsAll A =
    (f : List ℕ) (lent : Lent) (items area ns ats before : List ℕ) (nodes attributes : ℕ) → Ask f lent items area ns ats before nodes attributes
    → MainReads f lent items area ns ats before nodes attributes (A f lent items area ns ats before nodes attributes).answer
    (A f lent items area ns ats before nodes attributes).list

abbrev pub is_at : Option ℕ → Bool
is_at (Some j) = true
is_at None = false

unfoldable pub NamedActivity : Tree → Bool
NamedActivity w =
    any_of (λ p. tagged w application_tag p && any_of (λ k. tagged w activity_tag k && is_at (attribute_of w name_name k)) (children_of w p)) (children_of w 0)

abbrev pub EveryOne : Teller → Type 0
EveryOne A =
    (f : List ℕ) (lent : Lent) (items area ns ats before : List ℕ) (nodes attributes : ℕ) → Ask f lent items area ns ats before nodes attributes
    → (h : Head) → main_open f lent items area ns ats nodes attributes ≡ Ok h
    → NamedActivity (tree_of h (tables_in f h) lent items area ns ats nodes) ≡ true
    → (A f lent items area ns ats before nodes attributes).answer ≡ Ok 0 → ⊥
