-- Which screens a launcher starts: docs/FORMAT.md, S1 to S10.
--
--   MainReads        THE PROMISE: the numbers of the answer, and every word of the lent list
--   main_answer       the answer: what refuses a value's text, then 13 and 28, or how many there are
--   list_after        the list afterwards: the numbers of the names and zeros behind them; zeros alone on a refusal
--   main_activities   the attribute numbers of the names of the activities that start, in the order of the tree
--   starts           whether an activity or an alias starts: it is not disabled and has a filter
--   is_filter         whether a node is a filter with both, the main action and the launcher's category
--   says             whether the first attribute of a name has a text as its value
--   children_of       the numbers of a node's children
--
-- The tables may be any words: nothing is asked of them but that they fit their counts (13). A record is read where it stands.
-- Laws: proofs/Laws.antt. On the tables of a reading a child is a record whose parent word says so: claims/proofs/Claims, `main-children`.
use Rattle.std.specs.Prelude.{ℕ, zero, suc, ◌+◌, ◌-◌, ◌*◌, ◌≡◌, Bool, false, cond, not, ◌&&◌, ◌||◌, length, get_or, replicate, ltb, leb, eqb}
use Rattle.std.specs.Prelude.{Option, Some, None, Result, Ok, Err}
use mathlib.Core.List.{List, [], ◌∷◌, ◌++◌, flat_map}
use Rattle.utf.specs.Text.{eq_bytes}
use Rattle.errors.specs.Refusal.{refusal_number, refusal_value as value_number}
use Rattle.errors.specs.declared.Refusal.TheVariants.{ListFull}
use Rattle.system_types.specs.Names.{Lent}
use Rattle.text.specs.declared.Head.{Head}
use Rattle.head.specs.Head.{tables_in}
use Rattle.records.specs.Words.{node_width, node_name, node_fixed, node_parent, node_first, node_count}
use Rattle.records.specs.Words.{attribute_width, attribute_prefix, attribute_name}
use Rattle.first_value.specs.Question.{tag_is, name_is, fit_of, shared_by}
use Rattle.value_text.specs.Value.{Value, no_name, no_text, shows, false_text, attribute_value, value_open}
use Rattle.many_texts.specs.Many.{attribute_at}
use Rattle.main_activities.specs.declared.MainNumbers.{MainNumbers}
use Rattle.errors.specs.declared.Refusal.{Refusal}

-- ---- fixed texts

-- application
abbrev pub application_tag : List ℕ
application_tag = 97 ∷ 112 ∷ 112 ∷ 108 ∷ 105 ∷ 99 ∷ 97 ∷ 116 ∷ 105 ∷ 111 ∷ 110 ∷ []

-- activity
abbrev pub activity_tag : List ℕ
activity_tag = 97 ∷ 99 ∷ 116 ∷ 105 ∷ 118 ∷ 105 ∷ 116 ∷ 121 ∷ []

-- activity-alias
abbrev pub alias_tag : List ℕ
alias_tag = 97 ∷ 99 ∷ 116 ∷ 105 ∷ 118 ∷ 105 ∷ 116 ∷ 121 ∷ 45 ∷ 97 ∷ 108 ∷ 105 ∷ 97 ∷ 115 ∷ []

-- intent-filter
abbrev pub filter_tag : List ℕ
filter_tag = 105 ∷ 110 ∷ 116 ∷ 101 ∷ 110 ∷ 116 ∷ 45 ∷ 102 ∷ 105 ∷ 108 ∷ 116 ∷ 101 ∷ 114 ∷ []

-- action
abbrev pub action_tag : List ℕ
action_tag = 97 ∷ 99 ∷ 116 ∷ 105 ∷ 111 ∷ 110 ∷ []

-- category
abbrev pub category_tag : List ℕ
category_tag = 99 ∷ 97 ∷ 116 ∷ 101 ∷ 103 ∷ 111 ∷ 114 ∷ 121 ∷ []

-- name
abbrev pub name_name : List ℕ
name_name = 110 ∷ 97 ∷ 109 ∷ 101 ∷ []

-- enabled
abbrev pub enabled_name : List ℕ
enabled_name = 101 ∷ 110 ∷ 97 ∷ 98 ∷ 108 ∷ 101 ∷ 100 ∷ []

-- android.intent.action.MAIN
abbrev pub main_text : List ℕ
main_text =
    97 ∷ 110 ∷ 100 ∷ 114 ∷ 111 ∷ 105 ∷ 100 ∷ 46 ∷ 105 ∷ 110 ∷ 116 ∷ 101 ∷ 110 ∷ 116 ∷ 46 ∷ 97 ∷ 99 ∷ 116 ∷ 105 ∷ 111 ∷ 110 ∷ 46 ∷ 77 ∷
    65 ∷ 73 ∷ 78 ∷ []

-- android.intent.category.LAUNCHER
abbrev pub launcher_text : List ℕ
launcher_text =
    97 ∷ 110 ∷ 100 ∷ 114 ∷ 111 ∷ 105 ∷ 100 ∷ 46 ∷ 105 ∷ 110 ∷ 116 ∷ 101 ∷ 110 ∷ 116 ∷ 46 ∷ 99 ∷ 97 ∷ 116 ∷ 101 ∷ 103 ∷ 111 ∷ 114 ∷ 121 ∷
    46 ∷ 76 ∷ 65 ∷ 85 ∷ 78 ∷ 67 ∷ 72 ∷ 69 ∷ 82 ∷ []

-- android.intent.category.INFO
abbrev pub info_text : List ℕ
info_text =
    97 ∷ 110 ∷ 100 ∷ 114 ∷ 111 ∷ 105 ∷ 100 ∷ 46 ∷ 105 ∷ 110 ∷ 116 ∷ 101 ∷ 110 ∷ 116 ∷ 46 ∷ 99 ∷ 97 ∷ 116 ∷ 101 ∷ 103 ∷ 111 ∷ 114 ∷ 121 ∷
    46 ∷ 73 ∷ 78 ∷ 70 ∷ 79 ∷ []

-- ---- what is lent, of a file that is open: its head, the bytes behind the file's header, names and items, the two tables, the count of nodes

pub record Tree : Type 0 where
  pub head : Head
  pub bytes : List ℕ
  pub lent : Lent
  pub items : List ℕ
  pub item_area : List ℕ
  pub nodes : List ℕ
  pub attributes : List ℕ
  pub count : ℕ

abbrev pub tree_of : Head → List ℕ → Lent → List ℕ → List ℕ → List ℕ → List ℕ → ℕ → Tree
tree_of h t lent items area ns ats n =
    record { head = h; bytes = t; lent = lent; items = items; item_area = area; nodes = ns; attributes = ats; count = n }

-- ---- children: S2

abbrev pub parent_of : List ℕ → ℕ → ℕ
parent_of ns k = get_or ns (node_width * k + node_parent) 0

-- of n records, numbered from k: those whose parent word is p, up to the first whose parent word is below p
unfoldable pub children_from : List ℕ → ℕ → ℕ → ℕ → List ℕ
children_from ns p k zero = []
children_from ns p k (suc n) =
    cond (ltb (parent_of ns k) p) []
    (cond (eqb (parent_of ns k) p) (k ∷ children_from ns p (k + 1) n) (children_from ns p (k + 1) n))

-- of all records behind p
abbrev pub children_of : Tree → ℕ → List ℕ
children_of w p = children_from w.nodes p (p + 1) (w.count - (p + 1))

-- whether one of these numbers is such
unfoldable pub any_of : (ℕ → Bool) → List ℕ → Bool
any_of test [] = false
any_of test (k ∷ ks) = test k || any_of test ks

-- ---- tags and attributes: S3, S4

-- as in the first-value question
abbrev pub tagged : Tree → List ℕ → ℕ → Bool
tagged w tag k =
    tag_is w.head w.bytes w.lent tag (get_or w.nodes (node_width * k + node_fixed) 0) (get_or w.nodes (node_width * k + node_name) 0)

abbrev pub named : Tree → List ℕ → ℕ → Bool
named w name j =
    name_is w.head w.bytes w.lent name (get_or w.attributes (attribute_width * j + attribute_prefix) 0)
    (get_or w.attributes (attribute_width * j + attribute_name) 0)

-- the first with the name, of n attributes numbered from j
unfoldable pub attribute_from : Tree → List ℕ → ℕ → ℕ → Option ℕ
attribute_from w name j zero = None
attribute_from w name j (suc n) = cond (named w name j) (Some j) (attribute_from w name (j + 1) n)

-- of node k
abbrev pub attribute_of : Tree → List ℕ → ℕ → Option ℕ
attribute_of w name k =
    attribute_from w name (get_or w.nodes (node_width * k + node_first) 0) (get_or w.nodes (node_width * k + node_count) 0)

-- a value without a text equals nothing
abbrev pub shown_as : List ℕ → Value → Bool
shown_as s no_name = false
shown_as s no_text = false
shown_as s (shows x u d) = eq_bytes x s

abbrev pub says_by : Tree → List ℕ → Option ℕ → Bool
says_by w s None = false
says_by w s (Some j) = shown_as s (attribute_value w.head w.bytes w.lent w.items w.item_area (attribute_at w.attributes j))

unfoldable pub says : Tree → List ℕ → List ℕ → ℕ → Bool
says w name s k = says_by w s (attribute_of w name k)

-- ---- which activities start: S5 to S8

unfoldable pub is_main : Tree → ℕ → Bool
is_main w k = tagged w action_tag k && says w name_name main_text k

unfoldable pub is_launcher : Tree → ℕ → Bool
is_launcher w k = tagged w category_tag k && (says w name_name launcher_text k || says w name_name info_text k)

-- one filter has both, in either order
unfoldable pub is_filter : Tree → ℕ → Bool
is_filter w k = tagged w filter_tag k && (any_of (is_main w) (children_of w k) && any_of (is_launcher w) (children_of w k))

abbrev pub is_activity : Tree → ℕ → Bool
is_activity w k = tagged w activity_tag k || tagged w alias_tag k

-- its own `enabled` alone is asked
unfoldable pub is_enabled : Tree → ℕ → Bool
is_enabled w k = is_activity w k && not (says w enabled_name false_text k)

unfoldable pub starts : Tree → ℕ → Bool
starts w k = is_enabled w k && any_of (is_filter w) (children_of w k)

-- ---- what is given: S1, S9

-- the number of an attribute, nothing where there is none
abbrev pub number_by : Option ℕ → List ℕ
number_by None = []
number_by (Some j) = j ∷ []

unfoldable pub given : Tree → ℕ → List ℕ
given w k = cond (starts w k) (number_by (attribute_of w name_name k)) []

unfoldable pub in_application : Tree → ℕ → List ℕ
in_application w k = cond (tagged w application_tag k) (flat_map (given w) (children_of w k)) []

-- of all applications below the first node
unfoldable pub main_activities : Tree → List ℕ
main_activities w = flat_map (in_application w) (children_of w 0)

-- ---- the answer: S10

-- z are the numbers, m the words of the lent list
abbrev pub answer_by : ℕ → List ℕ → Result ℕ Refusal
answer_by m z = cond (leb (length z) m) (Ok (length z)) (Err (ListFull m))

abbrev pub list_by : ℕ → List ℕ → Result ℕ Refusal → List ℕ
list_by m z (Err r) = replicate m 0
list_by m z (Ok n) = z ++ replicate (m - n) 0

abbrev pub answer_in : ℕ → (Head → List ℕ) → Result Head Refusal → Result ℕ Refusal
answer_in m z (Err r) = Err r
answer_in m z (Ok h) = answer_by m (z h)

abbrev pub list_in : ℕ → (Head → List ℕ) → Result Head Refusal → List ℕ
list_in m z (Err r) = replicate m 0
list_in m z (Ok h) = list_by m (z h) (answer_by m (z h))

module _ (f : List ℕ) (lent : Lent) (items area ns ats : List ℕ) (nodes attributes : ℕ) where
  -- names, items and head first, then the tables
  unfoldable pub main_open : Result Head Refusal
  main_open = shared_by (fit_of ns ats nodes attributes) (value_open f lent items area)

  abbrev pub activities_in : Head → List ℕ
  activities_in h = main_activities (tree_of h (tables_in f h) lent items area ns ats nodes)

  unfoldable pub main_answer : ℕ → Result ℕ Refusal
  main_answer m = answer_in m activities_in main_open

  unfoldable pub list_after : ℕ → List ℕ
  list_after m = list_in m activities_in main_open

-- the numbers of an answer: how many, or a refusal and its value
unfoldable pub main_numbers_of : Result ℕ Refusal → MainNumbers
main_numbers_of (Ok n) = record { refusal = 0; value = 0; count = n }
main_numbers_of (Err r) = record { refusal = refusal_number r; value = value_number r; count = 0 }

pub record MainReads
    (f : List ℕ) (lent : Lent) (items area ns ats before : List ℕ) (nodes attributes : ℕ) (r : Result ℕ Refusal) (after : List ℕ) : Type 0 where
  pub answer : main_numbers_of r ≡ main_numbers_of (main_answer f lent items area ns ats nodes attributes (length before))
  pub list : after ≡ list_after f lent items area ns ats nodes attributes (length before)
