-- What the code knows on its way through the nodes. No claim reaches this file.
--
--   Ready      an open file beside tables that fit: what every function here is called with
--   rest       the children of p from number k on
--   Within     the nodes behind a and before k are inside a: whoever goes on at k has passed over no child of a node before a
--   Filtering  a filter, looked at up to k; Seeking an activity
--   Holds      the numbers found so far at the front of the lent list, where it has room, and those that are still to come
--   Gives      what is answered and left behind, for the numbers z
--   Fits       a text to compare with: not empty, and no longer than the buffer
--   said_is     whether a text is there and is these bytes
use Rattle.std.specs.Prelude.{ℕ, ◌+◌, ◌-◌, ◌*◌, ◌≤◌, ◌<◌, ◌≡◌, Bool, false, ◌||◌, List, ◌++◌, length, take, get_or, Result, Ok}
use Rattle.utf.specs.Text.{eq_bytes}
use Rattle.records.specs.Words.{node_width, node_first, node_count, attribute_width}
use Rattle.text.specs.Inner.Found.{Asks}
use Rattle.items.specs.Items.{table_of}
use Rattle.items.specs.Values.{Text, nothing, says}
use Rattle.main_activities.specs.Activities.{Tree, children_from, children_of, any_of, is_main, is_launcher, is_filter, answer_by, list_by}
use Rattle.errors.specs.declared.Refusal.{Refusal}

pub record Ready (w : Tree) : Type 0 where
  pub asks : Asks w.bytes w.lent w.head
  pub good : table_of w.item_area w.items ≡ (Ok tt)
  pub fits : node_width * w.count ≤ length w.nodes
  pub small : (k : ℕ) → k < w.count → get_or w.nodes (node_width * k + node_first) 0 + get_or w.nodes (node_width * k + node_count) 0 < 4294967296
  pub inside :
      (k : ℕ) → k < w.count
      → attribute_width * (get_or w.nodes (node_width * k + node_first) 0 + get_or w.nodes (node_width * k + node_count) 0) ≤ length w.attributes

abbrev pub rest : Tree → ℕ → ℕ → List ℕ
rest w p k = children_from w.nodes p k (w.count - k)

-- A node before a finds the same children from a + 1 on and from k on. So a loop over its children that met a, and looked inside it up to k,
-- goes on at k.
pub record Within (w : Tree) (a k : ℕ) : Type 0 where
  pub later : a < k
  pub fits : k ≤ w.count
  pub same : (p : ℕ) → p < a → rest w p (a + 1) ≡ rest w p k

pub record Filtering (w : Tree) (a k : ℕ) (main launcher : Bool) : Type 0 where
  pub within : Within w a k
  pub mains : any_of (is_main w) (children_of w a) ≡ (main || any_of (is_main w) (rest w a k))
  pub launchers : any_of (is_launcher w) (children_of w a) ≡ (launcher || any_of (is_launcher w) (rest w a k))

pub record Seeking (w : Tree) (a k : ℕ) : Type 0 where
  pub within : Within w a k
  pub filters : any_of (is_filter w) (children_of w a) ≡ any_of (is_filter w) (rest w a k)

pub record Holds (z after l : List ℕ) (n : ℕ) : Type 0 where
  pub kept : n ≤ length l → z ≡ take n l ++ after
  pub full : length l < n → length l < length z

pub record Gives (m : ℕ) (z : List ℕ) (r : Result ℕ Refusal) (after : List ℕ) : Type 0 where
  pub same : r ≡ answer_by m z
  pub list : after ≡ list_by m z (answer_by m z)

pub record Fits (expected out : List ℕ) : Type 0 where
  pub some : 0 < length expected
  pub fits : length expected ≤ length out

abbrev pub said_is : List ℕ → Text → Bool
said_is s nothing = false
said_is s (says x) = eq_bytes x s
