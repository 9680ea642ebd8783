-- What the code knows on its way from pair to pair.
--
--   finds_in    the node that a tag finds in tables that fit; asks_in the answer to a tag and a name there
--   NodeOf     a node is the one that the tag of the pair before k finds; nothing is known before the first
--   Repeats    pair k has the tag of the pair before it
--   Gives      what is answered and left behind, for an answer a and the words of all answers
use Rattle.std.specs.Prelude.{ℕ, ◌+◌, ◌≡◌, List, Option, Result}
use Rattle.system_types.specs.Names.{Lent}
use Rattle.text.specs.declared.Head.{Head}
use Rattle.first_value.specs.Question.{find_node, value_by}
use Rattle.first_values.specs.Pairs.{tag_at, list_by}
use Rattle.errors.specs.declared.FirstValue.{FirstValue}
use Rattle.errors.specs.declared.Refusal.{Refusal}

module _ (h : Head) (t : List ℕ) (lent : Lent) (ns : List ℕ) (nodes : ℕ) where
  abbrev pub finds_in : List ℕ → Option (ℕ × ℕ)
  finds_in tag = find_node h t lent tag nodes ns

  abbrev pub asks_in : List ℕ → List ℕ → List ℕ → Result FirstValue Refusal
  asks_in ats tag name = value_by h t lent name ats (finds_in tag)

pub record NodeOf (find : List ℕ → Option (ℕ × ℕ)) (pairs area : List ℕ) (k : ℕ) (node : Option (ℕ × ℕ)) : Type 0 where
  pub known : (j : ℕ) → k ≡ j + 1 → node ≡ find (tag_at pairs area j)

pub record Repeats (pairs area : List ℕ) (k : ℕ) : Type 0 where
  pub before : ℕ
  pub next : k ≡ before + 1
  pub same : tag_at pairs area k ≡ tag_at pairs area before

pub record Gives (m : ℕ) (words : List ℕ) (a r : Result ℕ Refusal) (after : List ℕ) : Type 0 where
  pub same : r ≡ a
  pub list : after ≡ list_by m words a
