-- Names that are known to be another than the tag.
--
--   Others   a list of indices, one more each: whatever stands in it, its text is not the tag; 0 says nothing
--   Tells    whether a node has the tag, and a list that is still of others
use Rattle.std.specs.Prelude.{ℕ, ◌+◌, ◌≡◌, Bool, false, List, get_or}
use Rattle.text.specs.declared.Head.{Head}
use Rattle.system_types.specs.Names.{Lent}
use Rattle.first_value.specs.Question.{text_is, tag_is}

pub record Others (h : Head) (t : List ℕ) (lent : Lent) (tag known : List ℕ) : Type 0 where
  pub other : (j i : ℕ) → get_or known j 0 ≡ i + 1 → text_is h t lent i tag ≡ false

pub record Tells (h : Head) (t : List ℕ) (lent : Lent) (tag : List ℕ) (fixed index : ℕ) (r : Bool) (known : List ℕ) : Type 0 where
  pub same : r ≡ tag_is h t lent tag fixed index
  pub others : Others h t lent tag known
