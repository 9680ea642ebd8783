-- The items of the names that came before. No claim reaches this file.
--
--   HasRun   an index has a text, and the items of this name are those of a run
--   Looks    what `look_up` answers: no text, or the run
--   Knows    two lists by index: where the second is not 0, it is one more than the end of the run that begins where the first says
use Rattle.std.specs.Prelude.{ℕ, ◌-◌, ◌<◌, ◌≡◌, true, List, length, get_or, Option, Some, None}
use Rattle.text.specs.declared.Head.{Head}
use Rattle.text.specs.Content.{none, content_of, text_in, has_text}
use Rattle.system_types.specs.Names.{Lent}
use Rattle.items.specs.declared.Run.{Run}
use Rattle.items.specs.Inner.Turns.{RunOf}

abbrev pub known_count : ℕ
known_count = 128

module _ (h : Head) (t : List ℕ) (lent : Lent) (items area : List ℕ) where
  pub record HasRun (i : ℕ) (r : Run) : Type 0 where
    pub named : has_text (content_of h t lent i) ≡ true
    pub run : RunOf area (text_in (content_of h t lent i)) items r

  abbrev pub Looks : ℕ → Option Run → Type 0
  Looks i None = content_of h t lent i ≡ none
  Looks i (Some r) = HasRun i r

  pub record Knows (starts ends : List ℕ) : Type 0 where
    pub first : length starts ≡ known_count
    pub last : length ends ≡ known_count
    pub right : (i : ℕ) → 0 < get_or ends i 0 → HasRun i (record { first = get_or starts i 0; end = get_or ends i 0 - 1 })
