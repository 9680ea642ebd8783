-- What is remembered while a file is read: what a look at the text of an index, or at a long string of the pool, tells of a name. Not part of what a
-- reader must believe.
--
--   look_by      state of the text and sort of name as one number: 8 for no text, else twice the state, and 1 more for a valid name. So 1 is a valid name
--               whose text is whole, as most are
--   look_of      that number of what an index stands for
--   state_by     the sort of name that a look tells
--   look_step    the step at an element's name, by a look at it
--   mark_of      what is kept of an index and a look, at the place of the index: its quotient by 1,024 and one more, 16 times, and the look; 0 says nothing
--   place_of     the place of an index, its remainder by 1,024
--   look_place   the place of a long string, of which 512 are kept, behind those of the indices; length_place that of its length
--   Remembers   2,048 words: an index whose mark stands at its place has the look that it says; and where the length at a place of long strings is n,
--               not 0, and the word there is 16 times `at` and a look, the n bytes from `at` on have that look, whichever place it is
use Rattle.std.specs.Prelude.{ℕ, ◌+◌, ◌*◌, ◌/◌, ◌%◌, ◌≤◌, ◌<◌, ◌≡◌, List, cond, length, get_or, take, drop, eqb, ltb}
use Rattle.utf.specs.Text.{state_number}
use Rattle.system_types.specs.Names.{Lent}
use Rattle.text.specs.Content.{Content, some, content_of, damage_in, state_in}
use Rattle.text.specs.declared.Head.{Head}
use Rattle.text.specs.declared.NameState.{NameState}
use Rattle.text.specs.declared.NameState.TheVariants.{NoText, Invalid, Valid}
use Rattle.anomaly.specs.declared.ResAnomaly.TheVariants.{InvalidElementName, DamagedElementName}
use Rattle.events.specs.declared.Event.TheVariants.{Note}
use Rattle.events.specs.declared.Phase.TheVariants.{AtNamed, AtOpen}
use Rattle.events.specs.declared.Cursor.{Cursor}
use Rattle.events.specs.declared.Step.{Step}
use Rattle.events.specs.Inner.Steps.{to_step, open_step}

abbrev pub look_by : ℕ → NameState → ℕ
look_by d NoText = 8
look_by d Invalid = 2 * d
look_by d Valid = 2 * d + 1

abbrev pub look_of : Content → ℕ
look_of k = look_by (state_number (damage_in k)) (state_in k)

abbrev pub state_by : ℕ → NameState
state_by n = cond (eqb n 8) NoText (cond (eqb (n % 2) 1) Valid Invalid)

abbrev pub look_step : Cursor → ℕ → Step
look_step c n =
    cond (eqb n 1) (open_step c 0)
    (cond (eqb n 8) (to_step c (Note (InvalidElementName c.start.name 0)) AtOpen)
    (cond (ltb n 2) (to_step c (Note (InvalidElementName c.start.name 1)) AtOpen)
    (to_step c (Note (DamagedElementName c.start.name (n / 2))) AtNamed)))

abbrev pub mark_of : ℕ → ℕ → ℕ
mark_of i look = 16 * (i / 1024 + 1) + look

abbrev pub place_of : ℕ → ℕ
place_of i = i % 1024

abbrev pub look_place : ℕ → ℕ
look_place p = 1024 + p

abbrev pub length_place : ℕ → ℕ
length_place p = 1536 + p

-- how many long strings are kept
abbrev pub strings : ℕ
strings = 512

-- how many words are kept
abbrev pub words : ℕ
words = 2048

pub record Remembers (h : Head) (t : List ℕ) (lent : Lent) (memory : List ℕ) : Type 0 where
  pub room : length memory ≡ words
  pub tells : (i : ℕ) → get_or memory (place_of i) 0 / 16 ≡ i / 1024 + 1 → get_or memory (place_of i) 0 % 16 ≡ look_of (content_of h t lent i)
  pub longs : (p at n : ℕ) → p < strings → 1 ≤ n → get_or memory (look_place p) 0 / 16 ≡ at → get_or memory (length_place p) 0 ≡ n
      → get_or memory (look_place p) 0 % 16 ≡ look_of (some h.utf16 (take n (drop at t)))
