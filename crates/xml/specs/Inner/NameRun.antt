-- What the code is told while it goes through a name. Only the contracts of inner functions cite this file.
--
--   IsTable    a table that has the class of each byte
--   sort_number  the number of a sort (src/lib.rt): 1 first or later in a name, 2 later only, 0 in none
--   sort_at     what a step is in a name: the sort of its value, and in none where it is bad in UTF-16, whose text is then refused
--   begins     the first step is a start
--   chars_in    what is left of a name, from a place on: each value is a char, and nothing is refused
--   Told       the step at a place inside: what it is in a name, and how far it goes
--   Passed     what lies between two places is chars of a name
--   Seen       the same, and it is sound: no U+FFFD stands for a part of it
--   Takes      from a place inside on so many bytes, one at least, are chars of a name, and sound
--   Went       from a place on so many bytes, one at least, are chars of a name
--   Reached    what lies between two places is chars of a name, and where the second lies before `to`, what is left from there on is no part of one
--   Ahead      what lies before `from` is chars of a name, and sound; `to` is a place inside or the end, behind `at`
use Rattle.std.specs.Prelude.{◌≡◌, ℕ, ◌+◌, ◌≤◌, ◌<◌, Bool, false, not, ◌&&◌, cond, List, eqb, length, get_or, drop}
use Rattle.xml.specs.declared.Sort.{Sort}
use Rattle.xml.specs.declared.Sort.TheVariants.{Outside, Start, Later}
use Rattle.utf.specs.declared.Step.{Step}
use Rattle.utf.specs.Text.{step_of, step_value, width_of, sound_of, steps_of, is_sound, refused}
use Rattle.xml.specs.NCName.{char_sort, class_of, all_char}

pub record IsTable (t : List ℕ) : Type 0 where
  pub size : length t ≡ 256
  pub right : (b : ℕ) → b < 256 → get_or t b 0 ≡ class_of b

abbrev pub sort_number : Sort → ℕ
sort_number Outside = 0
sort_number Start = 1
sort_number Later = 2

abbrev pub sort_by : Bool → Bool → ℕ → ℕ
sort_by utf16 sound v = cond (utf16 && not sound) 0 (char_sort v)

abbrev pub sort_at : Bool → Step → ℕ
sort_at utf16 t = sort_by utf16 (sound_of t) (step_value t)

abbrev pub begins : Bool → List ℕ → Bool
begins utf16 s = eqb (sort_at utf16 (step_of utf16 s)) 1

abbrev pub chars_in : Bool → List ℕ → Bool
chars_in utf16 s = cond (refused utf16 s) false (all_char (steps_of utf16 s))

pub record Told (utf16 : Bool) (s : List ℕ) (at sort width : ℕ) : Type 0 where
  pub sort-is : sort ≡ sort_at utf16 (step_of utf16 (drop at s))
  pub width_is : width ≡ width_of (step_of utf16 (drop at s))
  pub least : 1 ≤ width
  pub most : width ≤ 4

pub record Passed (utf16 : Bool) (s : List ℕ) (at to : ℕ) : Type 0 where
  pub later : at ≤ to
  pub rest : chars_in utf16 (drop to s) ≡ chars_in utf16 (drop at s)

pub record Seen (utf16 : Bool) (s : List ℕ) (at to : ℕ) : Type 0 where
  pub passed : Passed utf16 s at to
  pub sound : is_sound utf16 (drop to s) ≡ is_sound utf16 (drop at s)

pub record Takes (utf16 : Bool) (s : List ℕ) (at width : ℕ) : Type 0 where
  pub seen : Seen utf16 s at (at + width)
  pub least : 1 ≤ width
  pub most : at + width ≤ length s

pub record Went (utf16 : Bool) (s : List ℕ) (at width : ℕ) : Type 0 where
  pub passed : Passed utf16 s at (at + width)
  pub least : 1 ≤ width
  pub most : at + width ≤ length s + 4

pub record Reached (utf16 : Bool) (s : List ℕ) (at to r : ℕ) : Type 0 where
  pub passed : Passed utf16 s at r
  pub stuck : r < to → chars_in utf16 (drop r s) ≡ false

pub record Ahead (utf16 : Bool) (s : List ℕ) (at from to : ℕ) : Type 0 where
  pub seen : Seen utf16 s at from
  pub ends : to ≤ length s
  pub farther : at < to
