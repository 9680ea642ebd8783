-- A month of files read by calls of `axml_read` and added to a round-up: the words of `month-grid`. docs/FORMAT.md, R4, R7.
--
--   Called    a call of `axml_read`, whatever it was lent, and what it gave
--   Told      what `add_reading` is told of a call: its notes by kind, counted in the note table that it left, its answer, and the file's length
--   AllTold   so of each of these calls, in their order
--   kept_of    how many of the notes kept of the file are of kinds 0 to 12; none of a file that was refused; kept_in of all of these
use Rattle.std.specs.Prelude.{ℕ, ◌+◌, ◌≡◌, List, [], ◌∷◌, map, length, Result, Ok, Err}
use Rattle.anomaly.specs.Note.{kind_number}
use Rattle.anomaly.specs.Kept.{kept_notes}
use Rattle.anomaly.specs.declared.ResAnomaly.{ResAnomaly}
use Rattle.errors.specs.Refusal.{numbers_of}
use Rattle.round_up.specs.Kinds.{kinds_in, in_grid}
use Rattle.round_up.specs.History.{File}
use Rattle.system_types.specs.Names.{Lent}
use Rattle.c_api.specs.Words.{answer_of, ReadsWords}
use Rattle.claims.specs.Counts.{event_notes}
use Rattle.claims.specs.Readers.{events_of}
use Rattle.errors.specs.declared.ReadCounts.{ReadCounts}
use Rattle.errors.specs.declared.Refusal.{Refusal}

pub record Called : Type 0 where
  pub file : List ℕ
  pub lent : Lent
  pub nodes : List ℕ
  pub attributes : List ℕ
  pub notes : List ℕ
  pub cap : ℕ
  pub mode : ℕ
  pub answer : Result ReadCounts Refusal
  pub nodes' : List ℕ
  pub attributes' : List ℕ
  pub notes' : List ℕ
  pub reads : ReadsWords file lent nodes attributes notes cap mode (answer_of (numbers_of answer)) nodes' attributes' notes'

pub record Told (x : Called) (f : File) : Type 0 where
  pub kinds : f.kept ≡ kinds_in x.notes' (numbers_of x.answer).notes
  pub answer : f.answer ≡ x.answer
  pub bytes : f.bytes ≡ length x.file

abbrev pub AllTold : List Called → List File → Type 0
AllTold [] [] = Unit {0}
AllTold [] (f ∷ fs) = ⊥
AllTold (x ∷ xs) [] = ⊥
AllTold (x ∷ xs) (f ∷ fs) = Told x f × AllTold xs fs

abbrev pub kept_by : Result ReadCounts Refusal → List ResAnomaly → ℕ
kept_by (Ok c) xs = in_grid (map kind_number xs)
kept_by (Err e) xs = 0

abbrev pub kept_of : Called → ℕ
kept_of x = kept_by x.answer (kept_notes x.cap (event_notes (events_of x.mode x.file x.lent)))

abbrev pub kept_in : List Called → ℕ
kept_in [] = 0
kept_in (x ∷ xs) = kept_of x + kept_in xs
