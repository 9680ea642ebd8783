-- What specs/Lost.antt says, computed: of short lists of marks, and of file S, its relatives and two files more, beside their readings. One table each.
--
--   marks-told   how many starts, how many are kept, how many never get their end
--   files-told   the same of files; files-read: the answers and notes of their readings, with the room of proofs/Cases/Table.antt
use Rattle.std.specs.Prelude.{Result, Ok}
use Prim.Native.Nat.{ℕ}
use mathlib.Core.Path.{◌≡◌, refl}
use mathlib.Core.List.{List, [], ◌∷◌, ◌++◌, map}
use lib.ListN.{length, take}
use Rattle.anomaly.specs.declared.Note.{Note}
use Rattle.system_types.specs.Names.{lends}
use Rattle.walk.specs.Reading.{reading, zero_note}
use Rattle.claims.specs.Lost.{Mark, start, end, marks_in, start_names, still_open, kept_of}
use Rattle.claims.proofs.Cases.Table.{start_s, end_s, head_s, file_s, room, note, none}
use Rattle.claims.proofs.Cases.Computing.{computing}
use Rattle.errors.specs.declared.ReadCounts.{ReadCounts}
use Rattle.errors.specs.declared.Refusal.{Refusal}

pub record Told : Type 0 where
  pub starts : ℕ
  pub kept : ℕ
  pub unended : ℕ

abbrev pub told : ℕ → ℕ → ℕ → Told
told starts kept unended = record { starts = starts; kept = kept; unended = unended }

abbrev pub told_of : List Mark → Told
told_of ms = told (length (start_names ms)) (kept_of ms) (still_open ms)

abbrev pub s : Mark
s = start 0 1

-- ---- marks

pub marks-told : map told_of (
    [] ∷
    (s ∷ []) ∷
    (s ∷ end ∷ []) ∷
    (s ∷ s ∷ s ∷ end ∷ []) ∷
    (end ∷ s ∷ s ∷ []) ∷
    (s ∷ end ∷ s ∷ []) ∷
    (s ∷ s ∷ end ∷ s ∷ []) ∷
    (s ∷ s ∷ end ∷ end ∷ s ∷ end ∷ []) ∷
    (s ∷ end ∷ end ∷ s ∷ s ∷ end ∷ []) ∷ [])
    ≡ told 0 0 0 ∷ told 1 1 1 ∷ told 1 1 0 ∷ told 3 1 2 ∷ told 2 1 2 ∷ told 2 1 1 ∷ told 3 2 2 ∷ told 3 3 0 ∷ told 3 1 1 ∷ []
unfolding computing
marks-told = refl

-- ---- files

-- S; without its end; with an end more; with a start more; without its end and with a start more; with a start and an end more; start, start,
-- start, end; end, start, start
unfoldable pub files : List (List ℕ)
unfolding file_s
files =
    file_s ∷
    take 88 file_s ∷
    (file_s ++ end_s) ∷
    (file_s ++ start_s) ∷
    (take 88 file_s ++ start_s) ∷
    (file_s ++ (start_s ++ end_s)) ∷
    (take 88 file_s ++ (start_s ++ (start_s ++ end_s))) ∷
    (head_s ++ (end_s ++ (start_s ++ start_s))) ∷ []

pub files-told : map (λ (f : List ℕ). told_of (marks_in f)) files
    ≡ told 1 1 0 ∷ told 1 1 1 ∷ told 1 1 0 ∷ told 2 1 1 ∷ told 2 1 2 ∷ told 2 2 0 ∷ told 3 1 2 ∷ told 2 1 2 ∷ []
unfolding files computing
files-told = refl

pub record Left : Type 0 where
  pub answer : Result ReadCounts Refusal
  pub notes : List Note

abbrev pub left : ℕ → ℕ → ℕ → List Note → Left
left starts nodes n os = record { answer = Ok (record { starts = starts; nodes = nodes; attributes = 1; notes = n }); notes = os }

abbrev pub left_of : List ℕ → Left
left_of f = record { answer = (reading room f (lends [] [])).answer; notes = (reading room f (lends [] [])).notes }

-- note 12 with this number, alone
abbrev pub only : ℕ → List Note
only n = note 12 n ∷ zero_note ∷ zero_note ∷ zero_note ∷ []

pub files-read : map left_of files
    ≡ left 1 1 0 none ∷ left 1 1 1 (only 1) ∷ left 1 1 0 none ∷ left 2 1 1 (only 1) ∷ left 2 1 1 (only 2) ∷ left 2 2 0 none ∷ left 3 1 1 (only 2) ∷
    left 2 1 1 (only 2) ∷ []
unfolding files computing
files-read = refl
