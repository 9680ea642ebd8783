-- A reading whose notes are lent as words, and its answer as a struct of numbers: docs/FORMAT.md, B1, B6, B7, B8, B12.
--
--   words_of      the words of notes
--   word_room     the room of tables with these contents before the call: a place for the words of each whole note in the note table
--   answer_of     the numbers of an answer as the struct that C has
--   ReadsWords   THE PROMISE of `axml_read`: the numbers and the tables of `reading` at that room, and zeros behind the last place
--   put_note, is_clearing   what the code does on its way, not to be believed
use Rattle.std.specs.Prelude.{ℕ, ◌+◌, ◌*◌, ◌/◌, ◌%◌, ◌≡◌, Bool, true, false, List, [], ◌∷◌, ◌++◌, length, set, replicate}
use Rattle.anomaly.specs.declared.Note.{Note}
use Rattle.errors.specs.declared.Numbers.{Numbers}
use Rattle.errors.specs.Refusal.{numbers_of}
use Rattle.records.specs.Words.{note_width, note_kind, note_a, note_b, note_words}
use Rattle.system_types.specs.Names.{Lent}
use Rattle.walk.specs.declared.Stage.{Stage}
use Rattle.walk.specs.declared.Stage.TheVariants.{Fresh, Reading as InBody, Clearing}
use Rattle.walk.specs.Settle.{Room}
use Rattle.walk.specs.Reading.{reading}
use Rattle.c_api.specs.declared.AxmlAnswer.{AxmlAnswer}

unfoldable pub words_of : List Note → List ℕ
words_of [] = []
words_of (n ∷ os) = note_words n.kind n.a n.b ++ words_of os

abbrev pub word_room : List ℕ → List ℕ → List ℕ → ℕ → ℕ → Room
word_room ns ats ws cap mode = record { nodes = length ns; attributes = length ats; notes = length ws / note_width; cap = cap; mode = mode }

abbrev pub answer_of : Numbers → AxmlAnswer
answer_of n = record {
  refusal = n.refusal;
  value = n.value;
  starts = n.starts;
  nodes = n.nodes;
  attributes = n.attributes;
  notes = n.notes;
}

pub record ReadsWords (f : List ℕ) (lent : Lent) (ns ats ws : List ℕ) (cap mode : ℕ) (r : AxmlAnswer) (ns' ats' ws' : List ℕ) : Type 0 where
  pub answer : r ≡ answer_of (numbers_of (reading (word_room ns ats ws cap mode) f lent).answer)
  pub nodes : ns' ≡ (reading (word_room ns ats ws cap mode) f lent).nodes
  pub attributes : ats' ≡ (reading (word_room ns ats ws cap mode) f lent).attributes
  pub notes : ws' ≡ words_of (reading (word_room ns ats ws cap mode) f lent).notes ++ replicate (length ws % note_width) 0

-- ---- on the way

-- the words of a note at its place
abbrev pub put_note : List ℕ → ℕ → Note → List ℕ
put_note ws k n = set (set (set ws (note_width * k + note_kind) n.kind) (note_width * k + note_a) n.a) (note_width * k + note_b) n.b

-- the answer is known, and the note table is cleared
abbrev pub is_clearing : Stage → Bool
is_clearing Fresh = false
is_clearing InBody = false
is_clearing (Clearing a) = true
