-- The numbers of an answer: docs/FORMAT.md, B1, B7.
--
--   refusal_number    the number of a refusal: 1 to 3, 6 to 16, 20, 21, 24 to 29; of a part of pool or map that is short, 41 to 45, 51, 52 (4 and 5 are none)
--   refusal_value     the value of a refusal; 0 where it has none; of a part that is short, the file offset at which it should begin
--   numbers_of        the numbers of a reading's answer: refusal 0 and value 0 with the counts, or a refusal and its value with every count 0
--   state_of          the number of a text's state: 0 whole, 1 replaced characters, 2 bad UTF-16, 3 cut or outside; replaced_of how many were replaced
--   text_numbers_of    the same of a text question: the length of the text, its state, and how many characters were replaced
--   lines_numbers_of   the same of what was printed: its length
--   first_numbers_of   the same of a first-value question; its reference is 1 or 0
--   value_numbers_of   the same of a value text: the length, how many set bits no name covers, state and count as of a text question
--   many_numbers_of    the same of many texts at once: how many, and the bytes of all of them
--   pair_numbers_of    the same of many pairs at once: how many
--
-- Equal numbers are equal answers: `numbers_of-unique` and its like in proofs/Laws.antt.
use Rattle.std.specs.Prelude.{ℕ, cond, Result, Ok, Err}
use Rattle.errors.specs.declared.Refusal.{Refusal}
use Rattle.errors.specs.declared.Refusal.TheVariants.{TooSmallError, TooLargeError, HeaderSizeError}
use Rattle.errors.specs.declared.Refusal.TheVariants.{MissingRoot, SystemNamesError, NodesFull}
use Rattle.errors.specs.declared.Refusal.TheVariants.{AttributesFull, NotesFull, TextShort, NothingFound, TablesError}
use Rattle.errors.specs.declared.Refusal.TheVariants.{ItemsError, NoPlainText, AnswersFull}
use Rattle.errors.specs.declared.Refusal.TheVariants.{ModeError, PairsError, ListingMalformed, ListingNumber, ListingOrder, NotesOff, ListFull}
use Rattle.errors.specs.declared.Refusal.TheVariants.{RoundUpFull}
use Rattle.errors.specs.declared.Refusal.TheVariants.{StringPoolGarbage, StringPoolHeader, StringPoolOffsets, StringPoolStyles}
use Rattle.errors.specs.declared.Refusal.TheVariants.{StringPoolData, ResourceMapHeader, ResourceMapIds}
use Rattle.errors.specs.declared.Numbers.{Numbers}
use Rattle.errors.specs.declared.TextState.{TextState}
use Rattle.errors.specs.declared.TextState.TheVariants.{Whole, Replaced, Unpaired, Cut}
use Rattle.errors.specs.declared.TextNumbers.{TextNumbers}
use Rattle.errors.specs.declared.LinesNumbers.{LinesNumbers}
use Rattle.errors.specs.declared.FirstNumbers.{FirstNumbers}
use Rattle.errors.specs.declared.ValueNumbers.{ValueNumbers}
use Rattle.errors.specs.declared.ManyNumbers.{ManyNumbers}
use Rattle.errors.specs.declared.PairNumbers.{PairNumbers}
use Rattle.errors.specs.declared.FirstValue.{FirstValue}
use Rattle.errors.specs.declared.ReadCounts.{ReadCounts}
use Rattle.errors.specs.declared.TextWritten.{TextWritten}
use Rattle.errors.specs.declared.TextsWritten.{TextsWritten}
use Rattle.errors.specs.declared.ValueWritten.{ValueWritten}

unfoldable pub refusal_number : Refusal → ℕ
refusal_number (TooSmallError length) = 1
refusal_number TooLargeError = 2
refusal_number (HeaderSizeError size) = 3
refusal_number MissingRoot = 6
refusal_number (SystemNamesError entry) = 7
refusal_number (NodesFull places) = 8
refusal_number (AttributesFull places) = 9
refusal_number (NotesFull places) = 10
refusal_number (TextShort needed) = 11
refusal_number NothingFound = 12
refusal_number (TablesError node) = 13
refusal_number (ItemsError item) = 14
refusal_number (NoPlainText kind) = 15
refusal_number (ModeError mode) = 16
refusal_number (PairsError pair) = 20
refusal_number (AnswersFull places) = 21
refusal_number (ListingMalformed line) = 24
refusal_number (ListingNumber line) = 25
refusal_number (ListingOrder line) = 26
refusal_number NotesOff = 27
refusal_number (ListFull places) = 28
refusal_number RoundUpFull = 29
refusal_number (StringPoolGarbage at) = 41
refusal_number (StringPoolHeader at) = 42
refusal_number (StringPoolOffsets at) = 43
refusal_number (StringPoolStyles at) = 44
refusal_number (StringPoolData at) = 45
refusal_number (ResourceMapHeader at) = 51
refusal_number (ResourceMapIds at) = 52

unfoldable pub refusal_value : Refusal → ℕ
refusal_value (TooSmallError length) = length
refusal_value TooLargeError = 0
refusal_value (HeaderSizeError size) = size
refusal_value MissingRoot = 0
refusal_value (SystemNamesError entry) = entry
refusal_value (NodesFull places) = places
refusal_value (AttributesFull places) = places
refusal_value (NotesFull places) = places
refusal_value (TextShort needed) = needed
refusal_value NothingFound = 0
refusal_value (TablesError node) = node
refusal_value (ItemsError item) = item
refusal_value (NoPlainText kind) = kind
refusal_value (ModeError mode) = mode
refusal_value (PairsError pair) = pair
refusal_value (AnswersFull places) = places
refusal_value (ListingMalformed line) = line
refusal_value (ListingNumber line) = line
refusal_value (ListingOrder line) = line
refusal_value NotesOff = 0
refusal_value (ListFull places) = places
refusal_value RoundUpFull = 0
refusal_value (StringPoolGarbage at) = at
refusal_value (StringPoolHeader at) = at
refusal_value (StringPoolOffsets at) = at
refusal_value (StringPoolStyles at) = at
refusal_value (StringPoolData at) = at
refusal_value (ResourceMapHeader at) = at
refusal_value (ResourceMapIds at) = at

unfoldable pub numbers_of : Result ReadCounts Refusal → Numbers
numbers_of (Ok c) =
    record { refusal = 0; value = 0; starts = c.starts; nodes = c.nodes; attributes = c.attributes; notes = c.notes }
numbers_of (Err r) =
    record { refusal = refusal_number r; value = refusal_value r; starts = 0; nodes = 0; attributes = 0; notes = 0 }

abbrev pub state_of : TextState → ℕ
state_of Whole = 0
state_of (Replaced n) = 1
state_of Unpaired = 2
state_of Cut = 3

abbrev pub replaced_of : TextState → ℕ
replaced_of Whole = 0
replaced_of (Replaced n) = n
replaced_of Unpaired = 0
replaced_of Cut = 0

unfoldable pub text_numbers_of : Result TextWritten Refusal → TextNumbers
text_numbers_of (Ok w) = record { refusal = 0; value = 0; length = w.length; state = state_of w.state; replaced = replaced_of w.state }
text_numbers_of (Err r) = record { refusal = refusal_number r; value = refusal_value r; length = 0; state = 0; replaced = 0 }

unfoldable pub lines_numbers_of : Result ℕ Refusal → LinesNumbers
lines_numbers_of (Ok n) = record { refusal = 0; value = 0; length = n }
lines_numbers_of (Err r) = record { refusal = refusal_number r; value = refusal_value r; length = 0 }

unfoldable pub first_numbers_of : Result FirstValue Refusal → FirstNumbers
first_numbers_of (Ok w) =
    record { refusal = 0; value = 0; kind = w.kind; «data» = w.«data»; reference = cond w.reference 1 0 }
first_numbers_of (Err r) = record { refusal = refusal_number r; value = refusal_value r; kind = 0; «data» = 0; reference = 0 }

unfoldable pub value_numbers_of : Result ValueWritten Refusal → ValueNumbers
value_numbers_of (Ok w) =
    record { refusal = 0; value = 0; length = w.length; uncovered = w.uncovered; state = state_of w.state; replaced = replaced_of w.state }
value_numbers_of (Err r) = record { refusal = refusal_number r; value = refusal_value r; length = 0; uncovered = 0; state = 0; replaced = 0 }

unfoldable pub many_numbers_of : Result TextsWritten Refusal → ManyNumbers
many_numbers_of (Ok w) = record { refusal = 0; value = 0; count = w.count; length = w.length }
many_numbers_of (Err r) = record { refusal = refusal_number r; value = refusal_value r; count = 0; length = 0 }

unfoldable pub pair_numbers_of : Result ℕ Refusal → PairNumbers
pair_numbers_of (Ok n) = record { refusal = 0; value = 0; count = n }
pair_numbers_of (Err r) = record { refusal = refusal_number r; value = refusal_value r; count = 0 }
