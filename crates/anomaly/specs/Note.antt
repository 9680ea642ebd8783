-- The notes of a file that is read all the same: docs/FORMAT.md, B12.
--
--   note_of       the number of a kind, and its numbers a and b, 0 where the kind has none
--   kind_number   the printed number of a kind
--   kinds        how many kinds there are
--   kind_index    the place of a kind in the counts, below that; another thing than its printed number
--   kind_numbers  the printed numbers in the order of the places
--
-- Laws: proofs/Laws.antt.
use Rattle.std.specs.Prelude.{ℕ, List, [], ◌∷◌}
use Rattle.anomaly.specs.declared.Note.{Note}
use Rattle.anomaly.specs.declared.ResAnomaly.{ResAnomaly}
use Rattle.anomaly.specs.declared.ResAnomaly.TheVariants.{StringPoolGarbageChunk, StringCountMismatch, StringOffsetsOutOfBounds, NonXmlChunk}
use Rattle.anomaly.specs.declared.ResAnomaly.TheVariants.{XmlNodeHeaderSize, UnknownChunk, AttributeStartShifted, AttributeSizeMismatch}
use Rattle.anomaly.specs.declared.ResAnomaly.TheVariants.{ElementTrailingBytes, InvalidElementName, InvalidAttributeName, TruncatedXml, UnclosedElements}
use Rattle.anomaly.specs.declared.ResAnomaly.TheVariants.{DamagedElementName}

abbrev pub made : ℕ → ℕ → ℕ → Note
made kind a b = record { kind = kind; a = a; b = b }

unfoldable pub note_of : ResAnomaly → Note
note_of (StringPoolGarbageChunk chunk-type skipped) = made 0 chunk-type skipped
note_of (StringCountMismatch declared actual) = made 1 declared actual
note_of (StringOffsetsOutOfBounds count) = made 2 count 0
note_of (NonXmlChunk chunk-type) = made 3 chunk-type 0
note_of (XmlNodeHeaderSize header-size) = made 4 header-size 0
note_of (UnknownChunk chunk-type) = made 5 chunk-type 0
note_of (AttributeStartShifted attribute-start) = made 6 attribute-start 0
note_of (AttributeSizeMismatch attribute-size) = made 7 attribute-size 0
note_of (ElementTrailingBytes len) = made 8 len 0
note_of (InvalidElementName name has-text) = made 9 name.0 has-text
note_of (InvalidAttributeName name) = made 10 name.0 0
note_of TruncatedXml = made 11 0 0
note_of (UnclosedElements count) = made 12 count 0
note_of (DamagedElementName name state) = made 32 name.0 state

abbrev pub kind_number : ResAnomaly → ℕ
kind_number x = (note_of x).kind

abbrev pub kinds : ℕ
kinds = 14

unfoldable pub kind_index : ResAnomaly → ℕ
kind_index (StringPoolGarbageChunk chunk-type skipped) = 0
kind_index (StringCountMismatch declared actual) = 1
kind_index (StringOffsetsOutOfBounds count) = 2
kind_index (NonXmlChunk chunk-type) = 3
kind_index (XmlNodeHeaderSize header-size) = 4
kind_index (UnknownChunk chunk-type) = 5
kind_index (AttributeStartShifted attribute-start) = 6
kind_index (AttributeSizeMismatch attribute-size) = 7
kind_index (ElementTrailingBytes len) = 8
kind_index (InvalidElementName name has-text) = 9
kind_index (InvalidAttributeName name) = 10
kind_index TruncatedXml = 11
kind_index (UnclosedElements count) = 12
kind_index (DamagedElementName name state) = 13

unfoldable pub kind_numbers : List ℕ
kind_numbers = 0 ∷ 1 ∷ 2 ∷ 3 ∷ 4 ∷ 5 ∷ 6 ∷ 7 ∷ 8 ∷ 9 ∷ 10 ∷ 11 ∷ 12 ∷ 32 ∷ []
