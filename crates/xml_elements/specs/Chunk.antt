-- What stands at the front of the bytes that are left of a body: docs/FORMAT.md, W1 to W3 and W6 to W19.
--
--   turn_of      fewer than 8 bytes; a foreign chunk with its sort, the number of its note and its bytes; or an XML chunk, whole or cut
--   used_of      the bytes that the walk takes for it: all that is left for a chunk that is cut, 0 where the walk ends
--   start_of     what a start says of itself; start_len the bytes that it takes, with gap, attributes and what is behind them
--   attribute_at the attribute at the front of the bytes left
--
-- No position, no room, no name. A size bounds nothing but what is behind a start's attributes. Laws: proofs/Laws.antt.
use Rattle.std.specs.Prelude.{ℕ, ◌+◌, ◌-◌, ◌*◌, List, cond, length, ltb, eqb, Option, Some, None}
use Rattle.field.specs.Le.{u8le, u16le, u32le}
use Rattle.common.specs.Header.{header_of}
use Rattle.common.specs.declared.ResChunkHeader.{ResChunkHeader}
use Rattle.common.specs.declared.StringIndex.{StringIndex}
use Rattle.chunk.specs.Sort.{chunk_sort, foreign_len}
use Rattle.xml_elements.specs.declared.XmlStartElement.{XmlStartElement}
use Rattle.xml_elements.specs.declared.XmlAttributeElement.{XmlAttributeElement}
use Rattle.xml_elements.specs.declared.Chunk.{Chunk}
use Rattle.xml_elements.specs.declared.Chunk.TheVariants.{Start, End, Other, Last}
use Rattle.xml_elements.specs.declared.CutChunk.TheVariants.{CutLine, CutHead, CutGap, CutAttributes, CutTrailing, CutEnd, CutOther}
use Rattle.xml_elements.specs.declared.Turn.{Turn}
use Rattle.xml_elements.specs.declared.Turn.TheVariants.{Stop, Foreign, Met, Cut}

-- ---- a start

abbrev pub index : ℕ → StringIndex
index n = record { 0 = n }

-- behind the header line and comment, 8 bytes; then namespace, name, the three numbers of its attributes, and 6 bytes without effect
unfoldable pub start_of : List ℕ → XmlStartElement
start_of l = record {
  size = u32le l 4;
  line = u32le l 8;
  name = index (u32le l 20);
  attribute_start = u16le l 24;
  attribute_size = u16le l 26;
  attribute_count = u16le l 28;
}

-- the excess of attribute_start over 20 is skipped
abbrev pub gap_of : XmlStartElement → ℕ
gap_of s = s.attribute_start - 20

-- an attribute takes 20 bytes and the excess of attribute_size over them
abbrev pub stride_of : XmlStartElement → ℕ
stride_of s = 20 + (s.attribute_size - 20)

-- where the attributes begin and where they end, from the chunk's first byte
abbrev pub attributes_at : XmlStartElement → ℕ
attributes_at s = 36 + gap_of s

abbrev pub attributes_end : XmlStartElement → ℕ
attributes_end s = attributes_at s + s.attribute_count * stride_of s

-- what the chunk's size has beyond them is skipped too
abbrev pub trailing_of : XmlStartElement → ℕ
trailing_of s = s.size - attributes_end s

abbrev pub start_len : XmlStartElement → ℕ
start_len s = attributes_end s + trailing_of s

unfoldable pub attribute_at : List ℕ → XmlAttributeElement
attribute_at l = record { namespace_uri = index (u32le l 0); name = index (u32le l 4); data_type = u8le l 15; «data» = u32le l 16 }

-- ---- what stands here

-- short in the 20 bytes of a start; in its gap; in its attributes; in what is behind them
unfoldable pub start_turn : List ℕ → Turn
start_turn l =
    cond (ltb (length l) 36) (Cut CutHead)
    (cond (ltb (length l) (attributes_at (start_of l))) (Cut (CutGap (start_of l)))
    (cond (ltb (length l) (attributes_end (start_of l))) (Cut (CutAttributes (start_of l)))
    (cond (ltb (length l) (start_len (start_of l))) (Cut (CutTrailing (start_of l))) (Met (Start (start_of l))))))

-- line and comment; then 0x17f nothing, 0x102 a start, 0x103 an end with 8 bytes, 0x104 cdata with 12, else a namespace with 8
unfoldable pub xml_turn : List ℕ → ℕ → Turn
xml_turn l kind =
    cond (ltb (length l) 16) (Cut CutLine)
    (cond (eqb kind 0x17f) (Met Last)
    (cond (eqb kind 0x102) (start_turn l)
    (cond (eqb kind 0x103) (cond (ltb (length l) 24) (Cut CutEnd) (Met End))
    (cond (eqb kind 0x104) (cond (ltb (length l) 28) (Cut CutOther) (Met (Other 28)))
    (cond (ltb (length l) 24) (Cut CutOther) (Met (Other 24)))))))

-- the number of a foreign chunk's note: its type, or the header size of one that is XML
unfoldable pub foreign_number : ResChunkHeader → ℕ
foreign_number h = cond (eqb (chunk_sort h) 0) h.kind h.header_size

abbrev pub turn_by : List ℕ → Option ResChunkHeader → Turn
turn_by l None = Stop
turn_by l (Some h) = cond (eqb (chunk_sort h) 2) (xml_turn l h.kind) (Foreign (chunk_sort h) (foreign_number h) (foreign_len (length l) h))

unfoldable pub turn_of : List ℕ → Turn
turn_of l = turn_by l (header_of l)

-- ---- how far it goes

abbrev pub len_of : Chunk → ℕ
len_of (Start s) = start_len s
len_of End = 24
len_of (Other n) = n
len_of Last = 16

-- of n bytes that are left
abbrev pub used_of : ℕ → Turn → ℕ
used_of n Stop = 0
used_of n (Foreign k a u) = u
used_of n (Met c) = len_of c
used_of n (Cut c) = n
