-- The numbers that are read from bytes are below 2^32: docs/FORMAT.md, F1, W13 to W17. For proofs/Small/Events.antt. No contract cites this file.
--
--   Fits            below 2^32
--   InBytes         each entry of a list is below 256, by its place; below-bytes: by the test that is computed over the list
--   SmallStart, SmallAttribute, SmallHeader, SmallTurn   each number of a start, of an attribute, of a header, of a turn fits
--   start_small, attribute-small, header-small, turn_small   so it is with what is read from bytes
use Rattle.std.specs.Prelude.{Option, Some, None}
use Prim.Native.Nat.{ℕ, zero, suc, ◌+◌, ◌<◌}
use native.Mathlib.Omega.{arith}
use mathlib.Core.Path.{◌≡◌}
use mathlib.Core.List.{List, [], ◌∷◌}
use mathlib.Core.Bool.{true}
use borrow.Author.Tests.{ltb-true}
use lib.ListN.{length, drop, get_or}
use lib.Seq.{get_or-drop}
use lib.Dec.{ltb, eqb}
use Rattle.utf.proofs.Tables.{both_true}
use Rattle.field.specs.Le.{u16le, u32le}
use Rattle.common.specs.Header.{header_of}
use Rattle.common.specs.declared.ResChunkHeader.{ResChunkHeader}
use Rattle.chunk.specs.Sort.{chunk_sort}
use Rattle.xml_elements.specs.declared.XmlStartElement.{XmlStartElement}
use Rattle.xml_elements.specs.declared.XmlAttributeElement.{XmlAttributeElement}
use Rattle.xml_elements.specs.declared.Chunk.{Chunk}
use Rattle.xml_elements.specs.declared.Chunk.TheVariants.{Start, End, Other, Last}
use Rattle.xml_elements.specs.declared.CutChunk.{CutChunk}
use Rattle.xml_elements.specs.declared.CutChunk.TheVariants.{CutLine, CutHead, CutGap, CutAttributes, CutTrailing, CutEnd, CutOther}
use Rattle.xml_elements.specs.declared.Turn.{Turn}
use Rattle.xml_elements.specs.declared.Turn.TheVariants.{Stop, Foreign, Met, Cut}
use Rattle.xml_elements.specs.Chunk.{start_of, attributes_at, attributes_end, start_len, attribute_at, start_turn, xml_turn, foreign_number, turn_by, turn_of}
use Rattle.xml_elements.proofs.Laws.{cond-by}
use Rattle.claims.specs.Readers.{all_below}

abbrev pub Fits : ℕ → Type 0
Fits n = n < 4294967296

-- ---- numbers of bytes

abbrev pub InBytes : List ℕ → Type 0
InBytes l = (i : ℕ) → get_or l i 0 < 256

pub below-bytes : (l : List ℕ) → all_below 256 l ≡ true → InBytes l
below-bytes [] h i = omega arith
below-bytes (x ∷ l) h zero = ltb-true x 256 (both_true (ltb x 256) (all_below 256 l) h).0
below-bytes (x ∷ l) h (suc i) = below-bytes l (both_true (ltb x 256) (all_below 256 l) h).1 i

pub drop-bytes : (n : ℕ) (l : List ℕ) → InBytes l → InBytes (drop n l)
drop-bytes n l h i = rw (get_or-drop n l i 0) (h (n + i))

module _ (l : List ℕ) (h : InBytes l) where
  u16-short : (at : ℕ) → u16le l at < 65536
  unfolding u16le
  u16-short at = omega (arith, h at, h (at + 1))

  pub u16-fits : (at : ℕ) → Fits (u16le l at)
  u16-fits at = omega (arith, u16-short at)

  pub u32-fits : (at : ℕ) → Fits (u32le l at)
  unfolding u32le
  u32-fits at = omega (arith, u16-short at, u16-short (at + 2))

-- ---- a start, an attribute

pub record SmallStart (s : XmlStartElement) : Type 0 where
  pub size : Fits s.size
  pub line : Fits s.line
  pub name : Fits s.name.0
  pub shift : Fits s.attribute_start
  pub width : Fits s.attribute_size

pub start_small : (l : List ℕ) → InBytes l → SmallStart (start_of l)
unfolding start_of
start_small l h = record { size = u32-fits l h 4; line = u32-fits l h 8; name = u32-fits l h 20; shift = u16-fits l h 24; width = u16-fits l h 26 }

pub record SmallAttribute (a : XmlAttributeElement) : Type 0 where
  pub space : Fits a.namespace_uri.0
  pub name : Fits a.name.0
  pub sort : Fits a.data_type
  pub value : Fits a.«data»

pub attribute-small : (l : List ℕ) → InBytes l → SmallAttribute (attribute_at l)
unfolding attribute_at
attribute-small l h = record { space = u32-fits l h 0; name = u32-fits l h 4; sort = omega (arith, h 15); value = u32-fits l h 16 }

-- ---- a header, a turn

pub record SmallHeader (h : ResChunkHeader) : Type 0 where
  pub kind : Fits h.kind
  pub own : Fits h.header_size
  pub size : Fits h.size

abbrev pub SmallRead : Option ResChunkHeader → Type 0
SmallRead None = Unit {0}
SmallRead (Some h) = SmallHeader h

pub header-small : (l : List ℕ) → InBytes l → SmallRead (header_of l)
unfolding header_of
header-small l h = cond-by SmallRead (ltb (length l) 8) (λ e. tt) (λ e. record { kind = u16-fits l h 0; own = u16-fits l h 2; size = u32-fits l h 4 })

abbrev pub SmallChunk : Chunk → Type 0
SmallChunk (Start s) = SmallStart s
SmallChunk End = Unit {0}
SmallChunk (Other n) = Unit {0}
SmallChunk Last = Unit {0}

abbrev pub SmallCut : CutChunk → Type 0
SmallCut CutLine = Unit {0}
SmallCut CutHead = Unit {0}
SmallCut (CutGap s) = SmallStart s
SmallCut (CutAttributes s) = SmallStart s
SmallCut (CutTrailing s) = SmallStart s
SmallCut CutEnd = Unit {0}
SmallCut CutOther = Unit {0}

abbrev pub SmallTurn : Turn → Type 0
SmallTurn Stop = Unit {0}
SmallTurn (Foreign k a n) = Fits a
SmallTurn (Met c) = SmallChunk c
SmallTurn (Cut c) = SmallCut c

module _ (l : List ℕ) (h : InBytes l) where
  start-turn : SmallTurn (start_turn l)
  unfolding start_turn
  start-turn =
      let w = start_small l h in
      cond-by SmallTurn (ltb (length l) 36) (λ e. tt)
      (λ e. cond-by SmallTurn (ltb (length l) (attributes_at (start_of l))) (λ e. w)
      (λ e. cond-by SmallTurn (ltb (length l) (attributes_end (start_of l))) (λ e. w)
      (λ e. cond-by SmallTurn (ltb (length l) (start_len (start_of l))) (λ e. w) (λ e. w))))

  xml-turn : (kind : ℕ) → SmallTurn (xml_turn l kind)
  unfolding xml_turn
  xml-turn kind =
      cond-by SmallTurn (ltb (length l) 16) (λ e. tt)
      (λ e. cond-by SmallTurn (eqb kind 0x17f) (λ e. tt)
      (λ e. cond-by SmallTurn (eqb kind 0x102) (λ e. start-turn)
      (λ e. cond-by SmallTurn (eqb kind 0x103) (λ e. cond-by SmallTurn (ltb (length l) 24) (λ e. tt) (λ e. tt))
      (λ e. cond-by SmallTurn (eqb kind 0x104) (λ e. cond-by SmallTurn (ltb (length l) 28) (λ e. tt) (λ e. tt))
      (λ e. cond-by SmallTurn (ltb (length l) 24) (λ e. tt) (λ e. tt))))))

  number_small : (x : ResChunkHeader) → SmallHeader x → Fits (foreign_number x)
  unfolding foreign_number
  number_small x w = cond-by Fits (eqb (chunk_sort x) 0) (λ e. w.kind) (λ e. w.own)

  turn_by_lem : (x : Option ResChunkHeader) → SmallRead x → SmallTurn (turn_by l x)
  turn_by_lem None w = tt
  turn_by_lem (Some x) w = cond-by SmallTurn (eqb (chunk_sort x) 2) (λ e. xml-turn x.kind) (λ e. number_small x w)

  pub turn_small : SmallTurn (turn_of l)
  unfolding turn_of
  turn_small = turn_by_lem (header_of l) (header-small l h)
