-- Complete foreign chunks put into a file, and the notes that they make: docs/FORMAT.md, W4 to W6, P3.
--
--   ForeignChunk   a complete foreign chunk: a header, foreign, its size that of its bytes
--   chunks_of       the chunks that the walk takes in turn, each as its bytes; rest_of what is left where it ends
--   places_of       how many places there are: before each chunk, and at the end if all are whole and nothing follows; places_in of a file
--   inserted       a body with a list of foreign chunks at each place; inserted_file the same of a file, behind its head
--   stretch_notes   of chunks in a row, one anomaly for each stretch of one sort, with its first chunk's number; place_notes of all places
--   AllOf          chunks of one sort; BeginsOther of chunks with which no stretch of that sort goes on
--   reading_left    an answer and what stands in the three tables, as a reading
--   with_notes      the reading s with the counts c, in tables of other room, with these notes and no other: all that it kept, word for word
--
-- A place is said by the walk itself: `used_of` of `turn_of`, the bytes that it takes. The theorem: `insertion` of proofs/Claims.antt.
use Rattle.std.specs.Prelude.{ℕ, ◌+◌, ◌-◌, ◌*◌, ◌≡◌, List, [], ◌∷◌, ◌++◌, map, Bool, true, false, cond, ◌&&◌, length, take, drop, replicate, eqb}
use Rattle.std.specs.Prelude.{Some, Result, Ok}
use Rattle.common.specs.Header.{header_of}
use Rattle.common.specs.declared.ResChunkHeader.{ResChunkHeader}
use Rattle.chunk.specs.Sort.{chunk_sort}
use Rattle.chunk.specs.Walk.{walk}
use Rattle.errors.specs.declared.ReadCounts.{ReadCounts}
use Rattle.anomaly.specs.Note.{note_of}
use Rattle.anomaly.specs.declared.Note.{Note}
use Rattle.anomaly.specs.declared.ResAnomaly.{ResAnomaly}
use Rattle.head.specs.Head.{head_len, body_in, opened_of}
use Rattle.xml_elements.specs.declared.Turn.{Turn}
use Rattle.xml_elements.specs.declared.Turn.TheVariants.{Stop, Foreign, Met, Cut}
use Rattle.xml_elements.specs.Chunk.{turn_of, used_of, foreign_number}
use Rattle.events.specs.Events.{foreign_note}
use Rattle.records.specs.Words.{node_width, attribute_width}
use Rattle.walk.specs.Settle.{Room}
use Rattle.walk.specs.Reading.{Reading, zero_note}
use Rattle.errors.specs.declared.Refusal.{Refusal}

-- ---- foreign chunks

pub record ForeignChunk : Type 0 where
  pub bytes : List ℕ
  pub header : ResChunkHeader
  pub reads : header_of bytes ≡ Some header
  pub foreign : chunk_sort header ≡ 2 → ⊥
  pub complete : header.size ≡ length bytes

abbrev pub chunk_bytes : List ForeignChunk → List ℕ
chunk_bytes [] = []
chunk_bytes (f ∷ fs) = f.bytes ++ chunk_bytes fs

-- note 3 with the type of a chunk that is not XML, note 4 with the header size of one that is
abbrev pub note_for : ForeignChunk → ResAnomaly
note_for f = foreign_note (chunk_sort f.header) (foreign_number f.header)

-- the notes of the chunks behind one of the sort k: one for each that is of another sort than the chunk before it
abbrev pub notes_behind : ℕ → List ForeignChunk → List ResAnomaly
notes_behind k [] = []
notes_behind k (f ∷ fs) = cond (eqb (chunk_sort f.header) k) [] (note_for f ∷ []) ++ notes_behind (chunk_sort f.header) fs

abbrev pub stretch_notes : List ForeignChunk → List ResAnomaly
stretch_notes [] = []
stretch_notes (f ∷ fs) = note_for f ∷ notes_behind (chunk_sort f.header) fs

-- chunks of the sort k
abbrev pub AllOf : ℕ → List ForeignChunk → Type 0
AllOf k [] = Unit {0}
AllOf k (f ∷ fs) = (chunk_sort f.header ≡ k) × AllOf k fs

-- none, or the first is of another sort than k
abbrev pub BeginsOther : ℕ → List ForeignChunk → Type 0
BeginsOther k [] = Unit {0}
BeginsOther k (f ∷ fs) = chunk_sort f.header ≡ k → ⊥

-- ---- places

abbrev pub taken : {S : Type 0} → List ℕ → S → ℕ
taken l s = used_of (length l) (turn_of l)

unfoldable pub chunks_of : List ℕ → List (List ℕ)
chunks_of body = walk taken (λ l cs. cs ++ (take (used_of (length l) (turn_of l)) l ∷ [])) body []

unfoldable pub rest_of : List ℕ → List ℕ
rest_of body = walk taken (λ l r. drop (used_of (length l) (turn_of l)) l) body body

-- a chunk is whole if all the bytes that the walk takes for it are there
abbrev pub turn_is_whole : Turn → Bool
turn_is_whole Stop = false
turn_is_whole (Foreign k a u) = true
turn_is_whole (Met c) = true
turn_is_whole (Cut c) = false

abbrev pub all_whole : List (List ℕ) → Bool
all_whole [] = true
all_whole (c ∷ cs) = turn_is_whole (turn_of c) && all_whole cs

abbrev pub is_nil : List ℕ → Bool
is_nil [] = true
is_nil (x ∷ l) = false

unfoldable pub places_of : List ℕ → ℕ
places_of body = length (chunks_of body) + cond (all_whole (chunks_of body) && is_nil (rest_of body)) 1 0

-- the first list before the first chunk, the second before the second, ..; one more list goes to the end
abbrev pub woven : List (List ForeignChunk) → List (List ℕ) → List ℕ → List ℕ
woven [] [] rest = rest
woven [] (c ∷ cs) rest = c ++ woven [] cs rest
woven (fs ∷ places) [] rest = chunk_bytes fs ++ rest
woven (fs ∷ places) (c ∷ cs) rest = chunk_bytes fs ++ (c ++ woven places cs rest)

unfoldable pub inserted : List (List ForeignChunk) → List ℕ → List ℕ
inserted places body = woven places (chunks_of body) (rest_of body)

abbrev pub place_notes : List (List ForeignChunk) → List ResAnomaly
place_notes [] = []
place_notes (fs ∷ places) = stretch_notes fs ++ place_notes places

-- ---- a file

-- its head as it stands, and the body with chunks put in
unfoldable pub inserted_file : List (List ForeignChunk) → List ℕ → List ℕ
inserted_file places f = take (8 + head_len (opened_of f).head) f ++ inserted places (body_in f (opened_of f).head)

abbrev pub places_in : List ℕ → ℕ
places_in f = places_of (body_in f (opened_of f).head)

-- ---- its reading

abbrev pub with_notes : Room → Reading → ReadCounts → List ResAnomaly → Reading
with_notes r s c ns = record {
  answer = Ok (record { starts = c.starts; nodes = c.nodes; attributes = c.attributes; notes = length ns });
  nodes = take (node_width * c.nodes) s.nodes ++ replicate (r.nodes - node_width * c.nodes) 0;
  attributes = take (attribute_width * c.attributes) s.attributes ++ replicate (r.attributes - attribute_width * c.attributes) 0;
  notes = map note_of ns ++ replicate (r.notes - length ns) zero_note;
}

abbrev pub reading_left : Result ReadCounts Refusal → List ℕ → List ℕ → List Note → Reading
reading_left a nodes attributes notes = record { answer = a; nodes = nodes; attributes = attributes; notes = notes }
