-- The claims: what the order asks for, each stated whole and proved in a line that cites another file.
--
-- One answer (docs/FORMAT.md, P4): two results that a promise allows are equal, every byte of lent memory included.
--   read-unique      of a reading, `read` and `read_listed` alike: the answer, and all three tables, whole
--   text-unique      of the text question: the answer, and the whole buffer
--   content-unique   of the content question: the bytes; of their address the promise says nothing
--   first-unique     of the first value; listing-unique of a listing's text: the answer, and the whole buffer; name-unique of a valid name
--   complex-unique   of the complex value
--   numbers-unique   equal numbers are equal answers: of a reading; text-numbers-unique, first-numbers-unique of the two questions; lines-numbers-unique of a listing
-- Insertion (P3): a file without a note, and the file with complete foreign chunks at some of its places.
--   insertion        of the promise; insertion-read of two calls. What the hypotheses and the notes mean: insertion-head to insertion-cap
--   insertion-text, insertion-content, insertion-first, insertion-many   the questions answer as before
--   insertion-damaged to insertion-damaged-dropped   of a file whose only notes are of kind 32: it keeps them; kinds-apart: kinds are counted apart
-- Room (L1): suffices of a file of any length, read-suffices of a call; listing-suffices, read-listed-suffices of a listing.
-- A part of the head that is short (P6): part-offset, part_cut of a reading, text-part-cut of the text question.
-- Zeros (P1, B7, B8): refused-zeros, done-zeros, text-refused-zeros, text-done-zeros. Every success: structured, notes-kept.
-- Damaged texts (T11): damage-utf8, damage-utf16: state 0 exactly if the text is the content, in its encoding; damage-table: how many characters were
-- replaced, by Table 3-7; damage-own: none that stands in the file is counted; damage-some, damage-none, damage-empty: what each state tells.
-- Nothing lost without a note (P7): nothing-lost; unnoted-kept: without note 12 no start is dropped. Computed: proofs/Cases/LostCases.antt.
-- The two modes (W22, W23, B16): mode-merged, the attributes of the first are those of the second without what it merges.
-- Readers that break the promise (P5): refuses-all-broken to wrong-kinds-broken, each of every reader of its sort (specs/Readers.antt); meets-some.
-- The C interface: c-read-unique to c-first-refused-zeros, the same of its words: one answer, insertion, zeros.
-- The listing's function: list-unique to list-suffices: one answer, zeros, room.
-- A listing read back (L9): relist-printed, what the listing program prints reads back to its reading; relist-calls, the same of two calls; relist-only,
-- the text of what was read is the only one; relist-unique, relist-refused-zeros, relist-done-zeros: one answer, zeros.
-- A month (R4 to R8): month-sum, month-order, month-history of any files; month-refused, month-full, month-added of one; month-kinds, month-grid of
-- readings; month-unique, month-numbers-unique, c-month-unique: one answer.
-- Value texts (V1 to V16): value-unique to value-done-zeros of one; value-decimal-broken, value-first-broken: versions that cannot meet its promise; decimal-read,
-- signed-read, hex-read, flag-whole, flag-none of the texts; values-unique to values-single of many, texts-unique to texts-single of many string indices.
-- Many pairs at once (M): many-unique, many-numbers-unique, c-many-unique: one answer; many-refused-zeros, many-done-zeros; many-asks: each answer is the single
-- question's; many-found: it finds a value or says 12; twelve-to-all-broken, many-meets-some.
-- Which screens start (S): main-unique, main-numbers-unique, c-main-unique: one answer; main-refused-zeros, main-done-zeros; main-children: on the tables of
-- a reading a child is a record whose parent word says so; every-one-broken, main-meets-some. Computed: proofs/Broken/Tellers.antt.
-- The marked cases (L5): `cases-right` of proofs/Cases/Table.antt, one table and one theorem; `cases-read` of proofs/Cases/CasesOfRead.antt: `read` gives them.
-- Texts and names (P2): what ties them to Unicode's tables and to XML's ranges is named in ARCHITECTURE.md.
use Rattle.std.specs.Prelude.{Some, Result, Ok, Err}
use Prim.Native.Nat.{ℕ, ◌+◌, ◌-◌, ◌*◌, ◌/◌, ◌^◌, ◌≤◌, ◌<◌}
use mathlib.Core.Path.{◌≡◌, sym, ◌∙◌}
use mathlib.Core.List.{List, [], ◌∷◌, ◌++◌, map}
use lib.Ieee.{Float}
use mathlib.Core.Bool.{Bool, true, false}
use lib.ListN.{length, take, drop, replicate}
use Rattle.common.specs.Complex.{Complex}
use Rattle.common.specs.Header.{header_of}
use Rattle.common.specs.declared.ResChunkHeader.{ResChunkHeader}
use Rattle.common.proofs.Product.{Complex-unique}
use Rattle.chunk.specs.Sort.{chunk_sort}
use Rattle.errors.specs.Refusal.{refusal_number, refusal_value, numbers_of, text_numbers_of, lines_numbers_of, first_numbers_of}
use Rattle.errors.specs.declared.Refusal.{Refusal}
use Rattle.errors.specs.declared.ReadCounts.{ReadCounts}
use Rattle.errors.specs.declared.TextState.{TextState}
use Rattle.errors.proofs.Laws.{numbers_of-unique, text_numbers_of-unique, lines_numbers_of-unique, first_numbers_of-unique}
use Rattle.anomaly.specs.Note.{note_of}
use Rattle.anomaly.specs.declared.Note.{Note}
use Rattle.anomaly.specs.declared.ResAnomaly.{ResAnomaly}
use Rattle.anomaly.specs.Kept.{of_kind, kept_notes}
use Rattle.anomaly.proofs.Laws.{kept_notes-of-kind}
use Rattle.records.specs.Limits.{file_limit, listed_file, listed_nodes, listed_attributes, listed_notes, listed_cap}
use Rattle.listing_text.specs.Printed.{Printed}
use Rattle.listed.specs.Lists.{listed, listed_text, Lists}
use Rattle.listed.specs.Roomy.{Roomy}
use Rattle.listing_back.specs.Back.{Words, Relisting, fault, found, relisting, relist_text, Relists}
use Rattle.listing_back.specs.declared.Relisted.{Relisted}
use Rattle.listing_back.proofs.Whole.{relisting-back}
use Rattle.xml.specs.NCName.{valid_name}
use Rattle.head.specs.Ask.{text_answer, TextReads, content_answer}
use Rattle.head.specs.Head.{opened_of, head_len}
use Rattle.first_value.specs.Question.{first_answer, FirstReads}
use Rattle.records.specs.Words.{node_width, attribute_width, note_width, merged, apart}
use Rattle.system_types.specs.Names.{Lent, lends}
use Rattle.walk.specs.Settle.{Room}
use Rattle.walk.specs.Reading.{reading, room_in, zero_note, Reads}
use Rattle.claims.specs.Insertion.{ForeignChunk, note_for, stretch_notes, places_in, inserted_file, place_notes, AllOf, BeginsOther, with_notes, reading_left}
use Rattle.claims.specs.Counts.{opens_in, event_notes}
use Rattle.c_api.specs.Words.{words_of, ReadsWords}
use Rattle.c_api.specs.Answers.{first_answer_of, AsksText}
use Rattle.c_api.specs.declared.AxmlAnswer.{AxmlAnswer}
use Rattle.c_api.specs.declared.AxmlTextAnswer.{AxmlTextAnswer}
use Rattle.c_api.specs.declared.AxmlFirstAnswer.{AxmlFirstAnswer}
use Rattle.claims.specs.InC.{left_in_c, with_notes_in_c, RefusedInC, DoneInC, TextRefusedInC, TextDoneInC, FirstRefusedInC}
use Rattle.claims.specs.Relisted.{listed_words, said_by}
use Rattle.claims.specs.Room.{is_full_number, HasRoom, nodes_for, attributes_for, places_for, listing_room}
use Rattle.claims.specs.Parts.{is_part}
use Rattle.claims.specs.Cleared.{ZeroBehind, RefusedZero, DoneZero, TextRefusedZero, TextDoneZero}
use Rattle.claims.specs.Shape.{Structured, count_of_kind as of_number}
use Rattle.claims.specs.Lost.{marks_in, start_names, NothingLost}
use Rattle.claims.specs.Modes.{Merges}
use Rattle.claims.specs.Readers.{all_below, Call, Reader, Meets, events_of, kinds_of, RefusesAll, Constant, ConstantOnRead, StopsAtStart}
use Rattle.claims.specs.Readers.{LeavesNodes, LeavesAttributes, LeavesNotes, ClearsNodes, ClearsAttributes, ClearsNotes}
use Rattle.claims.proofs.Insertion.InsertedFile.{inserted_file-none}
use Rattle.claims.proofs.Insertion.ForeignChunks.{foreign-of, foreign-bytes, stretch-one, place_notes-room}
use Rattle.claims.proofs.Insertion.Theorem as proved
use Rattle.claims.specs.Damaged.{damage_place, besides, OnlyDamage}
use Rattle.claims.proofs.Damaged.Theorem as damaged
use Rattle.claims.proofs.Calls.Readings as calls
use Rattle.claims.proofs.Insertion.Questions as values
use Rattle.claims.proofs.Room.Theorem as room
use Rattle.claims.proofs.Parts.Theorem as parts
use Rattle.claims.proofs.Calls.Zeros as zeros
use Rattle.claims.proofs.Structure.Theorem as tree
use Rattle.claims.proofs.Lost.Theorem as lost
use Rattle.claims.proofs.Broken.Readers as broken
use Rattle.claims.proofs.Modes.Theorem as modes
use Rattle.claims.proofs.Calls.InC as in_c
use Rattle.claims.proofs.Calls.Listing as lists
use Rattle.claims.proofs.Calls.ListingBack as relisted
use Rattle.claims.proofs.Calls.ListingCalls as relists
use mathlib.Core.List.{Permᴰ}
use lib.ListN.{get_or, set}
use Rattle.anomaly.specs.Note.{kind_number}
use Rattle.errors.specs.declared.Refusal.TheVariants.{RoundUpFull}
use Rattle.round_up.specs.declared.RoundUp.{RoundUp}
use Rattle.round_up.specs.declared.Added.{Added}
use Rattle.round_up.specs.RoundUp as sums
use Rattle.round_up.specs.Kinds.{kinds_in, tally}
use Rattle.round_up.specs.History as history
use Rattle.round_up.proofs.Sums.{grid-sum}
use Rattle.round_up.proofs.Order.{order_same}
use Rattle.round_up.proofs.AnswerLaws as told
use Rattle.c_api.specs.declared.adding.AxmlAddAnswer.{AxmlAddAnswer}
use Rattle.c_api.specs.Adding.{AddsWords}
use Rattle.many_texts.specs.Words.{answer_width}
use Rattle.errors.specs.Refusal.{value_numbers_of}
use Rattle.digits.specs.Digits as digits
use Rattle.digits.proofs.Back as back
use Rattle.digits.specs.Written.{fitted}
use Rattle.digits.proofs.Decimal as decimals
use Rattle.digits.proofs.Signed as signeds
use Rattle.digits.proofs.Hex as hexes
use mir.Syntax.{w32}
use mir.Val.{to_z}
use Rattle.text.specs.declared.Head.{Head}
use Rattle.text.specs.Content.{content_of, text_in}
use Rattle.head.specs.Head.{tables_in}
use Rattle.head.specs.Ask.{text_buffer}
use Rattle.items.specs.Items.{items_of, item_name_of, named_in}
use Rattle.items.specs.Flags.{taken, left_of, uncovered, sum_of}
use Rattle.items.specs.declared.Item.{Item}
use Rattle.items.proofs.FlagLaws as flags
use Rattle.value_text.specs.declared.Attribute.{Attribute}
use Rattle.value_text.specs.Value.{value_open, value_answer, value_buffer, ValueReads}
use Rattle.value_text.proofs.Claimed as valued
use Rattle.value_text.proofs.Broken as unvalued
use Rattle.many_texts.specs.Many.{attribute_at, ReadsValues, ReadsTexts}
use Rattle.many_texts.specs.Single.{IsPart}
use Rattle.many_texts.proofs.Claimed as manies
use Rattle.claims.specs.Month as month
use Rattle.claims.proofs.Calls.Month as months
use Rattle.errors.specs.Refusal.{pair_numbers_of}
use Rattle.errors.specs.declared.Refusal.TheVariants.{NothingFound}
use Rattle.errors.proofs.Laws.{pair_numbers_of-unique}
use Rattle.records.specs.Words as layout
use Rattle.first_values.specs.Pairs.{tag_at, name_at, answer_to, many_answer, answers_after, ManyReads}
use Rattle.first_values.proofs.Unique as asked
use Rattle.c_api.specs.declared.asking.AxmlPairsAnswer.{AxmlPairsAnswer}
use Rattle.c_api.specs.Asking.{AsksMany}
use mathlib.Core.Bool.{cond}
use Prim.Native.Nat.{max}
use Rattle.utf.specs.Utf8.{is_scalar, table37, longest, any_whole, encode}
use Rattle.utf.specs.Text.{text_of, utf16_of, Damage, damage_of, state_number, replaced_count}
use Rattle.utf.proofs.States as states
use Rattle.text.specs.Content as content
use Rattle.text.proofs.Wholes as wholes
use Rattle.claims.specs.Askers.{Asker, MeetsAll, TwelveToAll}
use Rattle.claims.proofs.Broken.Askers as many
use Rattle.records.specs.Words.{no_parent}
use Rattle.main_activities.specs.Activities.{Tree, children_of, main_numbers_of, main_answer, list_after, MainReads}
use Rattle.main_activities.proofs.Unique as started
use Rattle.c_api.specs.declared.starting.AxmlMainAnswer.{AxmlMainAnswer}
use Rattle.c_api.specs.Starting.{AsksMain}
use Rattle.claims.specs.Screens as screens
use Rattle.claims.proofs.Structure.TreeOrder as nests
use Rattle.claims.proofs.Broken.Tellers as screened
use Rattle.errors.specs.declared.FirstValue.{FirstValue}
use Rattle.errors.specs.declared.TextWritten.{TextWritten}
use Rattle.errors.specs.declared.TextsWritten.{TextsWritten}
use Rattle.errors.specs.declared.ValueWritten.{ValueWritten}

module _ (f : List ℕ) (lent : Lent) (ns ats : List ℕ) (os : List Note) (cap mode : ℕ) where
  pub read-unique : (r r' : Result ReadCounts Refusal) (ns₁ ns₂ ats₁ ats₂ : List ℕ) (os₁ os₂ : List Note) → Reads f lent ns ats os cap mode r ns₁ ats₁ os₁
      → Reads f lent ns ats os cap mode r' ns₂ ats₂ os₂ → (r ≡ r') × (ns₁ ≡ ns₂) × (ats₁ ≡ ats₂) × (os₁ ≡ os₂)
  read-unique r r' ns₁ ns₂ ats₁ ats₂ os₁ os₂ p q =
      (numbers_of-unique r r' (p.answer ∙ sym q.answer), p.nodes ∙ sym q.nodes, p.attributes ∙ sym q.attributes, p.notes ∙ sym q.notes)

module _ (f : List ℕ) (lent : Lent) (before : List ℕ) (i : ℕ) where
  pub text-unique : (r r' : Result TextWritten Refusal) (after after' : List ℕ) → TextReads f lent before i r after → TextReads f lent before i r' after'
      → (r ≡ r') × (after ≡ after')
  text-unique r r' after after' p q = (text_numbers_of-unique r r' (p.answer ∙ sym q.answer), p.out ∙ sym q.out)

pub content-unique : (f : List ℕ) (lent : Lent) (i : ℕ) (s s' : List ℕ) → s ≡ content_answer f lent i → s' ≡ content_answer f lent i → s ≡ s'
content-unique f lent i s s' p q = p ∙ sym q

module _ (f : List ℕ) (lent : Lent) (ns ats tag name : List ℕ) (nodes attributes : ℕ) where
  pub first-unique : (r r' : Result FirstValue Refusal) → FirstReads f lent ns ats tag name nodes attributes r
      → FirstReads f lent ns ats tag name nodes attributes r' → r ≡ r'
  first-unique r r' p q = first_numbers_of-unique r r' (p.answer ∙ sym q.answer)

pub listing-unique : (text before : List ℕ) (r r' : Result ℕ Refusal) (after after' : List ℕ) → Printed text before r after → Printed text before r' after'
    → (r ≡ r') × (after ≡ after')
listing-unique text before r r' after after' p q = (lines_numbers_of-unique r r' (p.answer ∙ sym q.answer), p.out ∙ sym q.out)

pub name-unique : (s : List ℕ) (r r' : Bool) → r ≡ valid_name false s → r' ≡ valid_name false s → r ≡ r'
name-unique s r r' p q = p ∙ sym q

pub complex-unique : (d : ℕ) (r r' : Float) → Complex d r → Complex d r' → r ≡ r'
complex-unique d r r' p q = Complex-unique d r r' p q

pub numbers-unique : (a b : Result ReadCounts Refusal) → numbers_of a ≡ numbers_of b → a ≡ b
numbers-unique a b e = numbers_of-unique a b e

pub text-numbers-unique : (a b : Result TextWritten Refusal) → text_numbers_of a ≡ text_numbers_of b → a ≡ b
text-numbers-unique a b e = text_numbers_of-unique a b e

pub lines-numbers-unique : (a b : Result ℕ Refusal) → lines_numbers_of a ≡ lines_numbers_of b → a ≡ b
lines-numbers-unique a b e = lines_numbers_of-unique a b e

pub first-numbers-unique : (a b : Result FirstValue Refusal) → first_numbers_of a ≡ first_numbers_of b → a ≡ b
first-numbers-unique a b e = first_numbers_of-unique a b e

-- ---- insertion

-- A file reads with no refusal and no note, so that its cap is at least 1, as that of the other reading has to be (27); `places` are lists of complete
-- foreign chunks: the first list stands before the first chunk that the walk meets behind the map, the next before the next, and one more at the end if the
-- last chunk is whole and nothing follows it.
module _ (r : Room) (f : List ℕ) (lent : Lent) (c : ReadCounts) (done : (reading r f lent).answer ≡ Ok c) (none : c.notes ≡ 0)
    (places : List (List ForeignChunk)) (few : length places ≤ places_in f) (limit : length (inserted_file places f) ≤ file_limit) (r' : Room)
    (one : 1 ≤ r'.cap) (alike : r'.mode ≡ r.mode) where
  -- In the same mode, where every table has room: starts, kept nodes and attributes are the same, word for word, and the notes are one for each stretch, up to the cap of each kind.
  pub insertion : HasRoom (reading r' (inserted_file places f) lent).answer
      → reading r' (inserted_file places f) lent ≡ with_notes r' (reading r f lent) c (kept_notes r'.cap (place_notes places))
  insertion room = proved.insertion r f lent c done none places few limit r' one alike room

  -- in tables of the same lengths, the tables are the same, whole
  pub insertion-same : r'.nodes ≡ r.nodes → r'.attributes ≡ r.attributes → HasRoom (reading r' (inserted_file places f) lent).answer
      → ((reading r' (inserted_file places f) lent).nodes ≡ (reading r f lent).nodes)
      × ((reading r' (inserted_file places f) lent).attributes ≡ (reading r f lent).attributes)
  insertion-same n a room = proved.insertion-same r f lent c done none places few limit r' one alike n a room

  -- places for the kept records and for the notes are room
  pub insertion-room : node_width * c.nodes ≤ r'.nodes → attribute_width * c.attributes ≤ r'.attributes
      → length (kept_notes r'.cap (place_notes places)) ≤ r'.notes → HasRoom (reading r' (inserted_file places f) lent).answer
  insertion-room n a m = proved.insertion-room r f lent c done none places few limit r' one alike n a m

  -- the head is untouched
  pub insertion-head : (opened_of (inserted_file places f) ≡ opened_of f)
      × (take (8 + head_len (opened_of f).head) (inserted_file places f) ≡ take (8 + head_len (opened_of f).head) f)
  insertion-head = proved.insertion-head r f lent c done none places

  -- nothing was dropped
  pub insertion-kept : c.nodes ≡ c.starts
  insertion-kept = proved.nothing-dropped r f lent c done none

-- The same of two calls, whatever results the promise allows: `reading_left` is an answer and what stands in the three tables.
module _ (f : List ℕ) (lent : Lent) (ns ats : List ℕ) (os : List Note) (cap mode : ℕ) (c : ReadCounts) (ns₁ ats₁ : List ℕ) (os₁ : List Note)
    (first : Reads f lent ns ats os cap mode (Ok c) ns₁ ats₁ os₁) (none : c.notes ≡ 0) (places : List (List ForeignChunk))
    (few : length places ≤ places_in f) (limit : length (inserted_file places f) ≤ file_limit) (ns' ats' : List ℕ) (os' : List Note) (cap' : ℕ)
    (one : 1 ≤ cap') (a : Result ReadCounts Refusal) (ns₂ ats₂ : List ℕ) (os₂ : List Note)
    (second : Reads (inserted_file places f) lent ns' ats' os' cap' mode a ns₂ ats₂ os₂) where
  pub insertion-read : HasRoom a
      → reading_left a ns₂ ats₂ os₂ ≡ with_notes (room_in ns' ats' os' cap' mode) (reading_left (Ok c) ns₁ ats₁ os₁) c (kept_notes cap' (place_notes places))
  insertion-read room =
      calls.insertion-read f lent ns ats os cap mode c ns₁ ats₁ os₁ first none places few limit ns' ats' os' cap' one a ns₂ ats₂ os₂ second room

  pub insertion-read-same : length ns' ≡ length ns → length ats' ≡ length ats → HasRoom a → (ns₂ ≡ ns₁) × (ats₂ ≡ ats₁)
  insertion-read-same n m room =
      calls.insertion-read-same f lent ns ats os cap mode c ns₁ ats₁ os₁ first none places few limit ns' ats' os' cap' one a ns₂ ats₂ os₂ second n m room

  pub insertion-read-room : node_width * c.nodes ≤ length ns' → attribute_width * c.attributes ≤ length ats' → 2 * cap' ≤ length os' → HasRoom a
  insertion-read-room n m k =
      calls.insertion-read-room f lent ns ats os cap mode c ns₁ ats₁ os₁ first none places few limit ns' ats' os' cap' one a ns₂ ats₂ os₂ second n m k

-- Text, content and first value, asked of the longer file, are those of the file: of any two results that the promises allow.
module _ (r : Room) (f : List ℕ) (lent : Lent) (c : ReadCounts) (done : (reading r f lent).answer ≡ Ok c) (none : c.notes ≡ 0)
    (places : List (List ForeignChunk)) (limit : length (inserted_file places f) ≤ file_limit) where
  pub insertion-text : (before : List ℕ) (i : ℕ) (a a' : Result TextWritten Refusal) (after after' : List ℕ) → TextReads f lent before i a after
      → TextReads (inserted_file places f) lent before i a' after' → (a' ≡ a) × (after' ≡ after)
  insertion-text = values.insertion-text r f lent c done none places limit

  pub insertion-content : (i : ℕ) (s s' : List ℕ) → s ≡ content_answer f lent i → s' ≡ content_answer (inserted_file places f) lent i → s' ≡ s
  insertion-content = values.insertion-content r f lent c done none places limit

  pub insertion-first : (ns ats tag name : List ℕ) (nodes attributes : ℕ) (a a' : Result FirstValue Refusal)
      → FirstReads f lent ns ats tag name nodes attributes a → FirstReads (inserted_file places f) lent ns ats tag name nodes attributes a'
      → a' ≡ a
  insertion-first = values.insertion-first r f lent c done none places limit

  pub insertion-many : (ns ats pairs area before : List ℕ) (nodes attributes : ℕ) (a a' : Result ℕ Refusal) (after after' : List ℕ)
      → ManyReads f lent ns ats pairs area before nodes attributes a after
      → ManyReads (inserted_file places f) lent ns ats pairs area before nodes attributes a' after' → (a' ≡ a) × (after' ≡ after)
  insertion-many = values.insertion-many r f lent c done none places limit

-- with nothing put in it is the same file
pub insertion-none : (f : List ℕ) → inserted_file [] f ≡ f
insertion-none f = inserted_file-none f

-- every complete foreign chunk (W5) can be put in: a foreign header, a size of at least 8, and all its bytes
pub insertion-chunk : (l : List ℕ) {h : ResChunkHeader} → header_of l ≡ Some h → (chunk_sort h ≡ 2 → ⊥) → 8 ≤ h.size → h.size ≤ length l
    → (x : ForeignChunk) × (x.bytes ≡ take h.size l)
insertion-chunk l w n least there = (foreign-of l w n least there, foreign-bytes l w n least there)

-- a stretch makes one note, that of its first chunk (W4), and then come those of what follows it
pub insertion-stretch : (x : ForeignChunk) (xs ys : List ForeignChunk) → AllOf (chunk_sort x.header) xs → BeginsOther (chunk_sort x.header) ys
    → stretch_notes ((x ∷ xs) ++ ys) ≡ note_for x ∷ stretch_notes ys
insertion-stretch x xs ys h o = stretch-one x xs ys h o

-- of each kind the first `cap` are kept (B13), and there are two kinds
pub insertion-cap : (cap k : ℕ) (places : List (List ForeignChunk))
    → (of_kind k (kept_notes cap (place_notes places)) ≡ take cap (of_kind k (place_notes places))) × (length (kept_notes cap (place_notes places)) ≤ 2 * cap)
insertion-cap cap k places = (kept_notes-of-kind cap k (place_notes places), place_notes-room cap places)

-- what is kept of all other kinds is what is kept of them alone (B13): notes of the kind with the place k take nothing from the cap of another
pub kinds-apart : (cap k : ℕ) (l : List ResAnomaly) → besides k (kept_notes cap l) ≡ kept_notes cap (besides k l)
kinds-apart = damaged.besides-kept

-- A file whose only notes are of kind 32, and the same file with complete foreign chunks at some of its places, as above: a note 32 is a note, so that
-- `insertion` says nothing of it.
module _ (r : Room) (f : List ℕ) (lent : Lent) (c : ReadCounts) (done : (reading r f lent).answer ≡ Ok c)
    (only : OnlyDamage (take c.notes (reading r f lent).notes)) where
  -- nothing was dropped
  pub insertion-damaged-dropped : c.nodes ≡ c.starts
  insertion-damaged-dropped = damaged.nothing-dropped r f lent c done only

  module _ (places : List (List ForeignChunk)) (few : length places ≤ places_in f) (limit : length (inserted_file places f) ≤ file_limit) (r' : Room)
      (one : 1 ≤ r'.cap) (alike : r'.mode ≡ r.mode) where
    -- the tree stays, word for word; the notes are those that the longer file makes, up to the cap of each kind
    pub insertion-damaged : HasRoom (reading r' (inserted_file places f) lent).answer
        → reading r' (inserted_file places f) lent
        ≡ with_notes r' (reading r f lent) c (kept_notes r'.cap (event_notes (events_of r.mode (inserted_file places f) lent)))
    insertion-damaged room = damaged.insertion-damaged r f lent c done only places few limit r' one alike room

    -- of these all that are not of kind 32 are exactly what `insertion` says
    pub insertion-damaged-others : besides damage_place (kept_notes r'.cap (event_notes (events_of r.mode (inserted_file places f) lent)))
        ≡ kept_notes r'.cap (place_notes places)
    insertion-damaged-others = damaged.insertion-damaged-others r f lent c done only places few limit r' one alike

    -- and those of kind 32 are the file's own notes, the first as many as the cap says
    pub insertion-damaged-kept : of_kind damage_place (kept_notes r'.cap (event_notes (events_of r.mode (inserted_file places f) lent)))
        ≡ take r'.cap (event_notes (events_of r.mode f lent))
    insertion-damaged-kept = damaged.insertion-damaged-kept r f lent c done only places few limit r' one alike

    -- at the same cap these are the notes that stood in the first reading, word for word
    pub insertion-damaged-same : r'.cap ≡ r.cap
        → map note_of (of_kind damage_place (kept_notes r'.cap (event_notes (events_of r.mode (inserted_file places f) lent))))
        ≡ take c.notes (reading r f lent).notes
    insertion-damaged-same = damaged.insertion-damaged-same r f lent c done only places few limit r' one alike

-- ---- room that always suffices (L1): none is refused with 8, 9 or 10

-- a file of any length, with any names and any cap (one of 0 is refused with 27)
pub suffices : (r : Room) (f : List ℕ) (lent : Lent) → nodes_for (length f) ≤ r.nodes → attributes_for (length f) ≤ r.attributes → places_for r.cap ≤ r.notes
    → HasRoom (reading r f lent).answer
suffices = room.suffices

-- the same of a call
pub read-suffices : (f : List ℕ) (lent : Lent) (ns ats : List ℕ) (os : List Note) (cap mode : ℕ) (a : Result ReadCounts Refusal) (ns' ats' : List ℕ) (os' : List Note)
    → nodes_for (length f) ≤ length ns → attributes_for (length f) ≤ length ats → places_for cap ≤ length os
    → Reads f lent ns ats os cap mode a ns' ats' os' → HasRoom a
read-suffices = room.read-suffices

-- the room of a listing is such for all the lengths that it reads
pub listing-suffices : (n : ℕ) → n ≤ listed_file
    → (nodes_for n ≤ listing_room.nodes) × (attributes_for n ≤ listing_room.attributes) × (places_for listing_room.cap ≤ listing_room.notes)
listing-suffices = room.listing-suffices

pub read-listed-suffices : (f ns ats : List ℕ) (a : Result ReadCounts Refusal) (ns' ats' : List ℕ) (os' : List Note) → length f ≤ listed_file
    → length ns ≡ listing_room.nodes → length ats ≡ listing_room.attributes
    → Reads f (lends [] []) ns ats (replicate listing_room.notes zero_note) listing_room.cap listing_room.mode a ns' ats' os' → HasRoom a
read-listed-suffices = room.read-listed-suffices

-- ---- a part of pool or map that is short (H15): the value of the refusal is where it should begin

module _ (r : Room) (f : List ℕ) (lent : Lent) (x : Refusal) (part : is_part x ≡ true) (refused : (reading r f lent).answer ≡ Err x) where
  -- a place in the file, behind its header
  pub part-offset : (8 ≤ refusal_value x) × (refusal_value x ≤ length f)
  part-offset = parts.part-offset f lent _ x (parts.reading-part f lent x part r refused)

  -- the file cut there leaves the same, every word
  pub part_cut : reading r (take (refusal_value x) f) lent ≡ reading r f lent
  part_cut = parts.part_cut f lent x r (parts.reading-part f lent x part r refused)

-- and so does the text question of any index, whatever the buffer
module _ (f : List ℕ) (lent : Lent) (n i : ℕ) (x : Refusal) (part : is_part x ≡ true) (refused : text_answer f lent n i ≡ Err x) where
  pub text-part-cut : (8 ≤ refusal_value x) × (refusal_value x ≤ length f) × (text_answer (take (refusal_value x) f) lent n i ≡ Err x)
  text-part-cut =
      let e = parts.text-part f lent x part n i refused in
      let p = parts.open-part f lent x part e in
      ((parts.part-offset f lent _ x p).0, (parts.part-offset f lent _ x p).1, parts.part-cut-text f lent x p n i e)

-- ---- zeros (B7, B8), and the structure of a success (W25 to W29, B9 to B15)

module _ (f : List ℕ) (lent : Lent) (ns ats : List ℕ) (os : List Note) (cap mode : ℕ) (ns' ats' : List ℕ) (os' : List Note) where
  pub refused-zeros : (x : Refusal) → Reads f lent ns ats os cap mode (Err x) ns' ats' os' → RefusedZero (numbers_of (Err x)) ns ats os ns' ats' os'
  refused-zeros x h = zeros.refused-zeros f lent ns ats os cap mode x ns' ats' os' h

  pub done-zeros : (c : ReadCounts) → Reads f lent ns ats os cap mode (Ok c) ns' ats' os' → DoneZero (numbers_of (Ok c)) ns ats os ns' ats' os'
  done-zeros c h = zeros.done-zeros f lent ns ats os cap mode c ns' ats' os' h

  pub structured : (c : ReadCounts) → Reads f lent ns ats os cap mode (Ok c) ns' ats' os' → Structured (events_of mode f lent) cap c ns' ats' os'
  structured c h = tree.structured f lent ns ats os cap mode c ns' ats' os' h

  -- its notes are exactly the file's, of each kind the first `cap` (B13, B14)
  pub notes-kept : (c : ReadCounts) → Reads f lent ns ats os cap mode (Ok c) ns' ats' os'
      → take c.notes os' ≡ map note_of (kept_notes cap (event_notes (events_of mode f lent)))
  notes-kept c h = tree.notes-kept f lent ns ats os cap mode c ns' ats' os' h

  -- Nothing is lost without a note (P7). The kept nodes are exactly the starts before the first, other than the very first, that never gets its end; and
  -- where a start is dropped, the last note is 12, with the number of starts that never get their end.
  pub nothing-lost : (c : ReadCounts) → Reads f lent ns ats os cap mode (Ok c) ns' ats' os' → NothingLost (marks_in f) c ns' os'
  nothing-lost c h = lost.nothing-lost f lent ns ats os cap mode c ns' ats' os' h

  -- so a reading without note 12 dropped no start that was read whole
  pub unnoted-kept : (c : ReadCounts) → Reads f lent ns ats os cap mode (Ok c) ns' ats' os' → of_number 12 (take c.notes os') ≡ 0
      → c.nodes ≡ length (start_names (marks_in f))
  unnoted-kept c h = lost.whole-kept f lent ns ats os cap mode c ns' ats' os' h

module _ (f : List ℕ) (lent : Lent) (before : List ℕ) (i : ℕ) (after : List ℕ) where
  pub text-refused-zeros : (x : Refusal) → TextReads f lent before i (Err x) after
      → TextRefusedZero (text_numbers_of (Err x)) before after
  text-refused-zeros x h = zeros.text-refused-zeros f lent before i x after h

  pub text-done-zeros : (k : ℕ) (s : TextState) → TextReads f lent before i (Ok (record { length = k; state = s })) after
      → TextDoneZero (text_numbers_of (Ok (record { length = k; state = s }))) before after
  text-done-zeros k s h = zeros.text-done-zeros f lent before i k s after h

-- ---- damaged texts (T11)

module _ (s : List ℕ) (bytes : (i : ℕ) → get_or s i 0 < 256) where
  -- state 0 is that of a text whose bytes are the content's own
  pub damage-utf8 : (state_number (damage_of false s) ≡ 0 → text_of false s ≡ s) × (text_of false s ≡ s → state_number (damage_of false s) ≡ 0)
  damage-utf8 = (states.whole-utf8 s, states.utf8-whole s bytes)

  -- in UTF-16 that of a text of which the content is the encoding
  pub damage-utf16 : (state_number (damage_of true s) ≡ 0 → utf16_of (text_of true s) ≡ s) × (utf16_of (text_of true s) ≡ s → state_number (damage_of true s) ≡ 0)
  damage-utf16 = (states.whole-utf16 s bytes, states.utf16-whole s bytes)

-- nothing is replaced where a row of Table 3-7 is whole at the front, and one character where none is; then it goes on behind the maximal subpart
pub damage-table : (b : ℕ) (s : List ℕ) → replaced_count (damage_of false (b ∷ s))
    ≡ cond (any_whole table37 (b ∷ s)) 0 1 + replaced_count (damage_of false (drop (max 1 (longest table37 (b ∷ s))) (b ∷ s)))
damage-table b s = states.replaced-front b s

-- a character that stands in the file is none that was replaced, U+FFFD neither
pub damage-own : (v : ℕ) (s : List ℕ) → is_scalar v ≡ true → replaced_count (damage_of false (encode v ++ s)) ≡ replaced_count (damage_of false s)
damage-own v s k = states.replaced-own v s k

-- state 1 has a count, and no other state has one
pub damage-some : (utf16 : Bool) (s : List ℕ) → state_number (damage_of utf16 s) ≡ 1 → 0 < replaced_count (damage_of utf16 s)
damage-some utf16 s e = states.replaced-some utf16 s e

pub damage-none : (d : Damage) → (state_number d ≡ 1 → ⊥) → replaced_count d ≡ 0
damage-none d e = states.replaced-none d e

-- states 2 and 3 are empty texts, and 3 is that of a string cut or outside alone
pub damage-empty : (c : content.Content) → (state_number (content.damage_in c) ≡ 2 → content.text_in c ≡ []) × (state_number (content.damage_in c) ≡ 3 → c ≡ content.cut)
damage-empty c = (wholes.unpaired-empty c, wholes.state-cut c)

-- ---- the two modes (W22, W23, B16), whatever the room and the cap of each

module _ (f : List ℕ) (lent : Lent) (ns ats : List ℕ) (os : List Note) (cap : ℕ) (c : ReadCounts) (ns₁ ats₁ : List ℕ) (os₁ : List Note)
    (first : Reads f lent ns ats os cap merged (Ok c) ns₁ ats₁ os₁) (ns' ats' : List ℕ) (os' : List Note) (cap' : ℕ) (c' : ReadCounts)
    (ns₂ ats₂ : List ℕ) (os₂ : List Note) (second : Reads f lent ns' ats' os' cap' apart (Ok c') ns₂ ats₂ os₂) where
  pub mode-merged : Merges (take (attribute_width * c.attributes) ats₁) (take (attribute_width * c'.attributes) ats₂)
  mode-merged = modes.mode-merged f lent ns ats os cap c ns₁ ats₁ os₁ first ns' ats' os' cap' c' ns₂ ats₂ os₂ second

-- ---- the C interface: the same of its words and of its structs of numbers

-- one answer
module _ (f : List ℕ) (lent : Lent) (ns ats ws : List ℕ) (cap mode : ℕ) (a a' : AxmlAnswer) (ns₁ ns₂ ats₁ ats₂ ws₁ ws₂ : List ℕ) where
  pub c-read-unique : ReadsWords f lent ns ats ws cap mode a ns₁ ats₁ ws₁ → ReadsWords f lent ns ats ws cap mode a' ns₂ ats₂ ws₂
      → (a ≡ a') × (ns₁ ≡ ns₂) × (ats₁ ≡ ats₂) × (ws₁ ≡ ws₂)
  c-read-unique p q =
      (p.answer ∙ sym q.answer, p.nodes ∙ sym q.nodes, p.attributes ∙ sym q.attributes, p.notes ∙ sym q.notes)

pub c-text-unique : (f : List ℕ) (lent : Lent) (before : List ℕ) (i : ℕ) (a a' : AxmlTextAnswer) (after after' : List ℕ) → AsksText f lent before i a after
    → AsksText f lent before i a' after' → (a ≡ a') × (after ≡ after')
c-text-unique f lent before i a a' after after' p q = (p.answer ∙ sym q.answer, p.out ∙ sym q.out)

module _ (f : List ℕ) (lent : Lent) (ns ats tag name : List ℕ) (nodes attributes : ℕ) (a a' : AxmlFirstAnswer) where
  pub c-first-unique : a ≡ first_answer_of (first_numbers_of (first_answer f lent ns ats tag name nodes attributes))
      → a' ≡ first_answer_of (first_numbers_of (first_answer f lent ns ats tag name nodes attributes)) → a ≡ a'
  c-first-unique p q = p ∙ sym q

-- insertion, of two calls of `axml_read`
module _ (f : List ℕ) (lent : Lent) (ns ats ws : List ℕ) (cap mode : ℕ) (a : AxmlAnswer) (ns₁ ats₁ ws₁ : List ℕ)
    (first : ReadsWords f lent ns ats ws cap mode a ns₁ ats₁ ws₁) (done : a.refusal ≡ 0) (none : a.notes ≡ 0) (places : List (List ForeignChunk))
    (few : length places ≤ places_in f) (limit : length (inserted_file places f) ≤ file_limit) (ns' ats' ws' : List ℕ) (cap' : ℕ)
    (one : 1 ≤ cap') (a' : AxmlAnswer) (ns₂ ats₂ ws₂ : List ℕ) (second : ReadsWords (inserted_file places f) lent ns' ats' ws' cap' mode a' ns₂ ats₂ ws₂) where
  pub c-insertion : is_full_number a'.refusal ≡ false
      → left_in_c a' ns₂ ats₂ ws₂ ≡ with_notes_in_c (length ns') (length ats') (length ws') (left_in_c a ns₁ ats₁ ws₁) (kept_notes cap' (place_notes places))
  c-insertion =
      in_c.insertion f lent ns ats ws cap mode a ns₁ ats₁ ws₁ first done none places few limit ns' ats' ws' cap' one a' ns₂ ats₂ ws₂ second

  pub c-insertion-same : length ns' ≡ length ns → length ats' ≡ length ats → is_full_number a'.refusal ≡ false → (ns₂ ≡ ns₁) × (ats₂ ≡ ats₁)
  c-insertion-same =
      in_c.insertion-same f lent ns ats ws cap mode a ns₁ ats₁ ws₁ first done none places few limit ns' ats' ws' cap' one a' ns₂ ats₂ ws₂ second

  pub c-insertion-room : node_width * a.nodes ≤ length ns' → attribute_width * a.attributes ≤ length ats' → note_width * (2 * cap') ≤ length ws'
      → is_full_number a'.refusal ≡ false
  c-insertion-room =
      in_c.insertion-room f lent ns ats ws cap mode a ns₁ ats₁ ws₁ first done none places few limit ns' ats' ws' cap' one a' ns₂ ats₂ ws₂ second

-- zeros
module _ (f : List ℕ) (lent : Lent) (ns ats ws : List ℕ) (cap mode : ℕ) (a : AxmlAnswer) (ns' ats' ws' : List ℕ) where
  pub c-refused-zeros : ReadsWords f lent ns ats ws cap mode a ns' ats' ws' → (a.refusal ≡ 0 → ⊥) → RefusedInC a ns ats ws ns' ats' ws'
  c-refused-zeros = in_c.refused-zeros f lent ns ats ws cap mode a ns' ats' ws'

  pub c-done-zeros : ReadsWords f lent ns ats ws cap mode a ns' ats' ws' → a.refusal ≡ 0 → DoneInC a ns ats ws ns' ats' ws'
  c-done-zeros = in_c.done-zeros f lent ns ats ws cap mode a ns' ats' ws'

module _ (f : List ℕ) (lent : Lent) (before : List ℕ) (i : ℕ) (a : AxmlTextAnswer) (after : List ℕ) where
  pub c-text-refused-zeros : AsksText f lent before i a after → (a.refusal ≡ 0 → ⊥) → TextRefusedInC a before after
  c-text-refused-zeros = in_c.text-refused-zeros f lent before i a after

  pub c-text-done-zeros : AsksText f lent before i a after → a.refusal ≡ 0 → TextDoneInC a before after
  c-text-done-zeros = in_c.text-done-zeros f lent before i a after

pub c-first-refused-zeros : (b : Result FirstValue Refusal) (a : AxmlFirstAnswer) → a ≡ first_answer_of (first_numbers_of b) → (a.refusal ≡ 0 → ⊥)
    → FirstRefusedInC a
c-first-refused-zeros = in_c.first-refused-zeros

-- ---- the listing's function

module _ (f ns ats before : List ℕ) where
  pub list-unique : (r r' : Result ℕ Refusal) (ns₁ ns₂ ats₁ ats₂ after after' : List ℕ) → Lists f ns ats before r ns₁ ats₁ after
      → Lists f ns ats before r' ns₂ ats₂ after' → (r ≡ r') × (ns₁ ≡ ns₂) × (ats₁ ≡ ats₂) × (after ≡ after')
  list-unique r r' ns₁ ns₂ ats₁ ats₂ after after' p q =
      let e = listing-unique _ before r r' after after' p.printed q.printed in
      (e.0, p.nodes ∙ sym q.nodes, p.attributes ∙ sym q.attributes, e.1)

  module _ (ns' ats' after : List ℕ) where
    -- in the buffer, where the text has no place, and behind the text
    pub list-refused-zeros : (x : Refusal) → Lists f ns ats before (Err x) ns' ats' after → after ≡ replicate (length before) 0
    list-refused-zeros x h = lists.printed-refused _ before after x h.printed

    pub list-done-zeros : (k : ℕ) → Lists f ns ats before (Ok k) ns' ats' after → ZeroBehind 0 k before after
    list-done-zeros k h = lists.printed-done _ before after k h.printed

    -- in the tables, where the file is refused, and behind the records that the listing has
    pub list-unread-zeros : (r : Result ℕ Refusal) → Lists f ns ats before r ns' ats' after → (x : Refusal)
        → (listed f (length ns) (length ats)).answer ≡ Err x → (ns' ≡ replicate (length ns) 0) × (ats' ≡ replicate (length ats) 0)
    list-unread-zeros r h x e = let z = lists.unread-zeros f ns ats x e in (h.nodes ∙ z.0, h.attributes ∙ z.1)

    pub list-read-zeros : (r : Result ℕ Refusal) → Lists f ns ats before r ns' ats' after → (c : ReadCounts) → (listed f (length ns) (length ats)).answer ≡ Ok c
        → ZeroBehind 0 (node_width * c.nodes) ns ns' × ZeroBehind 0 (attribute_width * c.attributes) ats ats'
    list-read-zeros r h c e = rw (h.nodes, h.attributes) (lists.read-zeros f ns ats c e)

-- in the room of a listing no record is without a place, whatever came in
pub list-suffices : (f : List ℕ) (ns ats room : ℕ) → Roomy ns ats room → HasRoom (listed f ns ats).answer
list-suffices = lists.list-suffices

-- ---- a listing read back (L9)

-- What the listing program prints, of a file that is read and of one that is refused alike: of every list of bytes, whatever its length. Nothing is asked of
-- the numbers of the reading: that 32 bits hold each follows from the bytes (proofs/Small/Readings.antt).
pub relist-printed : (f ns ats : List ℕ) → all_below 256 f ≡ true → length ns ≡ node_width * listed_nodes → length ats ≡ attribute_width * listed_attributes
    → relisting (listed_words (length ns) (length ats)) (listed_text f (length ns) (length ats)) ≡ found (said_by (listed f (length ns) (length ats)))
relist-printed = relisted.listed_back

-- The same of any two calls, of the listing's function in a listing's room and of `read_listing` with what it printed, whatever stood in the tables of either:
-- the answer of the reading, the cap of a listing, and every word of nodes and attributes as the first call left it; notes are the reading's.
pub relist-calls : (f ns ats before : List ℕ) → all_below 256 f ≡ true → Roomy (length ns) (length ats) (length before)
    → (a : Result ℕ Refusal) (ns₁ ats₁ after : List ℕ)
    → Lists f ns ats before a ns₁ ats₁ after → (ns₂ ats₂ os : List ℕ) → length ns₂ ≡ length ns → length ats₂ ≡ length ats → length os ≡ note_width * listed_notes
    → (r : Relisted) (ns₃ ats₃ os₃ : List ℕ) → Relists (take (lines_numbers_of a).length after) ns₂ ats₂ os r ns₃ ats₃ os₃
    → (r.answer ≡ (listed f (length ns) (length ats)).answer) × (r.cap ≡ listed_cap) × (ns₃ ≡ ns₁) × (ats₃ ≡ ats₁)
    × (os₃ ≡ words_of (listed f (length ns) (length ats)).notes)
relist-calls = relists.calls_back

-- what is read is what would be printed, so two texts that say the same are one
pub relist-only : (w : Words) (t t' : List ℕ) (x : Relisting) → relisting w t ≡ found x → (relist_text x ≡ t) × (relisting w t' ≡ found x → t ≡ t')
relist-only w t t' x e = (relisting-back w t x e, λ e'. sym (relisting-back w t x e) ∙ relisting-back w t' x e')

module _ (text ns ats os : List ℕ) where
  pub relist-unique : (r r' : Relisted) (ns₁ ns₂ ats₁ ats₂ os₁ os₂ : List ℕ) → Relists text ns ats os r ns₁ ats₁ os₁ → Relists text ns ats os r' ns₂ ats₂ os₂
      → (r ≡ r') × (ns₁ ≡ ns₂) × (ats₁ ≡ ats₂) × (os₁ ≡ os₂)
  relist-unique r r' ns₁ ns₂ ats₁ ats₂ os₁ os₂ p q = (
    relists.relisted-by r r' (numbers_of-unique r.answer r'.answer (p.answer ∙ sym q.answer)) (p.capped ∙ sym q.capped),
    p.nodes ∙ sym q.nodes,
    p.attributes ∙ sym q.attributes,
    p.notes ∙ sym q.notes,
  )

  module _ (r : Relisted) (ns' ats' os' : List ℕ) (h : Relists text ns ats os r ns' ats' os') where
    pub relist-refused-zeros : (n v : ℕ) → relisting (record { nodes = length ns; attributes = length ats; notes = length os }) text ≡ fault n v
        → (r.cap ≡ 0) × (ns' ≡ replicate (length ns) 0) × (ats' ≡ replicate (length ats) 0) × (os' ≡ replicate (length os) 0)
    relist-refused-zeros = relists.relist-refused text ns ats os r ns' ats' os' h

    pub relist-done-zeros : (x : Relisting) → relisting (record { nodes = length ns; attributes = length ats; notes = length os }) text ≡ found x
        → ZeroBehind 0 (length x.nodes) ns ns' × ZeroBehind 0 (length x.attributes) ats ats' × ZeroBehind 0 (length x.notes) os os'
    relist-done-zeros = relists.relist-done text ns ats os r ns' ats' os' h

-- ---- readers that break the promise (P5)

-- The promise is asked of what a program can be called with, bytes and words (`Call`).
module _ (R : Reader) (meets : Meets R) where
  pub refuses-all-broken : RefusesAll R → ⊥
  refuses-all-broken = broken.refuses-all-broken R meets

  pub constant-broken : (lent : Lent) (ns ats : List ℕ) (os : List Note) (cap mode : ℕ) → Call [] lent ns ats os cap mode → Constant R lent ns ats os cap mode → ⊥
  constant-broken = broken.constant-broken R meets

  pub constant-on-read-broken : ConstantOnRead R → ⊥
  constant-on-read-broken = broken.constant-on-read-broken R meets

  -- one that leaves a table as it was, or zeros in it: each table by itself
  pub leaves-nodes-broken : LeavesNodes R → ⊥
  leaves-nodes-broken = broken.leaves-nodes-broken R meets

  pub leaves-attributes-broken : LeavesAttributes R → ⊥
  leaves-attributes-broken = broken.leaves-attributes-broken R meets

  pub leaves-notes-broken : LeavesNotes R → ⊥
  leaves-notes-broken = broken.leaves-notes-broken R meets

  pub clears-nodes-broken : ClearsNodes R → ⊥
  clears-nodes-broken = broken.clears-nodes-broken R meets

  pub clears-attributes-broken : ClearsAttributes R → ⊥
  clears-attributes-broken = broken.clears-attributes-broken R meets

  pub clears-notes-broken : ClearsNotes R → ⊥
  clears-notes-broken = broken.clears-notes-broken R meets

  pub first-start-broken : StopsAtStart R → ⊥
  first-start-broken = broken.first-start-broken R meets

  -- one that gives a file, be it one alone, more starts than open in it, more notes than its cap keeps, or notes of other kinds
  module _ (f : List ℕ) (lent : Lent) (ns ats : List ℕ) (os : List Note) (cap mode : ℕ) (call : Call f lent ns ats os cap mode) where
    pub invents-starts-broken : opens_in (events_of mode f lent) < (numbers_of (R f lent ns ats os cap mode).answer).starts → ⊥
    invents-starts-broken = broken.invents-starts-broken R meets f lent ns ats os cap mode call

    pub invents-notes-broken : length (kept_notes cap (event_notes (events_of mode f lent))) < (numbers_of (R f lent ns ats os cap mode).answer).notes → ⊥
    invents-notes-broken = broken.invents-notes-broken R meets f lent ns ats os cap mode call

    pub wrong-kinds-broken : (c : ReadCounts) → (R f lent ns ats os cap mode).answer ≡ Ok c
        → (kinds_of (take c.notes (R f lent ns ats os cap mode).notes) ≡ kinds_of (map note_of (kept_notes cap (event_notes (events_of mode f lent)))) → ⊥) → ⊥
    wrong-kinds-broken = broken.wrong-kinds-broken R meets f lent ns ats os cap mode call

-- and the promise can be met: by the definition itself
pub meets-some : Meets (λ f lent ns ats os cap mode. reading (room_in ns ats os cap mode) f lent)
meets-some = broken.meets-some

-- ---- a month of files (R4 to R8)

-- After any files, added one after another, the grid's sum is the kept notes of kinds 0 to 12 of those that were added as read.
pub month-sum : (fs : List history.File)
    → history.total (sums.grid_of (history.after sums.empty_round_up fs)) ≡ history.kept_in (history.added_in sums.empty_round_up fs)
month-sum = grid-sum

-- those that met 29 change nothing
pub month-history : (r : RoundUp) (fs : List history.File)
    → history.NoneFull r (history.added_in r fs) × (history.after r (history.added_in r fs) ≡ history.after r fs)
month-history r fs = let h = told.history-same r fs in (h.none, h.same)

-- in any order: where none meets 29, none does in another, and the round-up is the same
pub month-order : {fs gs : List history.File} → Permᴰ fs gs → (r : RoundUp) → history.NoneFull r fs
    → history.NoneFull r gs × (history.after r fs ≡ history.after r gs)
month-order = order_same

-- a file that was refused adds to one count, and nothing else
pub month-refused : (r : RoundUp) (counts : List ℕ) (x : Refusal) (bytes : ℕ) → length r.counts ≡ sums.places
    → (sums.added_to r (sums.share_of counts (Err x) bytes)).answer ≡ (Ok tt)
    → (sums.added_to r (sums.share_of counts (Err x) bytes)).round_up.counts
    ≡ set r.counts (sums.refused_from + refusal_number x) (get_or r.counts (sums.refused_from + refusal_number x) 0 + 1)
month-refused = told.refused-one

-- 29 is the only refusal, leaves the round-up as it was, and is given where a count would pass
pub month-full : (r : RoundUp) (share : List ℕ) (x : Refusal) → (sums.added_to r share).answer ≡ Err x
    → (x ≡ RoundUpFull) × ((sums.added_to r share).round_up ≡ r) × ((i : ℕ) × (sums.largest < get_or r.counts i 0 + get_or share i 0))
month-full r share x e = let h = told.full-same r share x e in (h.0, h.1, told.full-where r share x e)

-- and where none would, the file is added, in every count
pub month-added : (r : RoundUp) (share : List ℕ) → length r.counts ≡ length share → ((i : ℕ) → get_or r.counts i 0 + get_or share i 0 ≤ sums.largest)
    → ((sums.added_to r share).answer ≡ (Ok tt))
    × ((i : ℕ) → get_or (sums.added_to r share).round_up.counts i 0 ≡ get_or r.counts i 0 + get_or share i 0)
month-added r share even fits = let a = told.added-fits r share even fits in (a, λ i. told.added-at r share i even a)

-- for every reading that succeeds, the kinds that are counted in its note table are those of the kept notes
pub month-kinds : (f : List ℕ) (lent : Lent) (ns ats ws : List ℕ) (cap mode : ℕ) (a : AxmlAnswer) (ns' ats' ws' : List ℕ)
    → ReadsWords f lent ns ats ws cap mode a ns' ats' ws' → a.refusal ≡ 0
    → kinds_in ws' a.notes ≡ tally sums.kinds 0 (map kind_number (kept_notes cap (event_notes (events_of mode f lent))))
month-kinds = months.month-kinds

-- so that over any month of readings the grid's sum is the kept notes of kinds 0 to 12
pub month-grid : (xs : List month.Called) (fs : List history.File) → month.AllTold xs fs → history.NoneFull sums.empty_round_up fs
    → history.total (sums.grid_of (history.after sums.empty_round_up fs)) ≡ month.kept_in xs
month-grid = months.month-grid

-- one answer
pub month-unique : (r : RoundUp) (share : List ℕ) (x y : Added) → x ≡ sums.added_to r share → y ≡ sums.added_to r share → x ≡ y
month-unique r share x y p q = p ∙ sym q

pub month-numbers-unique : (a b : Result (Unit {0}) Refusal) → sums.add_numbers a ≡ sums.add_numbers b → a ≡ b
month-numbers-unique = told.add_numbers-unique

pub c-month-unique : (words notes : List ℕ) (refusal count bytes : ℕ) (a b : AxmlAddAnswer) (after after' : List ℕ)
    → AddsWords words notes refusal count bytes a after → AddsWords words notes refusal count bytes b after' → (a ≡ b) × (after ≡ after')
c-month-unique words notes refusal count bytes a b after after' p q = (p.answer ∙ sym q.answer, p.counts ∙ sym q.counts)

-- ---- value texts (V1 to V12)

module _ (f : List ℕ) (lent : Lent) (items area before : List ℕ) (a : Attribute) where
  pub value-unique : (r r' : Result ValueWritten Refusal) (after after' : List ℕ) → ValueReads f lent items area before a r after
      → ValueReads f lent items area before a r' after' → (r ≡ r') × (after ≡ after')
  value-unique r r' after after' p q = valued.value-unique f lent items area before a p q

  pub value-refused-zeros : (x : Refusal) (after : List ℕ) → ValueReads f lent items area before a (Err x) after → after ≡ replicate (length before) 0
  value-refused-zeros x after h = valued.value-refused-zeros f lent items area before after a x h

  pub value-done-zeros : (k u : ℕ) (d : TextState) (after : List ℕ)
      → ValueReads f lent items area before a (Ok (record { length = k; uncovered = u; state = d })) after
      → drop k after ≡ replicate (length before - k) 0
  value-done-zeros k u d after h = valued.value-done-zeros f lent items area before after a k u d h

-- versions that cannot meet the promise: one that always shows the number, and one that always shows the first item of the attribute
module _ (answer : List ℕ → Lent → List ℕ → List ℕ → List ℕ → Attribute → Result ValueWritten Refusal)
    (after : List ℕ → Lent → List ℕ → List ℕ → List ℕ → Attribute → List ℕ)
    (meets : (f : List ℕ) (lent : Lent) (items area before : List ℕ) (a : Attribute)
    → ValueReads f lent items area before a (answer f lent items area before a) (after f lent items area before a)) where
  pub value-decimal-broken : ((f : List ℕ) (lent : Lent) (items area before : List ℕ) (a : Attribute) (h : Head) → value_open f lent items area ≡ Ok h
      → after f lent items area before a ≡ fitted (digits.decimal a.«data») (length before)) → ⊥
  value-decimal-broken = unvalued.decimal-broken (record { answer = answer; after = after; meets = meets })

  pub value-first-broken : ((f : List ℕ) (lent : Lent) (items area before : List ℕ) (a : Attribute) (h : Head) (i : Item) (is : List Item)
      → value_open f lent items area ≡ Ok h
      → named_in area (text_in (content_of h (tables_in f h) lent a.name.0)) (items_of items) ≡ i ∷ is
      → after f lent items area before a ≡ fitted (item_name_of area i) (length before)) → ⊥
  value-first-broken = unvalued.first-broken (record { answer = answer; after = after; meets = meets })

-- numbers read back
pub decimal-read : (n : ℕ) → n < 10 ^ 20 → back.number_from 0 (digits.decimal n) ≡ n
decimal-read = decimals.decimal-back

pub signed-read : (n : ℕ) → n < 4294967296 → back.signed_of (digits.signed_text n) ≡ to_z w32 n
signed-read = signeds.signed_text-back

pub hex-read : (n : ℕ) → n < 16 ^ 8 → back.hex_from 0 (digits.hex_text n) ≡ n
hex-read = hexes.hex_text-back

-- the taken values of a flag and what is left make the data again; no bit is uncovered exactly where the taken values make it alone
pub flag-whole : (n : ℕ) (is : List Item) → sum_of (taken n is) + left_of n is ≡ n
flag-whole = flags.taken-sum

pub flag-none : (n : ℕ) (is : List Item) → n < 4294967296 → (uncovered n is ≡ 0 → sum_of (taken n is) ≡ n) × (sum_of (taken n is) ≡ n → uncovered n is ≡ 0)
flag-none n is h = (flags.uncovered-none n is h, flags.uncovered-whole n is h)

-- ---- many texts (V13 to V16)

module _ (f : List ℕ) (lent : Lent) (items area ats out₀ table₀ : List ℕ) (count : ℕ) where
  pub values-unique : (r r' : Result TextsWritten Refusal) (out out' table table' : List ℕ) → ReadsValues f lent items area ats out₀ table₀ count r out table
      → ReadsValues f lent items area ats out₀ table₀ count r' out' table' → (r ≡ r') × (out ≡ out') × (table ≡ table')
  values-unique r r' out out' table table' p q = manies.values-unique f lent items area ats out₀ table₀ count p q

  module _ (out table : List ℕ) where
    pub values-refused-zeros : (x : Refusal) → ReadsValues f lent items area ats out₀ table₀ count (Err x) out table
        → (out ≡ replicate (length out₀) 0) × (table ≡ replicate (length table₀) 0)
    values-refused-zeros x h = manies.values-refused-zeros f lent items area ats out₀ table₀ count out table x h

    module _ (k b : ℕ) (done : ReadsValues f lent items area ats out₀ table₀ count (Ok (record { count = k; length = b })) out table) where
      pub values-done-zeros : (drop b out ≡ replicate (length out₀ - b) 0) × (drop (answer_width * k) table ≡ replicate (length table₀ - answer_width * k) 0)
      values-done-zeros = let z = manies.values-done-zeros f lent items area ats out₀ table₀ count out table k b done in (z.bytes, z.words)

      -- each answer is that of the single question, in any buffer that it does not find too short
      pub values-single : (i room : ℕ) → i < k → ((value_numbers_of (value_answer f lent items area room (attribute_at ats i))).refusal ≡ 11 → ⊥)
          → IsPart (value_numbers_of (value_answer f lent items area room (attribute_at ats i))).refusal
          (value_numbers_of (value_answer f lent items area room (attribute_at ats i))).length
          (value_numbers_of (value_answer f lent items area room (attribute_at ats i))).uncovered
          (value_numbers_of (value_answer f lent items area room (attribute_at ats i))).state
          (value_numbers_of (value_answer f lent items area room (attribute_at ats i))).replaced
          (value_buffer f lent items area room (attribute_at ats i)) i out table
      values-single = manies.values-single f lent items area ats out₀ table₀ count out table k b done

module _ (f : List ℕ) (lent : Lent) (indices out₀ table₀ : List ℕ) where
  pub texts-unique : (r r' : Result TextsWritten Refusal) (out out' table table' : List ℕ) → ReadsTexts f lent indices out₀ table₀ r out table
      → ReadsTexts f lent indices out₀ table₀ r' out' table' → (r ≡ r') × (out ≡ out') × (table ≡ table')
  texts-unique r r' out out' table table' p q = manies.texts-unique f lent indices out₀ table₀ p q

  module _ (out table : List ℕ) where
    pub texts-refused-zeros : (x : Refusal) → ReadsTexts f lent indices out₀ table₀ (Err x) out table
        → (out ≡ replicate (length out₀) 0) × (table ≡ replicate (length table₀) 0)
    texts-refused-zeros x h = manies.texts-refused-zeros f lent indices out₀ table₀ out table x h

    module _ (k b : ℕ) (done : ReadsTexts f lent indices out₀ table₀ (Ok (record { count = k; length = b })) out table) where
      pub texts-done-zeros : (drop b out ≡ replicate (length out₀ - b) 0) × (drop (answer_width * k) table ≡ replicate (length table₀ - answer_width * k) 0)
      texts-done-zeros = let z = manies.texts-done-zeros f lent indices out₀ table₀ out table k b done in (z.bytes, z.words)

      pub texts-single : (i room : ℕ) → i < k → ((text_numbers_of (text_answer f lent room (get_or indices i 0))).refusal ≡ 11 → ⊥)
          → IsPart (text_numbers_of (text_answer f lent room (get_or indices i 0))).refusal
          (text_numbers_of (text_answer f lent room (get_or indices i 0))).length 0 (text_numbers_of (text_answer f lent room (get_or indices i 0))).state
          (text_numbers_of (text_answer f lent room (get_or indices i 0))).replaced (text_buffer f lent room (get_or indices i 0)) i out table
      texts-single = manies.texts-single f lent indices out₀ table₀ out table k b done

-- ---- many pairs at once (M1 to M5)

module _ (f : List ℕ) (lent : Lent) (ns ats pairs area before : List ℕ) (nodes attributes : ℕ) where
  -- one answer, every word of the list included
  pub many-unique : (r r' : Result ℕ Refusal) (after after' : List ℕ) → ManyReads f lent ns ats pairs area before nodes attributes r after
      → ManyReads f lent ns ats pairs area before nodes attributes r' after' → (r ≡ r') × (after ≡ after')
  many-unique r r' after after' = asked.many-unique f lent ns ats pairs area before nodes attributes

  pub c-many-unique : (a b : AxmlPairsAnswer) (after after' : List ℕ) → AsksMany f lent ns ats pairs area before nodes attributes a after
      → AsksMany f lent ns ats pairs area before nodes attributes b after' → (a ≡ b) × (after ≡ after')
  c-many-unique a b after after' p q = (p.answer ∙ sym q.answer, p.list ∙ sym q.list)

  -- zeros in the whole list on a refusal, and behind the answers, one for each pair
  pub many-refused-zeros : (x : Refusal) (after : List ℕ) → ManyReads f lent ns ats pairs area before nodes attributes (Err x) after
      → after ≡ replicate (length before) 0
  many-refused-zeros = asked.many-refused f lent ns ats pairs area before nodes attributes

  module _ (n : ℕ) (after : List ℕ) (answered : ManyReads f lent ns ats pairs area before nodes attributes (Ok n) after) where
    pub many-done-zeros : (n ≡ length pairs / layout.pair_width) × ZeroBehind 0 (layout.answer_width * n) before after
    many-done-zeros =
        let d = asked.many-done f lent ns ats pairs area before nodes attributes n after answered in
        (d.0, record { long = d.2; there = d.1; zeros = d.3 })

    -- answer i is what any call of the single question answers to pair i
    pub many-asks : (i : ℕ) → i < n → (a : Result FirstValue Refusal) → FirstReads f lent ns ats (tag_at pairs area i) (name_at pairs area i) nodes attributes a
        → take layout.answer_width (drop (layout.answer_width * i) after) ≡ answer_to a
    many-asks = asked.many-asks f lent ns ats pairs area before nodes attributes n after answered

    -- which finds a value, or says 12 and nothing else
    pub many-found : (tag name : List ℕ) (x : Refusal) → FirstReads f lent ns ats tag name nodes attributes (Err x) → x ≡ NothingFound
    many-found = asked.many-found f lent ns ats pairs area before nodes attributes n after answered

pub many-numbers-unique : (a b : Result ℕ Refusal) → pair_numbers_of a ≡ pair_numbers_of b → a ≡ b
many-numbers-unique = pair_numbers_of-unique

-- one that says 12 to every pair breaks the promise, which can be met: by the definition itself
pub twelve-to-all-broken : (A : Asker) → MeetsAll A → TwelveToAll A → ⊥
twelve-to-all-broken = many.twelve-to-all-broken

pub many-meets-some : MeetsAll (λ f lent ns ats pairs area before nodes attributes.
    record {
      answer = many_answer f lent ns ats nodes attributes pairs area (length before);
      list = answers_after f lent ns ats nodes attributes pairs area (length before);
    })
many-meets-some = many.many-meets-some

-- ---- which screens start (S1 to S10)

module _ (f : List ℕ) (lent : Lent) (items area ns ats before : List ℕ) (nodes attributes : ℕ) where
  -- one answer, every word of the list included
  pub main-unique : (r r' : Result ℕ Refusal) (after after' : List ℕ) → MainReads f lent items area ns ats before nodes attributes r after
      → MainReads f lent items area ns ats before nodes attributes r' after' → (r ≡ r') × (after ≡ after')
  main-unique r r' after after' = started.main-unique f lent items area ns ats before nodes attributes

  pub c-main-unique : (a b : AxmlMainAnswer) (after after' : List ℕ) → AsksMain f lent items area ns ats before nodes attributes a after
      → AsksMain f lent items area ns ats before nodes attributes b after' → (a ≡ b) × (after ≡ after')
  c-main-unique a b after after' p q = (p.answer ∙ sym q.answer, p.list ∙ sym q.list)

  -- zeros in the whole list on a refusal, and behind the names
  pub main-refused-zeros : (x : Refusal) (after : List ℕ) → MainReads f lent items area ns ats before nodes attributes (Err x) after
      → after ≡ replicate (length before) 0
  main-refused-zeros = started.main-refused f lent items area ns ats before nodes attributes

  pub main-done-zeros : (n : ℕ) (after : List ℕ) → MainReads f lent items area ns ats before nodes attributes (Ok n) after
      → ZeroBehind 0 n before after
  main-done-zeros n after p =
      let d = started.main-done f lent items area ns ats before nodes attributes n after p in record { long = d.1; there = d.0; zeros = d.2 }

pub main-numbers-unique : (a b : Result ℕ Refusal) → main_numbers_of a ≡ main_numbers_of b → a ≡ b
main-numbers-unique = started.main_numbers_of-unique

-- on the tables of every reading the children of p are the records whose parent word is p, whatever else a tree over them has
pub main-children : (f : List ℕ) (lent : Lent) (ns ats : List ℕ) (os : List Note) (cap mode : ℕ) (c : ReadCounts) (ns' ats' : List ℕ) (os' : List Note)
    → Reads f lent ns ats os cap mode (Ok c) ns' ats' os' → (w : Tree) → w.nodes ≡ ns' → w.count ≡ c.nodes
    → (p : ℕ) → p < c.nodes → p < no_parent → children_of w p ≡ screens.with_parent ns' p 0 c.nodes
main-children f lent ns ats os cap mode c ns' ats' os' h w e q p l s =
    rw (e, q) (nests.children ns' c.nodes p (structured f lent ns ats os cap mode ns' ats' os' c h).parents
    (nests.nested f lent ns ats os cap mode c ns' ats' os' h) l s)

-- one that gives every activity breaks the promise, which can be met: by the definition itself
pub every-one-broken : (A : screens.Teller) → screens.MeetsAll A → screens.EveryOne A → ⊥
every-one-broken = screened.every-one-broken

pub main-meets-some : screens.MeetsAll (λ f lent items area ns ats before nodes attributes.
    record {
      answer = main_answer f lent items area ns ats nodes attributes (length before);
      list = list_after f lent items area ns ats nodes attributes (length before);
    })
main-meets-some = screened.main-meets-some
