-- The numbers of all events of a file of bytes are below 2^32: docs/FORMAT.md, B9 to B14. For proofs/Small/Readings.antt. No contract cites this file.
--
--   Small        each number of some events fits: words of nodes and attributes, numbers of notes, values of refusals
--   body-small   the events of a body: numbers that were read, and the depth, which grows by one for a chunk at most
--   file-small   those of a file, with what its head says: counts and offsets that were read, and places in the file
use Rattle.std.specs.Prelude.{Option, Some, None}
use Prim.Native.Nat.{ℕ, zero, suc, ◌+◌, ◌≤◌}
use native.Mathlib.Omega.{arith}
use mathlib.Core.List.{List, [], ◌∷◌, ◌++◌}
use mathlib.Core.Bool.{Bool, true, false, cond, not}
use lib.ListN.{length, drop, length-drop}
use lib.Dec.{leb, eqb}
use Rattle.anomaly.specs.Note.{note_of}
use Rattle.anomaly.specs.declared.Note.{Note as NoteOf}
use Rattle.anomaly.specs.declared.ResAnomaly.{ResAnomaly}
use Rattle.anomaly.specs.declared.ResAnomaly.TheVariants.{NonXmlChunk}
use Rattle.anomaly.specs.declared.ResAnomaly.TheVariants.{XmlNodeHeaderSize, UnknownChunk}
use Rattle.anomaly.specs.declared.ResAnomaly.TheVariants.{TruncatedXml, UnclosedElements}
use Rattle.errors.specs.Refusal.{refusal_value}
use Rattle.errors.specs.declared.Refusal.TheVariants.{MissingRoot}
use Rattle.res_string_pool.specs.Pool.{offset_of, outside_of}
use Rattle.text.specs.declared.NameState.{NameState}
use Rattle.text.specs.declared.NameState.TheVariants.{NoText, Invalid, Valid}
use Rattle.res_string_pool.specs.declared.Garbage.{Garbage}
use Rattle.head.specs.declared.Opened.{Opened}
use Rattle.head.specs.Head.{outside_in}
use Rattle.xml_elements.specs.declared.XmlStartElement.{XmlStartElement}
use Rattle.xml_elements.specs.declared.XmlAttributeElement.{XmlAttributeElement}
use Rattle.xml_elements.specs.declared.Chunk.{Chunk}
use Rattle.xml_elements.specs.declared.Chunk.TheVariants.{Start, End, Other, Last}
use Rattle.xml_elements.specs.declared.CutChunk.{CutChunk}
use Rattle.xml_elements.specs.declared.CutChunk.TheVariants.{CutLine, CutHead, CutGap, CutAttributes, CutTrailing, CutEnd, CutOther}
use Rattle.xml_elements.specs.declared.Turn.{Turn}
use Rattle.xml_elements.specs.declared.Turn.TheVariants.{Stop, Foreign, Met, Cut}
use Rattle.xml_elements.specs.Chunk.{stride_of, attributes_at, attribute_at, turn_of}
use Rattle.xml_elements.proofs.Laws.{cond-by}
use Rattle.events.specs.declared.Event.{Event}
use Rattle.events.specs.declared.Event.TheVariants.{Nothing, Open, Attribute, LeftOut, Close, Note, Refuse, Finish}
use Rattle.events.specs.Events.{Names, has_one, fixed_of, event_if, leading, attribute_by, attribute_event, attributes_of, cut_short}
use Rattle.events.specs.Events.{WalkState, foreign_note, chunk_yield, cut_yield, yield_of, next_of, chunk_next, cut_next, from_root, last_of, out}
use Rattle.events.specs.Events.{events_on, body_events, file_events}
use Rattle.events.specs.Inner.Starts.{from_lead, from_open, from_name}
use mathlib.Core.Path.{refl}
use Rattle.claims.proofs.Events.EventCases.{StartNote, shifted, sized, trailing, start_note, start-whole, cut-gap, cut-attributes, cut-trailing}
use Rattle.claims.proofs.Events.EventCases.{body-by, HeadNote, garbage_told, garbage, count, offsets, head_note, file-by, NameNote, damaged, invalid}
use Rattle.claims.proofs.Small.Bytes.{Fits, InBytes, drop-bytes, SmallAttribute, SmallStart, attribute-small, SmallChunk, SmallCut, SmallTurn}
use Rattle.claims.proofs.Small.Bytes.{turn_small}
use Rattle.claims.proofs.Small.Head.{SmallOpened, SmallSkipped}
use Rattle.claims.proofs.Events.EventCases.{name_note, name_by}

-- ---- events

pub record SmallNote (n : NoteOf) : Type 0 where
  pub kind : Fits n.kind
  pub first : Fits n.a
  pub second : Fits n.b

abbrev pub SmallOf : Event → Type 0
SmallOf Nothing = Unit {0}
SmallOf (Open n x l) = Fits n.0 × Fits x × Fits l
SmallOf (Attribute p a) = Fits p × SmallAttribute a
SmallOf (LeftOut n) = Unit {0}
SmallOf Close = Unit {0}
SmallOf (Note x) = SmallNote (note_of x)
SmallOf (Refuse x) = Fits (refusal_value x)
SmallOf Finish = Unit {0}

abbrev pub Small : List Event → Type 0
Small [] = Unit {0}
Small (e ∷ es) = SmallOf e × Small es

both : (a b : List Event) → Small a → Small b → Small (a ++ b)
both [] b p q = q
both (e ∷ a) b p q = (p.0, both a b p.1 q)

noted : (b : Bool) (x : ResAnomaly) → SmallNote (note_of x) → Small (event_if b (Note x))
noted true x h = (h, tt)
noted false x h = tt

behind-note : (b : Bool) (x : ResAnomaly) (es : List Event) → SmallNote (note_of x) → Small es → Small (event_if b (Note x) ++ es)
behind-note true x es p q = (p, q)
behind-note false x es p q = q

cut-note : SmallNote (note_of TruncatedXml)
unfolding note_of
cut-note = record { kind = omega arith; first = omega arith; second = omega arith }

cut_small : Small cut_short
cut_small = (cut-note, tt)

-- ---- a start

fixed-small : (s : NameState) → Fits (fixed_of s)
fixed-small NoText = omega arith
fixed-small Invalid = omega arith
fixed-small Valid = omega arith

has-small : (s : NameState) → Fits (has_one s)
has-small NoText = omega arith
has-small Invalid = omega arith
has-small Valid = omega arith

leading-small : (b : Bool) → Small (event_if b leading)
leading-small true = ((omega arith, record { space = omega arith; name = omega arith; sort = omega arith; value = omega arith }), tt)
leading-small false = tt

module _ (N : Names) (prefixes : (i : ℕ) → Fits (N.prefix_of i)) (states : (i : ℕ) → Fits (N.damage i)) where
  attribute-by : (a : XmlAttributeElement) → SmallAttribute a → (s : NameState) → SmallOf (attribute_by N a s)
  unfolding note_of
  attribute-by a w NoText = tt
  attribute-by a w Invalid = record { kind = omega arith; first = w.name; second = omega arith }
  attribute-by a w Valid = (prefixes a.namespace_uri.0, w)

  attributes-small : (n stride : ℕ) (l : List ℕ) → InBytes l → Small (attributes_of N n stride l)
  unfolding attributes_of attribute_event
  attributes-small zero stride l h = tt
  attributes-small (suc n) stride l h = (
    attribute-by (attribute_at l) (attribute-small l h) (N.state (attribute_at l).name.0),
    attributes-small n stride (drop stride l) (drop-bytes stride l h),
  )

  module _ (s : XmlStartElement) (w : SmallStart s) (k : ℕ) (l : List ℕ) (h : InBytes l) where
    name-note : (n : NameNote) → SmallNote (note_of (name_note N s n))
    unfolding note_of
    name-note damaged = record { kind = omega arith; first = w.name; second = states s.name.0 }
    name-note invalid = record { kind = omega arith; first = w.name; second = has-small (N.state s.name.0) }

    start-note : (n : StartNote) → SmallNote (note_of (start_note s n))
    unfolding note_of
    start-note shifted = record { kind = omega arith; first = w.shift; second = omega arith }
    start-note sized = record { kind = omega arith; first = w.width; second = omega arith }
    start-note trailing = record { kind = omega arith; first = omega (arith, w.size); second = omega arith }

    lead-small : Small (from_lead N s k l)
    unfolding from_lead
    lead-small =
        both (event_if (eqb k 0) leading) (attributes_of N s.attribute_count (stride_of s) (drop (attributes_at s) l)) (leading-small (eqb k 0))
        (attributes-small s.attribute_count (stride_of s) (drop (attributes_at s) l) (drop-bytes (attributes_at s) l h))

    open-small : Small (from_open N s k l)
    unfolding from_open
    open-small = ((w.name, fixed-small (N.state s.name.0), w.line), lead-small)

    name-small : Small (from_name N s k l)
    name-small = name_by N N s k l (λ ds es. Small ds) (λ b n ds es r. behind-note b (name_note N s n) ds (name-note n) r) refl refl open-small

    behind : (whole b : Bool) (n : StartNote) (ds es : List Event) → Small ds → Small (event_if b (Note (start_note s n)) ++ ds)
    behind whole b n ds es h = behind-note b (start_note s n) ds (start-note n) h

-- ---- a turn

foreign-note : (k a : ℕ) → Fits a → SmallNote (note_of (foreign_note k a))
unfolding note_of
foreign-note k a h =
    cond-by (λ (x : ResAnomaly). SmallNote (note_of x)) (eqb k 0) {x = NonXmlChunk a} {y = XmlNodeHeaderSize a}
    (λ e. record { kind = omega arith; first = h; second = omega arith }) (λ e. record { kind = omega arith; first = h; second = omega arith })

last-note : SmallNote (note_of (UnknownChunk 0x17f))
unfolding note_of
last-note = record { kind = omega arith; first = omega arith; second = omega arith }

depth-note : (d : ℕ) → Fits d → SmallNote (note_of (UnclosedElements d))
unfolding note_of
depth-note d h = record { kind = omega arith; first = h; second = omega arith }

-- the depth grows by one at most
chunk-depth : (p : WalkState) (c : Chunk) → (chunk_next p c).depth ≤ p.depth + 1
chunk-depth p (Start s) = omega arith
chunk-depth p End = omega arith
chunk-depth p (Other n) = omega arith
chunk-depth p Last = omega arith

cut-depth : (p : WalkState) (c : CutChunk) → (cut_next p c).depth ≤ p.depth + 1
cut-depth p CutLine = omega arith
cut-depth p CutHead = omega arith
cut-depth p (CutGap s) = omega arith
cut-depth p (CutAttributes s) = omega arith
cut-depth p (CutTrailing s) = omega arith
cut-depth p CutEnd = omega arith
cut-depth p CutOther = omega arith

next-depth : (p : WalkState) (T : Turn) → (next_of p T).depth ≤ p.depth + 1
next-depth p Stop = omega arith
next-depth p (Foreign k a n) = omega arith
next-depth p (Met c) = chunk-depth p c
next-depth p (Cut c) = cut-depth p c

root-small : (b : Bool) → Small (event_if b (Refuse MissingRoot))
unfolding refusal_value
root-small true = (omega arith, tt)
root-small false = tt

last-small : (p : WalkState) → Fits p.depth → Small (last_of p)
last-small p d =
    behind-note (not (eqb p.depth 0)) (UnclosedElements p.depth) (from_root p) (depth-note p.depth d) (root-small (eqb p.starts 0))

-- ---- a body

module _ (N : Names) (prefixes : (i : ℕ) → Fits (N.prefix_of i)) (states : (i : ℕ) → Fits (N.damage i)) where
  module _ (l : List ℕ) (h : InBytes l) (p : WalkState) where
    chunk-events : (c : Chunk) → SmallChunk c → Small (chunk_yield N l p c)
    chunk-events (Start s) w = start-whole N N s p.starts l (λ w ds es. Small ds) (behind N prefixes states s w p.starts l h) (name-small N prefixes states s w p.starts l h)
    chunk-events End w = (tt, tt)
    chunk-events (Other n) w = tt
    chunk-events Last w = (last-note, tt)

    cut-events : (c : CutChunk) → SmallCut c → Small (cut_yield N l p c)
    cut-events CutLine w = cut_small
    cut-events CutHead w = cut_small
    cut-events (CutGap s) w = cut-gap N N s p.starts l (λ w ds es. Small ds) (behind N prefixes states s w p.starts l h) cut_small
    cut-events (CutAttributes s) w = cut-attributes N N s p.starts l (λ w ds es. Small ds) (behind N prefixes states s w p.starts l h) cut_small
    cut-events (CutTrailing s) w = cut-trailing N N s p.starts l (λ w ds es. Small ds) (behind N prefixes states s w p.starts l h) cut_small
    cut-events CutEnd w = (tt, tt)
    cut-events CutOther w = tt

    turn-events : (T : Turn) → SmallTurn T → Small (yield_of N l p T)
    turn-events Stop w = tt
    turn-events (Foreign k a n) w = noted (not (eqb k p.run)) (foreign_note k a) (foreign-note k a w)
    turn-events (Met c) w = chunk-events c w
    turn-events (Cut c) w = cut-events c w

  -- of a walk that has come to this depth
  body-from : (l : List ℕ) (p : WalkState) → InBytes l → Fits (p.depth + length l) → Small (events_on N l p)
  body-from =
      body-by N N (λ l p ds es. InBytes l → Fits (p.depth + length l) → Small ds) (λ l p e h d. last-small p (omega (arith, d)))
      (λ l p m e g ds es rest h d. both (out N l p) ds (turn-events l h p (turn_of l) (turn_small l h))
      (rest (drop-bytes (suc m) l h) (omega (arith, d, g, next-depth p (turn_of l), length-drop (suc m) l))))

  pub body-small : (b : List ℕ) → InBytes b → Fits (length b) → Small (body_events N b)
  unfolding body_events
  body-small b h d = body-from b (record { run = 2; depth = 0; starts = 0 }) h (omega (arith, d))

-- ---- a file

outside-le : (o : List ℕ) (size n : ℕ) → outside_of o size n ≤ n
unfolding outside_of
outside-le o size zero = omega arith
outside-le o size (suc n) =
    let one : cond (leb size (offset_of o n)) 1 0 ≤ 1 = cond-by (λ (x : ℕ). x ≤ 1) (leb size (offset_of o n)) (λ e. omega arith) (λ e. omega arith) in
    omega (arith, one, outside-le o size n)

garbage-note : (g : Option Garbage) → SmallSkipped g → SmallNote (note_of (garbage_told g))
unfolding note_of
garbage-note None w = record { kind = omega arith; first = omega arith; second = omega arith }
garbage-note (Some g) w = record { kind = omega arith; first = w.kind; second = w.skipped }

module _ (o : Opened) (w : SmallOpened o) (t : List ℕ) where
  head-note : (n : HeadNote) → SmallNote (note_of (head_note o t n))
  unfolding note_of outside_in
  head-note garbage = garbage-note o.garbage w.garbage
  head-note count = record { kind = omega arith; first = w.declared; second = w.count }
  head-note offsets = record {
    kind = omega arith;
    first = omega (arith, w.count, outside-le (drop o.head.offsets t) o.head.size o.head.count);
    second = omega arith;
  }

  pub file-small : (N : Names) → ((i : ℕ) → Fits (N.prefix_of i)) → ((i : ℕ) → Fits (N.damage i)) → (b : List ℕ) → InBytes b → Fits (length b)
      → Small (file_events N o t b)
  file-small N prefixes states b h short =
      file-by N N o t b (λ ds es. Small ds) (λ c n ds es r. behind-note c (head_note o t n) ds (head-note n) r) (λ e q. (rw q at w.end, tt))
      (λ q. body-small N prefixes states b h short)
