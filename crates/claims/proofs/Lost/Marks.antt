-- The marks of a file, told by its events: docs/FORMAT.md, W18, W19, W9. For proofs/Lost/Theorem.antt.
--
--   event_marks    an element that opens is a start, an element that closes an end; all other events are none
--   file-marks    where a file's events hold no refusal, their marks are those of the file: a start that was read whole opens one element, an end closes one
--   events-depth, events-names, events-lines   depth, name indices and lines of events are those of their marks
use Prim.Native.Nat.{ℕ, zero, suc, ◌+◌, ◌-◌, ◌≤◌}
use native.Mathlib.Omega.{arith}
use mathlib.Core.Path.{◌≡◌, refl, sym, ◌∙◌, ap}
use mathlib.Core.List.{List, [], ◌∷◌, ◌++◌, append_assoc}
use mathlib.Core.Bool.{Bool, true, false, not, cond}
use lib.ListN.{length, drop}
use lib.Dec.{eqb}
use Rattle.anomaly.specs.declared.ResAnomaly.{ResAnomaly}
use Rattle.anomaly.specs.declared.ResAnomaly.TheVariants.{UnclosedElements}
use Rattle.chunk.proofs.Walk.{walk-ind, trace-stop, trace-step}
use Rattle.errors.specs.declared.Refusal.{Refusal}
use Rattle.errors.specs.declared.Refusal.TheVariants.{MissingRoot}
use Rattle.text.specs.declared.NameState.{NameState}
use Rattle.text.specs.declared.NameState.TheVariants.{NoText, Invalid, Valid}
use Rattle.head.specs.declared.Opened.{Opened}
use Rattle.xml_elements.specs.declared.XmlStartElement.{XmlStartElement}
use Rattle.xml_elements.specs.declared.XmlAttributeElement.{XmlAttributeElement}
use Rattle.xml_elements.specs.declared.Chunk.{Chunk}
use Rattle.xml_elements.specs.declared.Chunk.TheVariants.{Start, End, Other, Last}
use Rattle.xml_elements.specs.declared.CutChunk.{CutChunk}
use Rattle.xml_elements.specs.declared.CutChunk.TheVariants.{CutLine, CutHead, CutGap, CutAttributes, CutTrailing, CutEnd, CutOther}
use Rattle.xml_elements.specs.declared.Turn.{Turn}
use Rattle.xml_elements.specs.declared.Turn.TheVariants.{Stop, Foreign, Met, Cut}
use Rattle.xml_elements.specs.Chunk.{stride_of, attributes_at, attribute_at, turn_of, used_of}
use Rattle.xml_elements.proofs.Laws.{turn_of-told, used_of-le}
use Rattle.events.specs.declared.Event.{Event}
use Rattle.events.specs.declared.Event.TheVariants.{Nothing, Open, Attribute, LeftOut, Close, Note, Refuse, Finish}
use Rattle.events.specs.Events.{Names, WalkState, event_if, leading, foreign_note, attribute_by, attributes_of, attribute_event}
use Rattle.events.specs.Events.{chunk_yield, cut_yield, yield_of, used, out, next, last_of, events_on, body_events, file_events, start_events, gap_note, size_note, trailing_note, cut_short}
use Rattle.events.specs.Inner.Starts.{from_lead, from_open, from_name}
use Rattle.claims.specs.Counts.{opens_in, open_names, open_lines, depth_from}
use Rattle.claims.specs.Lost.{Mark, start, end, chunk_marks, cut_marks, turn_marks, marks_of, start_names, start_lines}
use Rattle.claims.proofs.Settle.StoreCases.{AllStay}
use Rattle.claims.proofs.Lost.Matching.{depth_behind}
use Rattle.claims.proofs.Events.Refusals.{refuse-right}
use Rattle.claims.proofs.Events.EventCases.{StartNote, start_note, start-whole, cut-gap, cut-attributes, cut-trailing, head_note, file-by}
use Rattle.claims.proofs.Events.EventCases.{name_note, name_by}

abbrev pub event_mark : Event → List Mark
event_mark (Open name fixed line) = start name.0 line ∷ []
event_mark Close = end ∷ []
event_mark Nothing = []
event_mark (Attribute p a) = []
event_mark (LeftOut n) = []
event_mark (Note x) = []
event_mark (Refuse x) = []
event_mark Finish = []

abbrev pub event_marks : List Event → List Mark
event_marks [] = []
event_marks (e ∷ es) = event_mark e ++ event_marks es

pub marks-append : (ds es : List Event) → event_marks (ds ++ es) ≡ event_marks ds ++ event_marks es
marks-append [] es = refl
marks-append (d ∷ ds) es = rw (marks-append ds es) (sym (append_assoc (event_mark d) (event_marks ds) (event_marks es)))

-- ---- events that are no marks

noted-marks : (b : Bool) (x : ResAnomaly) (es : List Event) → event_marks (event_if b (Note x) ++ es) ≡ event_marks es
noted-marks true x es = refl
noted-marks false x es = refl

attribute-marks : (N : Names) (a : XmlAttributeElement) (s : NameState) → event_mark (attribute_by N a s) ≡ []
attribute-marks N a NoText = refl
attribute-marks N a Invalid = refl
attribute-marks N a Valid = refl

attributes-marks : (N : Names) (n stride : ℕ) (l : List ℕ) → event_marks (attributes_of N n stride l) ≡ []
unfolding attributes_of attribute_event
attributes-marks N zero stride l = refl
attributes-marks N (suc n) stride l =
    rw (attribute-marks N (attribute_at l) (N.state (attribute_at l).name.0)) (attributes-marks N n stride (drop stride l))

-- ---- a start

-- these events have these marks
record HaveMarks (es : List Event) (ms : List Mark) : Type 0 where
  told : event_marks es ≡ ms

module _ (N : Names) (s : XmlStartElement) (k : ℕ) (l : List ℕ) where
  lead-marks : (b : Bool) (es : List Event) → event_marks (event_if b leading ++ es) ≡ event_marks es
  lead-marks true es = refl
  lead-marks false es = refl

  open-marks : HaveMarks (from_open N s k l) (start s.name.0 s.line ∷ [])
  unfolding from_open from_lead
  open-marks = record {
    told =
        ap (λ (ms : List Mark). start s.name.0 s.line ∷ ms)
        (lead-marks (eqb k 0) (attributes_of N s.attribute_count (stride_of s) (drop (attributes_at s) l))
        ∙ attributes-marks N s.attribute_count (stride_of s) (drop (attributes_at s) l));
  }

  name-marks : HaveMarks (from_name N s k l) (start s.name.0 s.line ∷ [])
  name-marks =
      name_by N N s k l (λ ds es. HaveMarks ds (start s.name.0 s.line ∷ []))
      (λ b n ds es h. record { told = noted-marks b (name_note N s n) ds ∙ h.told }) refl refl open-marks

  -- read whole it is one, cut it is none
  abbrev StartMarks : Bool → List Event → List Event → Type 0
  StartMarks whole ds es = HaveMarks ds (cond whole (start s.name.0 s.line ∷ []) [])

  behind : (whole b : Bool) (n : StartNote) (ds es : List Event) → StartMarks whole ds es
      → StartMarks whole (event_if b (Note (start_note s n)) ++ ds) (event_if b (Note (start_note s n)) ++ es)
  behind whole b n ds es h = record { told = noted-marks b (start_note s n) ds ∙ h.told }

  start-told : HaveMarks (start_events N s k l) (start s.name.0 s.line ∷ [])
  start-told = start-whole N N s k l StartMarks behind name-marks

  gap-cut-told : HaveMarks (gap_note s ++ cut_short) []
  gap-cut-told = cut-gap N N s k l StartMarks behind (record { told = refl })

  attributes-cut-told : HaveMarks (gap_note s ++ (size_note s ++ cut_short)) []
  attributes-cut-told = cut-attributes N N s k l StartMarks behind (record { told = refl })

  trailing-cut-told : HaveMarks (gap_note s ++ (size_note s ++ (trailing_note s ++ cut_short))) []
  trailing-cut-told = cut-trailing N N s k l StartMarks behind (record { told = refl })

-- ---- a turn

module _ (N : Names) (l : List ℕ) (p : WalkState) where
  chunk-marks : (c : Chunk) → event_marks (chunk_yield N l p c) ≡ chunk_marks c
  chunk-marks (Start s) = (start-told N s p.starts l).told
  chunk-marks End = refl
  chunk-marks (Other n) = refl
  chunk-marks Last = refl

  cut-marks : (c : CutChunk) → event_marks (cut_yield N l p c) ≡ cut_marks c
  cut-marks CutLine = refl
  cut-marks CutHead = refl
  cut-marks (CutGap s) = (gap-cut-told N s p.starts l).told
  cut-marks (CutAttributes s) = (attributes-cut-told N s p.starts l).told
  cut-marks (CutTrailing s) = (trailing-cut-told N s p.starts l).told
  cut-marks CutEnd = refl
  cut-marks CutOther = refl

  foreign-marks : (b : Bool) (x : ResAnomaly) → event_marks (event_if b (Note x)) ≡ []
  foreign-marks true x = refl
  foreign-marks false x = refl

  turn-marks : (T : Turn) → event_marks (yield_of N l p T) ≡ turn_marks T
  turn-marks Stop = refl
  turn-marks (Foreign k a n) = foreign-marks (not (eqb k p.run)) (foreign_note k a)
  turn-marks (Met c) = chunk-marks c
  turn-marks (Cut c) = cut-marks c

-- ---- a body

refuse-marks : (b : Bool) (x : Refusal) → event_marks (event_if b (Refuse x)) ≡ []
refuse-marks true x = refl
refuse-marks false x = refl

last-marks : (p : WalkState) → event_marks (last_of p) ≡ []
last-marks p =
    noted-marks (not (eqb p.depth 0)) (UnclosedElements p.depth) (event_if (eqb p.starts 0) (Refuse MissingRoot))
    ∙ refuse-marks (eqb p.starts 0) MissingRoot

module _ (N : Names) where
  on-marks : (l : List ℕ) (p : WalkState) → event_marks (events_on N l p) ≡ marks_of l
  unfolding events_on
  on-marks = walk-ind used next (λ l s. used_of-le l (turn_of l) (turn_of-told l)) (λ l p. event_marks (events_on N l p) ≡ marks_of l) stop more
    where
      stop : (l : List ℕ) (p : WalkState) → used l p ≡ 0 → event_marks (events_on N l p) ≡ marks_of l
      stop l p e =
          ap event_marks (trace-stop used (out N) next last_of l p e) ∙ marks-append (out N l p) (last_of p)
          ∙ ap (λ (x : List Mark). event_marks (out N l p) ++ x) (last-marks p)
          ∙ ap (λ (x : List Mark). x ++ []) (turn-marks N l p (turn_of l))
          ∙ sym (trace-stop {S = Unit {0}} (λ l s. used_of (length l) (turn_of l)) (λ l s. turn_marks (turn_of l)) (λ l s. tt) (λ s. []) l tt e)

      more : (l : List ℕ) (p : WalkState) (m : ℕ) → used l p ≡ suc m → suc m ≤ length l
          → event_marks (events_on N (drop (suc m) l) (next l p)) ≡ marks_of (drop (suc m) l) → event_marks (events_on N l p) ≡ marks_of l
      more l p m e h w =
          ap event_marks (trace-step used (out N) next last_of l p m e h) ∙ marks-append (out N l p) _
          ∙ ap (λ (x : List Mark). event_marks (out N l p) ++ x) w
          ∙ ap (λ (x : List Mark). x ++ marks_of (drop (suc m) l)) (turn-marks N l p (turn_of l))
          ∙ sym (trace-step {S = Unit {0}} (λ l s. used_of (length l) (turn_of l)) (λ l s. turn_marks (turn_of l)) (λ l s. tt) (λ s. []) l tt m e h)

  body-marks : (b : List ℕ) → event_marks (body_events N b) ≡ marks_of b
  unfolding body_events
  body-marks b = on-marks b _

  -- ---- a file

  pub file-marks : (o : Opened) (t b : List ℕ) → AllStay (file_events N o t b) → event_marks (file_events N o t b) ≡ marks_of b
  file-marks o t b =
      file-by N N o t b (λ ds es. AllStay ds → event_marks ds ≡ marks_of b)
      (λ c n ds es h s. noted-marks c (head_note o t n) ds ∙ h (refuse-right (λ x. ⊥) (event_if c (Note (head_note o t n))) ds s)) (λ e q s. absurd s.0)
      (λ q s. body-marks b)

-- ---- what marks tell of events

pub events-depth : (d : ℕ) (es : List Event) → depth_from d es ≡ depth_behind d (event_marks es)
events-depth d [] = refl
events-depth d (Nothing ∷ es) = events-depth d es
events-depth d (Open name fixed line ∷ es) = events-depth (d + 1) es
events-depth d (Attribute p a ∷ es) = events-depth d es
events-depth d (LeftOut n ∷ es) = events-depth d es
events-depth d (Close ∷ es) = events-depth (d - 1) es
events-depth d (Note x ∷ es) = events-depth d es
events-depth d (Refuse x ∷ es) = events-depth d es
events-depth d (Finish ∷ es) = events-depth d es

pub events-names : (es : List Event) → open_names es ≡ start_names (event_marks es)
unfolding start_names
events-names [] = refl
events-names (Nothing ∷ es) = events-names es
events-names (Open name fixed line ∷ es) = ap (λ (x : List ℕ). name.0 ∷ x) (events-names es)
events-names (Attribute p a ∷ es) = events-names es
events-names (LeftOut n ∷ es) = events-names es
events-names (Close ∷ es) = events-names es
events-names (Note x ∷ es) = events-names es
events-names (Refuse x ∷ es) = events-names es
events-names (Finish ∷ es) = events-names es

pub events-lines : (es : List Event) → open_lines es ≡ start_lines (event_marks es)
unfolding start_lines
events-lines [] = refl
events-lines (Nothing ∷ es) = events-lines es
events-lines (Open name fixed line ∷ es) = ap (λ (x : List ℕ). line ∷ x) (events-lines es)
events-lines (Attribute p a ∷ es) = events-lines es
events-lines (LeftOut n ∷ es) = events-lines es
events-lines (Close ∷ es) = events-lines es
events-lines (Note x ∷ es) = events-lines es
events-lines (Refuse x ∷ es) = events-lines es
events-lines (Finish ∷ es) = events-lines es

pub events-starts : (es : List Event) → opens_in es ≡ length (start_names (event_marks es))
unfolding start_names
events-starts [] = refl
events-starts (Nothing ∷ es) = omega (arith, events-starts es)
events-starts (Open name fixed line ∷ es) = omega (arith, events-starts es)
events-starts (Attribute p a ∷ es) = omega (arith, events-starts es)
events-starts (LeftOut n ∷ es) = omega (arith, events-starts es)
events-starts (Close ∷ es) = omega (arith, events-starts es)
events-starts (Note x ∷ es) = omega (arith, events-starts es)
events-starts (Refuse x ∷ es) = omega (arith, events-starts es)
events-starts (Finish ∷ es) = omega (arith, events-starts es)
