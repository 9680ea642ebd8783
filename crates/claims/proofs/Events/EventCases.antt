-- One case split on what a file makes, for every law about the events of a file: docs/FORMAT.md, H15, H16, W9 to W28. No contract cites this file.
--
--   start_note    the notes that a start makes before its name: 6, 7 and 8
--   cut-gap, cut-attributes, cut-trailing, start-whole   a start: what goes on behind such a note holds of a start that is cut, and of one read whole
--   name_note     the notes that its name makes: 32 and 9; name_by: what goes on behind such a note
--   body-by      a body: what holds of its end, and goes on before each turn, holds of all its events
--   head_note     the notes that a head makes
--   file-by      a file: what goes on behind such a note, and holds of a refusal and of the body, holds of all its events
--
-- Each speaks of two lists, made with the names N and N': where R looks at the first list alone, it is a law of one file.
use Rattle.std.specs.Prelude.{Option, Some, None}
use Prim.Native.Nat.{ℕ, suc, ◌≤◌}
use native.Mathlib.Omega.{arith}
use mathlib.Core.Path.{◌≡◌, refl, ◌∙◌, ap}
use mathlib.Core.List.{List, [], ◌∷◌, ◌++◌}
use mathlib.Core.Bool.{Bool, true, false, not, ◌&&◌}
use lib.ListN.{length, drop}
use lib.Dec.{ltb, eqb}
use Rattle.anomaly.specs.declared.ResAnomaly.{ResAnomaly}
use Rattle.anomaly.specs.declared.ResAnomaly.TheVariants.{AttributeStartShifted, AttributeSizeMismatch, ElementTrailingBytes, InvalidElementName}
use Rattle.anomaly.specs.declared.ResAnomaly.TheVariants.{StringPoolGarbageChunk, StringCountMismatch, StringOffsetsOutOfBounds, DamagedElementName}
use Rattle.chunk.proofs.Walk.{walk-ind, trace-stop, trace-step}
use Rattle.res_string_pool.specs.declared.Garbage.{Garbage}
use Rattle.head.specs.declared.HeadEnd.{HeadEnd}
use Rattle.head.specs.declared.HeadEnd.TheVariants.{Whole, TooSmall, HeaderSize, PoolShort, MapShort}
use Rattle.head.specs.declared.Opened.{Opened}
use Rattle.head.specs.Head.{outside_in, refusal_of, when_note, garbage_note, count_notes, offset_notes}
use Rattle.xml_elements.specs.declared.XmlStartElement.{XmlStartElement}
use Rattle.xml_elements.specs.declared.Turn.{Turn}
use Rattle.xml_elements.specs.declared.Turn.TheVariants.{Stop, Foreign, Met, Cut}
use Rattle.xml_elements.specs.Chunk.{trailing_of, turn_of, used_of}
use Rattle.xml_elements.proofs.Laws.{Told, turn_of-told, used_of-le}
use Rattle.events.specs.declared.Event.{Event}
use Rattle.events.specs.declared.Event.TheVariants.{Note, Refuse}
use Rattle.events.specs.Events.{Names, WalkState, event_if, cut_short, yield_of, last_of, used, out, next, is_valid}
use Rattle.events.specs.Events.{events_on, body_events, notes_of, after_pool, file_events, has_one, start_events, gap_note, size_note, trailing_note}
use Rattle.events.specs.Inner.Starts.{from_lead, from_open, from_named, from_name}

-- ---- a start

pub data StartNote : Type 0 where
  shifted : StartNote
  sized : StartNote
  trailing : StartNote

abbrev pub start_note : XmlStartElement → StartNote → ResAnomaly
start_note s shifted = AttributeStartShifted s.attribute_start
start_note s sized = AttributeSizeMismatch s.attribute_size
start_note s trailing = ElementTrailingBytes (trailing_of s)

-- R true of a start that is read whole, R false of one that is cut
module _ (N N' : Names) (s : XmlStartElement) (k : ℕ) (l : List ℕ) (R : Bool → List Event → List Event → Type 0)
    (behind : (whole b : Bool) (n : StartNote) (ds es : List Event) → R whole ds es
    → R whole (event_if b (Note (start_note s n)) ++ ds) (event_if b (Note (start_note s n)) ++ es)) where
  abbrev after_trailing : List Event → List Event
  after_trailing es = trailing_note s ++ es

  abbrev after_size : List Event → List Event
  after_size es = size_note s ++ es

  trails : (whole : Bool) (ds es : List Event) → R whole ds es → R whole (after_trailing ds) (after_trailing es)
  trails whole ds es h = behind whole (not (eqb (trailing_of s) 0)) trailing ds es h

  sizes : (whole : Bool) (ds es : List Event) → R whole ds es → R whole (after_size ds) (after_size es)
  sizes whole ds es h = behind whole (not (eqb s.attribute_count 0) && ltb 20 s.attribute_size) sized ds es h

  pub start-whole : R true (from_name N s k l) (from_name N' s k l) → R true (start_events N s k l) (start_events N' s k l)
  unfolding start_events from_name from_named from_open from_lead
  start-whole h =
      behind true (ltb 20 s.attribute_start) shifted (after_size (after_trailing (from_name N s k l))) (after_size (after_trailing (from_name N' s k l)))
      (sizes true (after_trailing (from_name N s k l)) (after_trailing (from_name N' s k l)) (trails true (from_name N s k l) (from_name N' s k l) h))

  pub cut-gap : R false cut_short cut_short → R false (gap_note s ++ cut_short) (gap_note s ++ cut_short)
  cut-gap h = behind false (ltb 20 s.attribute_start) shifted cut_short cut_short h

  pub cut-attributes : R false cut_short cut_short → R false (gap_note s ++ (size_note s ++ cut_short)) (gap_note s ++ (size_note s ++ cut_short))
  cut-attributes h =
      behind false (ltb 20 s.attribute_start) shifted (after_size cut_short) (after_size cut_short) (sizes false cut_short cut_short h)

  pub cut-trailing : R false cut_short cut_short → R false (gap_note s ++ (size_note s ++ (trailing_note s ++ cut_short))) (gap_note s ++ (size_note s ++ (trailing_note s ++ cut_short)))
  cut-trailing h =
      behind false (ltb 20 s.attribute_start) shifted (after_size (after_trailing cut_short)) (after_size (after_trailing cut_short))
      (sizes false (after_trailing cut_short) (after_trailing cut_short) (trails false cut_short cut_short h))

-- ---- its name

pub data NameNote : Type 0 where
  damaged : NameNote
  invalid : NameNote

abbrev pub name_note : Names → XmlStartElement → NameNote → ResAnomaly
name_note N s damaged = DamagedElementName s.name (N.damage s.name.0)
name_note N s invalid = InvalidElementName s.name (has_one (N.state s.name.0))

-- where both take its name alike
module _ (N N' : Names) (s : XmlStartElement) (k : ℕ) (l : List ℕ) (R : List Event → List Event → Type 0)
    (behind : (b : Bool) (n : NameNote) (ds es : List Event) → R ds es → R (event_if b (Note (name_note N s n)) ++ ds) (event_if b (Note (name_note N s n)) ++ es))
    (states : N'.state s.name.0 ≡ N.state s.name.0) (damages : N'.damage s.name.0 ≡ N.damage s.name.0) where
  abbrev after_invalid : List Event → List Event
  after_invalid es = event_if (not (is_valid (N.state s.name.0))) (Note (InvalidElementName s.name (has_one (N.state s.name.0)))) ++ es

  pub name_by : R (from_open N s k l) (from_open N' s k l) → R (from_name N s k l) (from_name N' s k l)
  unfolding from_name from_named
  name_by h =
      rw (states, damages)
      (behind (not (eqb (N.damage s.name.0) 0)) damaged (after_invalid (from_open N s k l)) (after_invalid (from_open N' s k l))
      (behind (not (is_valid (N.state s.name.0))) invalid (from_open N s k l) (from_open N' s k l) h))

-- ---- a body

-- where the walk stops, the turn makes nothing
stop-none : (N : Names) (l : List ℕ) (p : WalkState) (T : Turn) → Told l T → used_of (length l) T ≡ 0 → yield_of N l p T ≡ []
stop-none N l p Stop h e = refl
stop-none N l p (Foreign k a u) h e = absurd (let y : ⊥ = omega (arith, h.1) in y)
stop-none N l p (Met c) h e = absurd (let y : ⊥ = omega (arith, h.0) in y)
stop-none N l p (Cut c) h e = absurd (let y : ⊥ = omega (arith, h.0, h.1) in y)

stops : (N : Names) (l : List ℕ) (p : WalkState) → used l p ≡ 0 → events_on N l p ≡ last_of p
unfolding events_on
stops N l p e = trace-stop used (out N) next last_of l p e ∙ ap (λ (x : List Event). x ++ last_of p) (stop-none N l p (turn_of l) (turn_of-told l) e)

steps : (N : Names) (l : List ℕ) (p : WalkState) (m : ℕ) → used l p ≡ suc m → suc m ≤ length l → events_on N l p ≡ out N l p ++ events_on N (drop (suc m) l) (next l p)
unfolding events_on
steps N l p m e h = trace-step used (out N) next last_of l p m e h

module _ (N N' : Names) (R : List ℕ → WalkState → List Event → List Event → Type 0)
    (end : (l : List ℕ) (p : WalkState) → used l p ≡ 0 → R l p (last_of p) (last_of p))
    (turn : (l : List ℕ) (p : WalkState) (m : ℕ) → used l p ≡ suc m → suc m ≤ length l → (ds es : List Event) → R (drop (suc m) l) (next l p) ds es
    → R l p (out N l p ++ ds) (out N' l p ++ es)) where
  pub body-by : (l : List ℕ) (p : WalkState) → R l p (events_on N l p) (events_on N' l p)
  body-by =
      walk-ind used next (λ l p. used_of-le l (turn_of l) (turn_of-told l)) (λ l p. R l p (events_on N l p) (events_on N' l p))
      (λ l p e. rw (stops N l p e, stops N' l p e) (end l p e))
      (λ l p m e h r. rw (steps N l p m e h, steps N' l p m e h) (turn l p m e h _ _ r))

-- ---- a file

pub data HeadNote : Type 0 where
  garbage : HeadNote
  count : HeadNote
  offsets : HeadNote

-- note 0; where no chunk was skipped it is not made, whatever it says
abbrev pub garbage_told : Option Garbage → ResAnomaly
garbage_told (Some g) = StringPoolGarbageChunk g.kind g.skipped
garbage_told None = StringPoolGarbageChunk 0 0

abbrev pub head_note : Opened → List ℕ → HeadNote → ResAnomaly
head_note o t garbage = garbage_told o.garbage
head_note o t count = StringCountMismatch o.declared o.head.count
head_note o t offsets = StringOffsetsOutOfBounds (outside_in t o.head)

one-note : (b : Bool) (x : ResAnomaly) → event_if b (Note x) ≡ notes_of (when_note b x)
one-note true x = refl
one-note false x = refl

module _ (N N' : Names) (o : Opened) (t b : List ℕ) (R : List Event → List Event → Type 0)
    (behind : (c : Bool) (n : HeadNote) (ds es : List Event) → R ds es → R (event_if c (Note (head_note o t n)) ++ ds) (event_if c (Note (head_note o t n)) ++ es))
    (refuses : (e : HeadEnd) → o.end ≡ e → R (Refuse (refusal_of e) ∷ []) (Refuse (refusal_of e) ∷ []))
    (body : o.end ≡ Whole → R (body_events N b) (body_events N' b)) where
  noted : (c : Bool) (n : HeadNote) (ds es : List Event) → R ds es → R (notes_of (when_note c (head_note o t n)) ++ ds) (notes_of (when_note c (head_note o t n)) ++ es)
  noted c n ds es h = rw (← one-note c (head_note o t n)) (behind c n ds es h)

  skipped : (g : Option Garbage) → o.garbage ≡ g → (ds es : List Event) → R ds es → R (notes_of (garbage_note g) ++ ds) (notes_of (garbage_note g) ++ es)
  skipped None q ds es h = h
  skipped (Some g) q ds es h =
      let r : R (Note (garbage_told o.garbage) ∷ ds) (Note (garbage_told o.garbage) ∷ es) = behind true garbage ds es h in
      rw q at r

  outside : (ds es : List Event) → R ds es → R (notes_of (offset_notes t o) ++ ds) (notes_of (offset_notes t o) ++ es)
  outside ds es h = noted (not (eqb (outside_in t o.head) 0)) offsets ds es h

  after : (e : HeadEnd) → o.end ≡ e → R (after_pool N o t b e) (after_pool N' o t b e)
  after Whole q = outside (body_events N b) (body_events N' b) (body q)
  after (MapShort m) q = outside _ _ (refuses (MapShort m) q)
  after (PoolShort e) q = refuses (PoolShort e) q
  after (TooSmall n) q = refuses (TooSmall n) q
  after (HeaderSize n) q = refuses (HeaderSize n) q

  pub file-by : R (file_events N o t b) (file_events N' o t b)
  unfolding file_events
  file-by =
      skipped o.garbage refl (notes_of (count_notes o) ++ after_pool N o t b o.end) (notes_of (count_notes o) ++ after_pool N' o t b o.end)
      (noted (not (eqb o.declared o.head.count)) count (after_pool N o t b o.end) (after_pool N' o t b o.end) (after o.end refl))
