-- Depth and starts, told by the events of a start: docs/FORMAT.md, W18, W19, W25, W27, W28. For proofs/Structure/WalkDepth.antt.
--
--   Opening    a list of events that opens n elements and closes none, and has no note 12; start-opening: a start read whole, n = 1
--   gap-cut-opening, attributes-cut-opening, trailing-cut-opening   a start that is cut opens none
use Prim.Native.Nat.{ℕ, zero, suc, ◌+◌}
use native.Mathlib.Omega.{arith}
use mathlib.Core.Path.{◌≡◌, refl, ◌∙◌}
use mathlib.Core.List.{List, [], ◌∷◌, ◌++◌}
use mathlib.Core.Bool.{Bool, true, false, cond}
use lib.ListN.{drop}
use lib.Dec.{eqb}
use Rattle.anomaly.specs.Note.{note_of}
use Rattle.anomaly.specs.declared.ResAnomaly.{ResAnomaly}
use Rattle.anomaly.specs.declared.ResAnomaly.TheVariants.{InvalidAttributeName, TruncatedXml}
use Rattle.text.specs.declared.NameState.{NameState}
use Rattle.text.specs.declared.NameState.TheVariants.{NoText, Invalid, Valid}
use Rattle.xml_elements.specs.declared.XmlStartElement.{XmlStartElement}
use Rattle.xml_elements.specs.declared.XmlAttributeElement.{XmlAttributeElement}
use Rattle.xml_elements.specs.Chunk.{stride_of, attributes_at, attribute_at}
use Rattle.events.specs.declared.Event.{Event}
use Rattle.events.specs.declared.Event.TheVariants.{Note}
use Rattle.events.specs.Events.{Names, event_if, leading, attribute_by, attributes_of, attribute_event}
use Rattle.events.specs.Events.{cut_short, start_events, gap_note, size_note, trailing_note}
use Rattle.events.specs.Inner.Starts.{from_lead, from_open, from_name}
use Rattle.claims.specs.Counts.{opens_in, stepped, depth_from, event_notes}
use Rattle.claims.proofs.Events.NotesAndOthers.{event_notes-append}
use Rattle.claims.proofs.Events.KeptNotes.{All, all_append}
use Rattle.claims.proofs.Events.EventCases.{StartNote, shifted, sized, trailing, start_note, start-whole, cut-gap, cut-attributes, cut-trailing}
use Rattle.claims.proofs.Events.EventCases.{NameNote, damaged, invalid, name_note, name_by}

-- ---- lists of events

-- it is no note 12
abbrev pub NotTwelve : ResAnomaly → Type 0
NotTwelve x = (note_of x).kind ≡ 12 → ⊥

-- there is none among these
abbrev pub NoTwelve : List Event → Type 0
NoTwelve es = All NotTwelve (event_notes es)

pub no-twelve-append : (a b : List Event) → NoTwelve a → NoTwelve b → NoTwelve (a ++ b)
no-twelve-append a b p q = rw (event_notes-append a b) (all_append NotTwelve (event_notes a) (event_notes b) p q)

pub opens-append : (a b : List Event) → opens_in (a ++ b) ≡ opens_in a + opens_in b
opens-append [] b = omega arith
opens-append (e ∷ a) b = omega (arith, opens-append a b)

pub depth-append : (d : ℕ) (a b : List Event) → depth_from d (a ++ b) ≡ depth_from (depth_from d a) b
depth-append d [] b = refl
depth-append d (e ∷ a) b = depth-append (stepped d e) a b

pub record Opening (es : List Event) (n : ℕ) : Type 0 where
  pub opens : opens_in es ≡ n
  pub depth : (d : ℕ) → depth_from d es ≡ d + n
  pub plain : NoTwelve es

opening-append : (a b : List Event) (n m : ℕ) → Opening a n → Opening b m → Opening (a ++ b) (n + m)
opening-append a b n m p q = record {
  opens = omega (arith, opens-append a b, p.opens, q.opens);
  depth = λ d. depth-append d a b ∙ q.depth (depth_from d a) ∙ omega (arith, p.depth d);
  plain = no-twelve-append a b p.plain q.plain;
}

pub opening-none : Opening [] 0
opening-none = record { opens = refl; depth = λ d. omega arith; plain = tt }

pub opening-note : (x : ResAnomaly) → ((note_of x).kind ≡ 12 → ⊥) → Opening (Note x ∷ []) 0
opening-note x h = record { opens = omega arith; depth = λ d. omega arith; plain = (h, tt) }

-- behind a note that a test lets pass
pub noted-opening : (b : Bool) (x : ResAnomaly) (es : List Event) (n : ℕ) → ((note_of x).kind ≡ 12 → ⊥) → Opening es n → Opening (event_if b (Note x) ++ es) n
noted-opening true x es n p h = record { opens = omega (arith, h.opens); depth = λ d. h.depth d; plain = (p, h.plain) }
noted-opening false x es n p h = h

-- ---- a start

attribute-opening : (N : Names) (a : XmlAttributeElement) (s : NameState) → Opening (attribute_by N a s ∷ []) 0
unfolding note_of
attribute-opening N a NoText = record { opens = omega arith; depth = λ d. omega arith; plain = tt }
attribute-opening N a Invalid = opening-note (InvalidAttributeName a.name) (λ e. omega arith)
attribute-opening N a Valid = record { opens = omega arith; depth = λ d. omega arith; plain = tt }

attributes-opening : (N : Names) (n stride : ℕ) (l : List ℕ) → Opening (attributes_of N n stride l) 0
unfolding attributes_of attribute_event
attributes-opening N zero stride l = opening-none
attributes-opening N (suc n) stride l =
    opening-append (attribute_event N l ∷ []) (attributes_of N n stride (drop stride l)) 0 0
    (attribute-opening N (attribute_at l) (N.state (attribute_at l).name.0))
    (attributes-opening N n stride (drop stride l))

leading-opening : (b : Bool) → Opening (event_if b leading) 0
leading-opening true = record { opens = omega arith; depth = λ d. omega arith; plain = tt }
leading-opening false = opening-none

module _ (N : Names) (s : XmlStartElement) (k : ℕ) (l : List ℕ) where
  lead-opening : Opening (from_lead N s k l) 0
  unfolding from_lead
  lead-opening =
      opening-append (event_if (eqb k 0) leading) (attributes_of N s.attribute_count (stride_of s) (drop (attributes_at s) l)) 0 0 (leading-opening (eqb k 0))
      (attributes-opening N s.attribute_count (stride_of s) (drop (attributes_at s) l))

  open-opening : Opening (from_open N s k l) 1
  unfolding from_open
  open-opening = record { opens = omega (arith, lead-opening.opens); depth = λ d. omega (arith, lead-opening.depth (d + 1)); plain = lead-opening.plain }

  name-plain : (n : NameNote) → NotTwelve (name_note N s n)
  unfolding note_of
  name-plain damaged = λ e. omega arith
  name-plain invalid = λ e. omega arith

  name-opening : Opening (from_name N s k l) 1
  name-opening =
      name_by N N s k l (λ ds es. Opening ds 1) (λ b n ds es h. noted-opening b (name_note N s n) ds 1 (name-plain n) h) refl refl open-opening

  -- behind the notes 6, 7 and 8
  abbrev OpeningStart : Bool → List Event → List Event → Type 0
  OpeningStart whole ds es = Opening ds (cond whole 1 0)

  note-plain : (n : StartNote) → NotTwelve (start_note s n)
  unfolding note_of
  note-plain shifted = λ e. omega arith
  note-plain sized = λ e. omega arith
  note-plain trailing = λ e. omega arith

  behind : (whole b : Bool) (n : StartNote) (ds es : List Event) → OpeningStart whole ds es
      → OpeningStart whole (event_if b (Note (start_note s n)) ++ ds) (event_if b (Note (start_note s n)) ++ es)
  behind whole b n ds es h = noted-opening b (start_note s n) ds (cond whole 1 0) (note-plain n) h

  cut-opening : Opening cut_short 0
  unfolding note_of
  cut-opening = opening-note TruncatedXml (λ e. omega arith)

  pub start-opening : Opening (start_events N s k l) 1
  start-opening = start-whole N N s k l OpeningStart behind name-opening

  pub gap-cut-opening : Opening (gap_note s ++ cut_short) 0
  gap-cut-opening = cut-gap N N s k l OpeningStart behind cut-opening

  pub attributes-cut-opening : Opening (gap_note s ++ (size_note s ++ cut_short)) 0
  attributes-cut-opening = cut-attributes N N s k l OpeningStart behind cut-opening

  pub trailing-cut-opening : Opening (gap_note s ++ (size_note s ++ (trailing_note s ++ cut_short))) 0
  trailing-cut-opening = cut-trailing N N s k l OpeningStart behind cut-opening
