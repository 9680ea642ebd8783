-- The one case split on `push`, for every law about what an event, or all events, leave. docs/FORMAT.md, B3 to B6, B9 to B14. No contract cites this file.
--
--   PushCases   what a law of one event has to show, case by case: M speaks of the event and of what it leaves
--   push-cases  then it holds of every event
--   InOut       of what is settled so far: P of tables, S of a refusal; InTables: P of tables alone
--   Idle        the events, notes apart, that may leave the tables as they are; idle-still: what they leave alone
--   Goes        what a law of all events has to show, event by event, where the tables go on: I speaks of the events to come and of the tables
--   Stops       and where it is refused: S speaks of the refusal
--   settle-by   then it holds in the end; settle-in: of a law that says nothing of refusals
--   settle-keeps   what an element, an end, a kept attribute and a kept note keep, all events keep
use Prim.Native.Nat.{ℕ, ◌+◌, ◌/◌, ◌≤◌, ◌<◌}
use mathlib.Core.Path.{◌≡◌, refl}
use mathlib.Core.List.{List, [], ◌∷◌}
use mathlib.Core.Bool.{true, false}
use borrow.Author.Tests.{ltb-true, ltb-false, leb-true, leb-false, eqb-false}
use lib.ListN.{length, get_or}
use lib.Dec.{ltb, leb, eqb}
use Rattle.anomaly.specs.Note.{kind_index}
use Rattle.anomaly.specs.Kept.{is_due}
use Rattle.anomaly.specs.declared.ResAnomaly.{ResAnomaly}
use Rattle.errors.specs.declared.Refusal.{Refusal}
use Rattle.errors.specs.declared.Refusal.TheVariants.{NodesFull, AttributesFull, NotesFull}
use Rattle.common.specs.declared.StringIndex.{StringIndex}
use Rattle.xml_elements.specs.declared.XmlAttributeElement.{XmlAttributeElement}
use Rattle.xml_elements.proofs.Laws.{cond-by}
use Rattle.events.specs.declared.Event.{Event}
use Rattle.events.specs.declared.Event.TheVariants.{Nothing, Open, Attribute, LeftOut, Close, Note, Refuse, Finish}
use Rattle.records.specs.Words.{node_width, attribute_width}
use Rattle.records.specs.Repeats.{Rule}
use Rattle.walk.specs.Settle.{Room, Tables, Out, going, refused, push, settle, opened, closed, kept, noted, repeated}
use Rattle.claims.specs.Counts.{is_open, stepped, opens_as, event_notes}

-- ---- one event

-- each case with the tests that lead to it; `before-all` is an attribute before the first element, `past` a note past its cap
pub record PushCases (rule : Rule) (r : Room) (t : Tables) (M : Event → Out → Type 0) : Type 0 where
  pub makes-nothing : M Nothing (going t)
  pub finishes : M Finish (going t)
  pub leaves-out : (n : StringIndex) → M (LeftOut n) (going t)
  pub refuses : (x : Refusal) → M (Refuse x) (refused x)
  pub closes : M Close (going (closed t))
  pub opens : (n : StringIndex) (f l : ℕ) → leb (length t.nodes + node_width) r.nodes ≡ true → M (Open n f l) (going (opened t n.0 f l))
  pub no_node : (n : StringIndex) (f l : ℕ) → leb (length t.nodes + node_width) r.nodes ≡ false
      → M (Open n f l) (refused (NodesFull (r.nodes / node_width)))
  pub before-all : (p : ℕ) (a : XmlAttributeElement) → eqb (length t.nodes) 0 ≡ true → M (Attribute p a) (going t)
  pub repeats : (p : ℕ) (a : XmlAttributeElement) → eqb (length t.nodes) 0 ≡ false → repeated rule t p a ≡ true → M (Attribute p a) (going t)
  pub keeps : (p : ℕ) (a : XmlAttributeElement) → eqb (length t.nodes) 0 ≡ false → repeated rule t p a ≡ false
      → leb (length t.attributes + attribute_width) r.attributes ≡ true → M (Attribute p a) (going (kept t p a))
  pub no-attribute : (p : ℕ) (a : XmlAttributeElement) → eqb (length t.nodes) 0 ≡ false → repeated rule t p a ≡ false
      → leb (length t.attributes + attribute_width) r.attributes ≡ false → M (Attribute p a) (refused (AttributesFull (r.attributes / attribute_width)))
  pub notes : (x : ResAnomaly) → is_due r.cap t.counts (kind_index x) ≡ true → ltb (length t.notes) r.notes ≡ true
      → M (Note x) (going (noted t x))
  pub no_note : (x : ResAnomaly) → is_due r.cap t.counts (kind_index x) ≡ true → ltb (length t.notes) r.notes ≡ false
      → M (Note x) (refused (NotesFull r.notes))
  pub past : (x : ResAnomaly) → is_due r.cap t.counts (kind_index x) ≡ false → M (Note x) (going t)

pub push-cases : (rule : Rule) (r : Room) (t : Tables) (M : Event → Out → Type 0) → PushCases rule r t M → (e : Event) → M e (push rule r (going t) e)
push-cases rule r t M c Nothing = c.makes-nothing
push-cases rule r t M c Finish = c.finishes
push-cases rule r t M c (LeftOut n) = c.leaves-out n
push-cases rule r t M c (Refuse x) = c.refuses x
push-cases rule r t M c Close = c.closes
push-cases rule r t M c (Open n f l) = cond-by (M (Open n f l)) (leb (length t.nodes + node_width) r.nodes) (c.opens n f l) (c.no_node n f l)
push-cases rule r t M c (Attribute p a) =
    cond-by (M (Attribute p a)) (eqb (length t.nodes) 0) (c.before-all p a)
    (λ z. cond-by (M (Attribute p a)) (repeated rule t p a) (c.repeats p a z)
    (λ k. cond-by (M (Attribute p a)) (leb (length t.attributes + attribute_width) r.attributes) (c.keeps p a z k) (c.no-attribute p a z k)))
push-cases rule r t M c (Note x) =
    cond-by (M (Note x)) (is_due r.cap t.counts (kind_index x))
    (λ d. cond-by (M (Note x)) (ltb (length t.notes) r.notes) (c.notes x d) (c.no_note x d)) (c.past x)

-- ---- what is settled so far

abbrev pub InOut : (Tables → Type 0) → (Refusal → Type 0) → Out → Type 0
InOut P S (going t) = P t
InOut P S (refused x) = S x

abbrev pub Anything : Refusal → Type 0
Anything x = Unit {0}

abbrev pub InTables : (Tables → Type 0) → Out → Type 0
InTables P o = InOut P Anything o

-- ---- idle events

abbrev pub Idle : Event → Type 0
Idle Nothing = Unit {0}
Idle Finish = Unit {0}
Idle (LeftOut n) = Unit {0}
Idle (Attribute p a) = Unit {0}
Idle (Note x) = ⊥
Idle (Open n f l) = ⊥
Idle Close = ⊥
Idle (Refuse x) = ⊥

pub record Still (e : Event) : Type 0 where
  pub opens : is_open e ≡ 0
  pub depth : (d : ℕ) → stepped d e ≡ d
  pub order : (pick : ℕ → ℕ → ℕ → ℕ) (es : List Event) → opens_as pick (e ∷ es) ≡ opens_as pick es
  pub notes : (es : List Event) → event_notes (e ∷ es) ≡ event_notes es

pub idle-still : (e : Event) → Idle e → Still e
idle-still Nothing i = record { opens = refl; depth = λ d. refl; order = λ pick es. refl; notes = λ es. refl }
idle-still Finish i = record { opens = refl; depth = λ d. refl; order = λ pick es. refl; notes = λ es. refl }
idle-still (LeftOut n) i = record { opens = refl; depth = λ d. refl; order = λ pick es. refl; notes = λ es. refl }
idle-still (Attribute p a) i = record { opens = refl; depth = λ d. refl; order = λ pick es. refl; notes = λ es. refl }
idle-still (Note x) i = absurd i
idle-still (Open n f l) i = absurd i
idle-still Close i = absurd i
idle-still (Refuse x) i = absurd i

-- ---- what a law of all events has to show

pub record Goes (r : Room) (I : List Event → Tables → Type 0) : Type 0 where
  pub idles : (t : Tables) (e : Event) (es : List Event) → Idle e → I (e ∷ es) t → I es t
  pub closes : (t : Tables) (es : List Event) → I (Close ∷ es) t → I es (closed t)
  pub opens : (t : Tables) (es : List Event) (n : StringIndex) (f l : ℕ) → length t.nodes + node_width ≤ r.nodes → I (Open n f l ∷ es) t
      → I es (opened t n.0 f l)
  pub keeps : (t : Tables) (es : List Event) (p : ℕ) (a : XmlAttributeElement) → (length t.nodes ≡ 0 → ⊥)
      → length t.attributes + attribute_width ≤ r.attributes → I (Attribute p a ∷ es) t → I es (kept t p a)
  pub notes : (t : Tables) (es : List Event) (x : ResAnomaly) → get_or t.counts (kind_index x) 0 < r.cap → length t.notes < r.notes
      → I (Note x ∷ es) t → I es (noted t x)
  pub past : (t : Tables) (es : List Event) (x : ResAnomaly) → is_due r.cap t.counts (kind_index x) ≡ false → I (Note x ∷ es) t → I es t

pub record Stops (r : Room) (I : List Event → Tables → Type 0) (S : Refusal → Type 0) : Type 0 where
  pub refuses : (t : Tables) (es : List Event) (x : Refusal) → I (Refuse x ∷ es) t → S x
  pub nodes : (t : Tables) (es : List Event) (n : StringIndex) (f l : ℕ) → r.nodes < length t.nodes + node_width → I (Open n f l ∷ es) t
      → S (NodesFull (r.nodes / node_width))
  pub attributes : (t : Tables) (es : List Event) (p : ℕ) (a : XmlAttributeElement) → r.attributes < length t.attributes + attribute_width
      → I (Attribute p a ∷ es) t → S (AttributesFull (r.attributes / attribute_width))
  pub notes : (t : Tables) (es : List Event) (x : ResAnomaly) → get_or t.counts (kind_index x) 0 < r.cap → r.notes ≤ length t.notes
      → I (Note x ∷ es) t → S (NotesFull r.notes)

-- ---- and then

module _ (rule : Rule) (r : Room) (I : List Event → Tables → Type 0) (S : Refusal → Type 0) (goes : Goes r I) (stops : Stops r I S) where
  push-by : (t : Tables) (e : Event) (es : List Event) → I (e ∷ es) t → InOut (I es) S (push rule r (going t) e)
  push-by t e es =
      push-cases rule r t (λ e o. I (e ∷ es) t → InOut (I es) S o) (record {
        makes-nothing = goes.idles t Nothing es tt;
        finishes = goes.idles t Finish es tt;
        leaves-out = λ n. goes.idles t (LeftOut n) es tt;
        refuses = stops.refuses t es;
        closes = goes.closes t es;
        opens = λ n f l e. goes.opens t es n f l (leb-true _ _ e);
        no_node = λ n f l e. stops.nodes t es n f l (leb-false _ _ e);
        before-all = λ p a z. goes.idles t (Attribute p a) es tt;
        repeats = λ p a z k. goes.idles t (Attribute p a) es tt;
        keeps = λ p a z k e. goes.keeps t es p a (eqb-false _ _ z) (leb-true _ _ e);
        no-attribute = λ p a z k e. stops.attributes t es p a (leb-false _ _ e);
        notes = λ x d e. goes.notes t es x (ltb-true _ _ d) (ltb-true _ _ e);
        no_note = λ x d e. stops.notes t es x (ltb-true _ _ d) (ltb-false _ _ e);
        past = goes.past t es;
      }) e

  pub settle-by : (o : Out) (es : List Event) → InOut (I es) S o → InOut (I []) S (settle rule r o es)
  unfolding settle
  settle-by (going t) [] h = h
  settle-by (refused x) [] h = h
  settle-by (refused x) (e ∷ es) h = settle-by (refused x) es h
  settle-by (going t) (e ∷ es) h = settle-by (push rule r (going t) e) es (push-by t e es h)

pub settle-in : (rule : Rule) (r : Room) (I : List Event → Tables → Type 0) → Goes r I → (o : Out) (es : List Event) → InTables (I es) o
    → InTables (I []) (settle rule r o es)
settle-in rule r I goes o es h =
    settle-by rule r I Anything goes (record {
      refuses = λ t es x h. tt;
      nodes = λ t es n f l g h. tt;
      attributes = λ t es p a g h. tt;
      notes = λ t es x d g h. tt;
    }) o es h

-- ---- where the events to come play no part

module _ (rule : Rule) (r : Room) (P : Tables → Type 0)
    (opens : (t : Tables) (name fixed line : ℕ) → length t.nodes + node_width ≤ r.nodes → P t → P (opened t name fixed line))
    (closes : (t : Tables) → P t → P (closed t))
    (keeps : (t : Tables) (p : ℕ) (a : XmlAttributeElement) → (length t.nodes ≡ 0 → ⊥) → length t.attributes + attribute_width ≤ r.attributes → P t
    → P (kept t p a))
    (notes : (t : Tables) (x : ResAnomaly) → length t.notes < r.notes → P t → P (noted t x)) where
  pub settle-keeps : (o : Out) (es : List Event) → InTables P o → InTables P (settle rule r o es)
  settle-keeps =
      settle-in rule r (λ es t. P t) (record {
        idles = λ t e es i h. h;
        closes = λ t es h. closes t h;
        opens = λ t es n f l g h. opens t n.0 f l g h;
        keeps = λ t es p a some g h. keeps t p a some g h;
        notes = λ t es x d g h. notes t x g h;
        past = λ t es x d h. h;
      })
