-- How many elements and attributes a start makes: docs/FORMAT.md, W13 to W24. For proofs/Room/FileCounts.antt.
--
--   Few            a list of events with at most so many elements and attributes
--   few-start      a start that is read whole: one element, its attributes, and at most the leading one
--   few-gap-cut, few-attributes-cut, few-trailing-cut   a start that is cut makes notes alone
use Prim.Native.Nat.{ℕ, zero, suc, ◌+◌, ◌≤◌}
use native.Mathlib.Omega.{arith}
use mathlib.Core.Path.{◌≡◌, refl}
use mathlib.Core.List.{List, [], ◌∷◌, ◌++◌}
use mathlib.Core.Bool.{Bool, true, false, cond}
use lib.ListN.{drop}
use lib.Dec.{eqb}
use Rattle.anomaly.specs.declared.ResAnomaly.{ResAnomaly}
use Rattle.anomaly.specs.declared.ResAnomaly.TheVariants.{TruncatedXml}
use Rattle.text.specs.declared.NameState.{NameState}
use Rattle.text.specs.declared.NameState.TheVariants.{NoText, Invalid, Valid}
use Rattle.xml_elements.specs.declared.XmlStartElement.{XmlStartElement}
use Rattle.xml_elements.specs.declared.XmlAttributeElement.{XmlAttributeElement}
use Rattle.xml_elements.specs.Chunk.{stride_of, attributes_at, attribute_at}
use Rattle.events.specs.declared.Event.{Event}
use Rattle.events.specs.declared.Event.TheVariants.{Note}
use Rattle.events.specs.Events.{Names, event_if, leading, attribute_by, attribute_event, attributes_of, start_events, gap_note, size_note, trailing_note, cut_short}
use Rattle.events.specs.Inner.Starts.{from_lead, from_open, from_name}
use Rattle.claims.specs.Counts.{sum_of, is_open, is_attribute, opens_in, attributes_in}
use Rattle.claims.proofs.Events.EventCases.{StartNote, start_note, start-whole, cut-gap, cut-attributes, cut-trailing, name_note, name_by}

-- ---- how many

pub sum-append : (w : Event → ℕ) (a b : List Event) → sum_of w (a ++ b) ≡ sum_of w a + sum_of w b
sum-append w [] b = omega arith
sum-append w (e ∷ a) b = omega (arith, sum-append w a b)

-- at most so many elements and attributes
pub record Few (es : List Event) (n m : ℕ) : Type 0 where
  pub opens : opens_in es ≤ n
  pub attributes : attributes_in es ≤ m

few-append : (a b : List Event) (n m k j : ℕ) → Few a n m → Few b k j → Few (a ++ b) (n + k) (m + j)
few-append a b n m k j p q = record {
  opens = omega (arith, sum-append is_open a b, p.opens, q.opens);
  attributes = omega (arith, sum-append is_attribute a b, p.attributes, q.attributes);
}

pub few-none : Few [] 0 0
few-none = record { opens = omega arith; attributes = omega arith }

pub few-note : (x : ResAnomaly) → Few (Note x ∷ []) 0 0
few-note x = record { opens = omega arith; attributes = omega arith }

pub few-when : (b : Bool) (x : ResAnomaly) → Few (event_if b (Note x)) 0 0
few-when true x = few-note x
few-when false x = few-none

pub few-noted : (b : Bool) (x : ResAnomaly) (es : List Event) (n m : ℕ) → Few es n m → Few (event_if b (Note x) ++ es) n m
few-noted true x es n m h = record { opens = omega (arith, h.opens); attributes = omega (arith, h.attributes) }
few-noted false x es n m h = h

few-le : (es : List Event) (n m k j : ℕ) → Few es n m → n ≤ k → m ≤ j → Few es k j
few-le es n m k j p h g = record { opens = omega (arith, p.opens); attributes = omega (arith, p.attributes) }

-- ---- a start

few-attribute_by : (N : Names) (a : XmlAttributeElement) (s : NameState) → Few (attribute_by N a s ∷ []) 0 1
few-attribute_by N a NoText = record { opens = omega arith; attributes = omega arith }
few-attribute_by N a Invalid = record { opens = omega arith; attributes = omega arith }
few-attribute_by N a Valid = record { opens = omega arith; attributes = omega arith }

few-attributes : (N : Names) (n stride : ℕ) (l : List ℕ) → Few (attributes_of N n stride l) 0 n
unfolding attributes_of attribute_event
few-attributes N zero stride l = few-none
few-attributes N (suc n) stride l =
    let one = few-attribute_by N (attribute_at l) (N.state (attribute_at l).name.0) in
    few-le _ (0 + 0) (1 + n) 0 (suc n) (few-append _ _ 0 1 0 n one (few-attributes N n stride (drop stride l))) (omega arith) (omega arith)

few-leading : (b : Bool) → Few (event_if b leading) 0 1
few-leading true = record { opens = omega arith; attributes = omega arith }
few-leading false = record { opens = omega arith; attributes = omega arith }

module _ (N : Names) (s : XmlStartElement) (k : ℕ) (l : List ℕ) where
  few-lead : Few (from_lead N s k l) 0 (1 + s.attribute_count)
  unfolding from_lead
  few-lead =
      few-append _ _ 0 1 0 s.attribute_count (few-leading (eqb k 0))
      (few-attributes N s.attribute_count (stride_of s) (drop (attributes_at s) l))

  few-open : Few (from_open N s k l) 1 (1 + s.attribute_count)
  unfolding from_open
  few-open = record { opens = omega (arith, few-lead.opens); attributes = omega (arith, few-lead.attributes) }

  few-name : Few (from_name N s k l) 1 (1 + s.attribute_count)
  few-name =
      name_by N N s k l (λ ds es. Few ds 1 (1 + s.attribute_count)) (λ b n ds es h. few-noted b (name_note N s n) ds 1 (1 + s.attribute_count) h) refl refl
      few-open

  -- behind the notes 6, 7 and 8
  abbrev FewStart : Bool → List Event → List Event → Type 0
  FewStart whole ds es = Few ds (cond whole 1 0) (cond whole (1 + s.attribute_count) 0)

  behind : (whole b : Bool) (n : StartNote) (ds es : List Event) → FewStart whole ds es
      → FewStart whole (event_if b (Note (start_note s n)) ++ ds) (event_if b (Note (start_note s n)) ++ es)
  behind whole b n ds es h = few-noted b (start_note s n) ds (cond whole 1 0) (cond whole (1 + s.attribute_count) 0) h

  pub few-start : Few (start_events N s k l) 1 (1 + s.attribute_count)
  few-start = start-whole N N s k l FewStart behind few-name

  -- one that is cut makes notes alone
  pub few-gap-cut : Few (gap_note s ++ cut_short) 0 0
  few-gap-cut = cut-gap N N s k l FewStart behind (few-note TruncatedXml)

  pub few-attributes-cut : Few (gap_note s ++ (size_note s ++ cut_short)) 0 0
  few-attributes-cut = cut-attributes N N s k l FewStart behind (few-note TruncatedXml)

  pub few-trailing-cut : Few (gap_note s ++ (size_note s ++ (trailing_note s ++ cut_short))) 0 0
  few-trailing-cut = cut-trailing N N s k l FewStart behind (few-note TruncatedXml)
