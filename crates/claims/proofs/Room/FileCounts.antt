-- How many elements and attributes a file can make: docs/FORMAT.md, W13 to W19, W24. For proofs/Room/Theorem.antt.
--
--   body-few   an element takes 36 bytes of the body, and an attribute 20; the leading attribute is paid for by its element
--   file-few   the same of a file
use Prim.Native.Nat.{ℕ, zero, suc, ◌+◌, ◌-◌, ◌*◌, ◌≤◌}
use native.Mathlib.Omega.{arith}
use mathlib.Core.List.{List, [], ◌++◌}
use mathlib.Core.Bool.{Bool, true, false, not}
use lib.ListN.{length, drop, length-drop}
use lib.Dec.{eqb}
use Rattle.anomaly.specs.declared.ResAnomaly.TheVariants.{TruncatedXml}
use Rattle.anomaly.specs.declared.ResAnomaly.TheVariants.{UnclosedElements}
use Rattle.errors.specs.declared.Refusal.TheVariants.{MissingRoot}
use Rattle.head.specs.declared.Opened.{Opened}
use Rattle.xml_elements.specs.declared.Chunk.{Chunk}
use Rattle.xml_elements.specs.declared.Chunk.TheVariants.{Start, End, Other, Last}
use Rattle.xml_elements.specs.declared.CutChunk.{CutChunk}
use Rattle.xml_elements.specs.declared.CutChunk.TheVariants.{CutLine, CutHead, CutGap, CutAttributes, CutTrailing, CutEnd, CutOther}
use Rattle.xml_elements.specs.declared.Turn.{Turn}
use Rattle.xml_elements.specs.declared.Turn.TheVariants.{Stop, Foreign, Met, Cut}
use Rattle.xml_elements.specs.Chunk.{turn_of, used_of, len_of, start_len}
use Rattle.events.specs.declared.Event.{Event}
use Rattle.events.specs.declared.Event.TheVariants.{Refuse, Note}
use Rattle.events.specs.Events.{Names, WalkState, event_if}
use Rattle.events.specs.Events.{from_root, foreign_note, chunk_yield, cut_yield, yield_of, used, out, last_of, events_on, body_events}
use Rattle.events.specs.Events.{file_events}
use Rattle.claims.specs.Counts.{is_open, is_attribute, opens_in, attributes_in}
use Rattle.claims.proofs.Room.StartCounts.{sum-append, Few, few-none, few-note, few-when, few-noted, few-start}
use Rattle.claims.proofs.Room.StartCounts.{few-gap-cut, few-attributes-cut, few-trailing-cut}
use Rattle.claims.proofs.Events.EventCases.{body-by, HeadNote, head_note, file-by}

-- ---- a turn

-- what n bytes can make
pub record Paid (es : List Event) (n : ℕ) : Type 0 where
  pub opens : 36 * opens_in es ≤ n
  pub attributes : 20 * attributes_in es ≤ n

paid-by : (es : List Event) (n m k : ℕ) → Few es n m → 36 * n ≤ k → 20 * m ≤ k → Paid es k
paid-by es n m k h p q = record { opens = omega (arith, h.opens); attributes = omega (arith, h.attributes) }

paid-none : (es : List Event) (k : ℕ) → Few es 0 0 → Paid es k
paid-none es k h = paid-by es 0 0 k h (omega arith) (omega arith)

paid-append : (a b : List Event) (n m k : ℕ) → Paid a n → Paid b m → n + m ≤ k → Paid (a ++ b) k
paid-append a b n m k p q h = record {
  opens = omega (arith, sum-append is_open a b, p.opens, q.opens);
  attributes = omega (arith, sum-append is_attribute a b, p.attributes, q.attributes);
}

-- an attribute takes 20 bytes, also where attribute_size is below 20
stride-le : (n e : ℕ) → 20 * n ≤ n * (20 + e)
stride-le zero e = omega arith
stride-le (suc n) e = omega (arith, stride-le n e)

module _ (N : Names) (l : List ℕ) (p : WalkState) where
  chunk-paid : (c : Chunk) → Paid (chunk_yield N l p c) (len_of c)
  chunk-paid (Start s) =
      paid-by _ 1 (1 + s.attribute_count) (start_len s) (few-start N s p.starts l) (omega arith)
      (omega (arith, stride-le s.attribute_count (s.attribute_size - 20)))
  chunk-paid End = record { opens = omega arith; attributes = omega arith }
  chunk-paid (Other n) = paid-none [] n few-none
  chunk-paid Last = paid-none _ 16 (few-note _)

  cut-paid : (c : CutChunk) (n : ℕ) → Paid (cut_yield N l p c) n
  cut-paid CutLine n = paid-none _ n (few-note TruncatedXml)
  cut-paid CutHead n = paid-none _ n (few-note TruncatedXml)
  cut-paid (CutGap s) n = paid-none _ n (few-gap-cut N s p.starts l)
  cut-paid (CutAttributes s) n = paid-none _ n (few-attributes-cut N s p.starts l)
  cut-paid (CutTrailing s) n = paid-none _ n (few-trailing-cut N s p.starts l)
  cut-paid CutEnd n = record { opens = omega arith; attributes = omega arith }
  cut-paid CutOther n = paid-none _ n few-none

  turn-paid : (T : Turn) (n : ℕ) → Paid (yield_of N l p T) (used_of n T)
  turn-paid Stop n = paid-none [] 0 few-none
  turn-paid (Foreign k a u) n = paid-none _ u (few-when (not (eqb k p.run)) (foreign_note k a))
  turn-paid (Met c) n = chunk-paid c
  turn-paid (Cut c) n = cut-paid c n

-- ---- a body

last-paid : (p : WalkState) (n : ℕ) → Paid (last_of p) n
last-paid p n = paid-none _ n (few-noted (not (eqb p.depth 0)) (UnclosedElements p.depth) (from_root p) 0 0 (root (eqb p.starts 0)))
  where
    root : (b : Bool) → Few (event_if b (Refuse MissingRoot)) 0 0
    root true = record { opens = omega arith; attributes = omega arith }
    root false = few-none

pub body-few : (N : Names) (l : List ℕ) (p : WalkState) → Paid (events_on N l p) (length l)
body-few N =
    body-by N N (λ l p ds es. Paid ds (length l)) (λ l p e. last-paid p (length l))
    (λ l p m e h ds es r. paid-append (out N l p) ds (used l p) (length (drop (suc m) l)) (length l) (turn-paid N l p (turn_of l) (length l)) r
    (omega (arith, e, h, length-drop (suc m) l)))

-- ---- a file

pub file-few : (N : Names) (o : Opened) (t b : List ℕ) → Paid (file_events N o t b) (length b)
unfolding body_events
file-few N o t b =
    file-by N N o t b (λ ds es. Paid ds (length b)) behind (λ e q. paid-none _ (length b) (record { opens = omega arith; attributes = omega arith }))
    (λ q. body-few N b (record { run = 2; depth = 0; starts = 0 }))
  where
    behind : (c : Bool) (n : HeadNote) (ds es : List Event) → Paid ds (length b) → Paid (event_if c (Note (head_note o t n)) ++ ds) (length b)
    behind c n ds es h =
        paid-append (event_if c (Note (head_note o t n))) ds 0 (length b) (length b) (paid-none _ 0 (few-when c (head_note o t n))) h (omega arith)
