-- Foreign chunks whose notes are past their cap: what is settled from them on is what is settled behind them. No contract cites this file.
-- In order: a note past its cap (`settle-when`, `past-cap`), one chunk of a sort (`reaches-0`, `reaches-1`), the cursor (`on-here`, `on-chunk`), and the loop's
-- head of `read_on` behind them (`read-passed`).
use Prim.Native.Nat.{ℕ, ◌+◌, ◌≤◌, ◌<◌}
use native.Mathlib.Omega.{arith}
use mathlib.Core.Path.{◌≡◌, refl, sym, ◌∙◌, ap}
use mathlib.Core.List.{List, ◌++◌}
use mathlib.Core.Bool.{Bool, true, false, not}
use borrow.Author.Tests.{le-ltb, ltb-false}
use lib.ListN.{length, drop, get_or}
use lib.Dec.{eqb}
use Rattle.anomaly.specs.Note.{kind_index}
use Rattle.anomaly.specs.Kept.{is_due}
use Rattle.anomaly.specs.declared.ResAnomaly.{ResAnomaly}
use Rattle.anomaly.specs.declared.ResAnomaly.TheVariants.{NonXmlChunk, XmlNodeHeaderSize}
use Rattle.common.proofs.Laws.{header_here}
use Rattle.chunk.specs.Inner.Run.{run_used}
use Rattle.xml_elements.specs.declared.Turn.TheVariants.{Foreign}
use Rattle.xml_elements.specs.Chunk.{foreign_number, turn_of}
use Rattle.xml_elements.proofs.Laws.{turn_of-run}
use Rattle.records.specs.Repeats.{Rule}
use Rattle.system_types.specs.Names.{Lent}
use Rattle.head.specs.declared.Opened.{Opened}
use Rattle.events.specs.declared.Cursor.{Cursor}
use Rattle.events.specs.declared.Event.{Event}
use Rattle.events.specs.declared.Event.TheVariants.{Note}
use Rattle.events.specs.declared.Phase.TheVariants.{AtChunk}
use Rattle.events.specs.Events.{Names, event_if, events_on}
use Rattle.events.specs.Inner.Steps.{passed_to}
use Rattle.events.specs.Inner.Pending.{Within, pending, steps}
use Rattle.events.proofs.Model.{events_on-turn}
use Rattle.walk.specs.declared.tree.Tree.{Tree}
use Rattle.walk.specs.declared.State.{State}
use Rattle.walk.specs.Settle.{Room, Tables, going, settle}
use Rattle.walk.specs.Reading.{final_of}
use Rattle.walk.specs.Inner.Outcome.{StateOk, room_of}
use Rattle.walk.specs.Inner.Pass.{spot_at, NoneDue, Reaches, PassesOn}
use Rattle.walk.proofs.Advancing.{ReadHead, body, tables, N}

-- ---- a note past its cap

settle-when : (rule : Rule) (r : Room) (T : Tables) (x : ResAnomaly) (b : Bool) (es : List Event) → r.cap ≤ get_or T.counts (kind_index x) 0
    → settle rule r (going T) (event_if b (Note x) ++ es) ≡ settle rule r (going T) es
unfolding settle
settle-when rule r T x true es h = rw (le-ltb (get_or T.counts (kind_index x) 0) r.cap h)
settle-when rule r T x false es h = refl

-- what the code knows of the place k where it found no note due
pub past-cap : (cap : ℕ) (counts : List ℕ) {k k' : ℕ} {b : Bool} → k ≡ k' → b ≡ is_due cap counts k → b ≡ false → cap ≤ get_or counts k' 0
past-cap cap counts {k} e d q = rw e at (ltb-false (get_or counts k 0) cap (sym d ∙ q))

-- ---- from place to place

pub reaches_here : (b : List ℕ) (at run : ℕ) → at ≤ length b → Reaches b at run at run
reaches_here b at run h = record { more = omega arith; fits = h; quiet = λ M d s r T none. refl }

module _ (b : List ℕ) (at run n : ℕ) (some : 0 < n) (f : at + n ≤ length b) where
  pub reaches-0 : n ≡ run_used 0 (drop at b) → Reaches b at run (at + n) 0
  unfolding kind_index
  reaches-0 e =
      let t : turn_of (drop at b) ≡ Foreign 0 (foreign_number (header_here (drop at b))) n =
      rw (← e) at (turn_of-run 0 (drop at b) (omega arith) (omega arith)) in
      let a = foreign_number (header_here (drop at b)) in
      record {
        more = omega arith;
        fits = f;
        quiet = λ M d s r T none.
            (ap (λ (es : List Event). settle M.repeats r (going T) es) (events_on-turn M b at (spot_at run d s) n t refl some)
            ∙ settle-when M.repeats r T (NonXmlChunk a) (not (eqb 0 run)) (events_on M (drop (at + n) b) (spot_at 0 d s)) none.0);
      }

  pub reaches-1 : n ≡ run_used 1 (drop at b) → Reaches b at run (at + n) 1
  unfolding kind_index
  reaches-1 e =
      let t : turn_of (drop at b) ≡ Foreign 1 (foreign_number (header_here (drop at b))) n =
      rw (← e) at (turn_of-run 1 (drop at b) (omega arith) (omega arith)) in
      let a = foreign_number (header_here (drop at b)) in
      record {
        more = omega arith;
        fits = f;
        quiet = λ M d s r T none.
            (ap (λ (es : List Event). settle M.repeats r (going T) es) (events_on-turn M b at (spot_at run d s) n t refl some)
            ∙ settle-when M.repeats r T (XmlNodeHeaderSize a) (not (eqb 1 run)) (events_on M (drop (at + n) b) (spot_at 1 d s)) none.1);
      }

pub reaches-on : (b : List ℕ) (at run at' run' at'' run'' : ℕ) → Reaches b at run at' run' → Reaches b at' run' at'' run'' → Reaches b at run at'' run''
reaches-on b at run at' run' at'' run'' g h = record {
  more = omega (arith, g.more, h.more);
  fits = h.fits;
  quiet = λ M d s r T none. (g.quiet M d s r T none ∙ h.quiet M d s r T none);
}

-- ---- the cursor

pub on-here : (b : List ℕ) (cap : ℕ) (cs : List ℕ) (c : Cursor) → PassesOn b cap cs c c
on-here b cap cs c = record { within = λ o w. w; low = omega arith; quiet = λ M o t r T p q. refl }

module _ (b : List ℕ) (cap : ℕ) (cs : List ℕ) (c : Cursor) (at run : ℕ) (e : c.phase ≡ AtChunk) (g : Reaches b c.at c.run at run) where
  chunk-within : (o : Opened) → Within o b c → Within o b (passed_to c at run)
  chunk-within o w =
      record { short = w.short; inside = g.fits; deep = w.deep; few = omega (arith, w.few, g.more); held = rw e at w.held }

  chunk-low : steps b (passed_to c at run) ≤ steps b c
  chunk-low = rw e (omega (arith, g.more))

  chunk-quiet : NoneDue cap cs → (M : Names) (o : Opened) (t : List ℕ) (r : Room) (T : Tables) → r.cap ≡ cap → T.counts ≡ cs
      → settle M.repeats r (going T) (pending M o t b c) ≡ settle M.repeats r (going T) (pending M o t b (passed_to c at run))
  unfolding pending
  chunk-quiet none M o t r T p q = rw e (g.quiet M c.depth c.starts r T (rw (p, q) none))

  pub on-chunk : NoneDue cap cs → PassesOn b cap cs c (passed_to c at run)
  on-chunk none = record { within = chunk-within; low = chunk-low; quiet = chunk-quiet none }

-- ---- the loop's head of `read_on`

pub read-passed : (f : List ℕ) (lent : Lent) (ns₀ ats₀ : List ℕ) (st : State) (g : StateOk f lent ns₀ ats₀ st) (ns ats : List ℕ) (c : Cursor) (tree : Tree)
    → ReadHead f lent ns₀ ats₀ st g ns ats c tree → (c' : Cursor) → PassesOn (body f lent st) st.cap st.notes.counts c c'
    → ReadHead f lent ns₀ ats₀ st g ns ats c' tree
read-passed f lent ns₀ ats₀ st g ns ats c tree hd c' p = record {
  now = record {
    stack = hd.now.stack;
    ready = hd.now.ready;
    within = p.within st.opened hd.now.within;
    tied = hd.now.tied;
    chained = hd.now.chained;
    budget = omega (arith, hd.now.budget, p.low);
  };
  ln = hd.ln;
  la = hd.la;
  low = omega (arith, hd.low, p.low);
  stored = hd.stored;
  few = hd.few;
  much = hd.much;
  same = λ os l.
      (hd.same os l
      ∙ ap (final_of (room_of ns₀ ats₀ st)) (p.quiet (N f lent st) st.opened (tables f lent st) (room_of ns₀ ats₀ st) _ refl refl));
}
