-- The step at a chunk makes the first of what is pending. No contract cites this file.
-- In order: no chunk, a foreign one with its whole stretch, a whole XML chunk, a cut one.
use Prim.Native.Nat.{ℕ, ◌+◌, ◌-◌, ◌≤◌}
use native.Mathlib.Omega.{arith}
use mathlib.Core.Path.{◌≡◌, refl, ◌∙◌}
use mathlib.Core.List.{List, ◌++◌}
use mathlib.Core.Bool.{Bool, true, false, cond}
use lib.ListN.{length, drop, length-drop}
use lib.Dec.{eqb}
use Rattle.chunk.specs.Inner.Run.{skip_run}
use Rattle.head.specs.declared.Opened.{Opened}
use Rattle.xml_elements.specs.declared.XmlStartElement.{XmlStartElement}
use Rattle.xml_elements.specs.declared.Chunk.{Chunk}
use Rattle.xml_elements.specs.declared.Chunk.TheVariants.{Start, End, Other, Last}
use Rattle.xml_elements.specs.declared.CutChunk.{CutChunk}
use Rattle.xml_elements.specs.declared.CutChunk.TheVariants.{CutLine, CutHead, CutGap, CutAttributes, CutTrailing, CutEnd, CutOther}
use Rattle.xml_elements.specs.declared.Turn.{Turn}
use Rattle.xml_elements.specs.declared.Turn.TheVariants.{Stop, Foreign, Met, Cut}
use Rattle.xml_elements.specs.Chunk.{start_len, turn_of, len_of}
use Rattle.xml_elements.proofs.Laws.{foreign-there, met-there, cut-there}
use Rattle.events.specs.declared.Event.TheVariants.{Nothing}
use Rattle.events.specs.declared.Phase.TheVariants.{AtChunk, AtGap, AtName, AtShort, AtLast}
use Rattle.events.specs.declared.Cursor.{Cursor}
use Rattle.events.specs.Events.{Names, foreign_note, chunk_yield, cut_yield, chunk_next, cut_next, last_of, events_on}
use Rattle.events.specs.Inner.Starts.{from_gap, from_size, from_trailing}
use Rattle.events.specs.Inner.Steps.{begun_by, passed_to, closed_to, is_plain, chunk_step, cut_step, foreign_step, turn_step}
use Rattle.events.specs.Inner.Pending.{Within, spot_of, pending}
use Rattle.events.proofs.Model.{events_on-stop, events_on-turn, events_on-end, start_events-chain, from_gap-plain, event_list-unless, goes, goes-unless}
use Rattle.events.proofs.Runs.{run-passed}
use Rattle.events.proofs.Here.{Here, SteppedBy, made, stays}

module _ (N : Names) (o : Opened) (t b : List ℕ) (c : Cursor) where
  -- ---- the walk from here

  met-on : (x : Chunk) → turn_of (drop c.at b) ≡ Met x → c.at ≤ length b
      → events_on N (drop c.at b) (spot_of c) ≡ chunk_yield N (drop c.at b) (spot_of c) x ++ events_on N (drop (c.at + len_of x) b) (chunk_next (spot_of c) x)
  met-on x e h = events_on-turn N b c.at (spot_of c) (len_of x) e refl (omega (arith, (met-there b c.at x e h).0))

  -- a cut chunk takes all that is left
  cut_on : (x : CutChunk) → turn_of (drop c.at b) ≡ Cut x → c.at ≤ length b
      → events_on N (drop c.at b) (spot_of c) ≡ cut_yield N (drop c.at b) (spot_of c) x ++ events_on N (drop (length b) b) (cut_next (spot_of c) x)
  cut_on x e h =
      let k = cut-there b c.at x e h in
      let z : c.at + (length b - c.at) ≡ length b = omega arith in
      events_on-turn N b c.at (spot_of c) (length b - c.at) e (length-drop c.at b) (omega arith) ∙ rw z

  -- and the walk ends there
  cut-end : (x : CutChunk) → turn_of (drop c.at b) ≡ Cut x → c.at ≤ length b
      → events_on N (drop c.at b) (spot_of c) ≡ cut_yield N (drop c.at b) (spot_of c) x ++ last_of (cut_next (spot_of c) x)
  cut-end x e h = cut_on x e h ∙ rw events_on-end

  -- ---- where the cursor goes

  moved : (at k : ℕ) → Here o b c AtChunk → c.at ≤ at → at ≤ length b → Within o b (passed_to c at k)
  moved at k w h f = record { short = w.short; inside = f; deep = w.deep; few = omega (arith, w.few); held = w.held }

  closed : (at : ℕ) → Here o b c AtChunk → c.at ≤ at → at ≤ length b → Within o b (closed_to c at)
  closed at w h f = record { short = w.short; inside = f; deep = omega (arith, w.deep); few = omega (arith, w.few); held = w.held }

  begun : (s : XmlStartElement) (reach : ℕ) → Here o b c AtChunk → c.at + 36 ≤ length b
      → (reach ≡ 3 → c.at + start_len s ≤ length b) → Within o b (begun_by c s reach AtGap)
  begun s reach w h f = record { short = w.short; inside = w.inside; deep = w.deep; few = w.few; held = (w.held, (h, f)) }

  named : (s : XmlStartElement) → Here o b c AtChunk → c.at + start_len s ≤ length b → Within o b (begun_by c s 3 AtName)
  named s w f = record { short = w.short; inside = w.inside; deep = w.deep; few = w.few; held = (w.held, (refl, f)) }

  -- ---- the steps

  foreign-step : (k a n : ℕ) → turn_of (drop c.at b) ≡ Foreign k a n → Here o b c AtChunk → SteppedBy N o t b c AtChunk (foreign_step b c k a n)
  unfolding pending
  foreign-step k a n e w =
      let f = foreign-there b c.at k a n e w.inside in
      let r = run-passed N b (spot_of c) k f.0 (c.at + n) in
      let q : skip_run b (c.at + n) k ≤ length b = r.fits f.2 in
      let m : c.at + n ≤ skip_run b (c.at + n) k = r.more in
      made N o t b c AtChunk _ (goes-unless (eqb k c.run) (foreign_note k a))
      (events_on-turn N b c.at (spot_of c) n e refl (omega (arith, f.1)) ∙ rw (event_list-unless (eqb k c.run) (foreign_note k a), r.same))
      (moved (skip_run b (c.at + n) k) k w (omega arith) q) (omega (arith, f.1))

  start-step : (s : XmlStartElement) → turn_of (drop c.at b) ≡ Met (Start s) → Here o b c AtChunk → SteppedBy N o t b c AtChunk (chunk_step c (Start s))
  unfolding pending
  start-step s e w = go (is_plain s) refl
    where
      f : c.at + start_len s ≤ length b
      f = (met-there b c.at (Start s) e w.inside).1

      go : (x : Bool) → is_plain s ≡ x → SteppedBy N o t b c AtChunk (record { event = Nothing; cur = begun_by c s 3 (cond x AtName AtGap) })
      go true p =
          made N o t b c AtChunk _ (goes refl) (met-on (Start s) e w.inside ∙ rw (start_events-chain N s c.starts (drop c.at b), from_gap-plain N s c.starts (drop c.at b) p))
          (named s w f)
          (omega arith)
      go false p =
          made N o t b c AtChunk _ (goes refl) (met-on (Start s) e w.inside ∙ rw (start_events-chain N s c.starts (drop c.at b)))
          (begun s 3 w (omega (arith, f)) (λ _. f)) (omega arith)

  met-step : (x : Chunk) → turn_of (drop c.at b) ≡ Met x → Here o b c AtChunk → SteppedBy N o t b c AtChunk (chunk_step c x)
  unfolding pending
  met-step (Start s) e w = start-step s e w
  met-step End e w =
      let f = met-there b c.at End e w.inside in
      made N o t b c AtChunk _ (goes refl) (met-on End e w.inside) (closed (c.at + 24) w (omega arith) f.1) (omega (arith, f.1))
  met-step (Other n) e w =
      let f = met-there b c.at (Other n) e w.inside in
      made N o t b c AtChunk _ (goes refl) (met-on (Other n) e w.inside) (moved (c.at + n) 2 w (omega arith) f.1) (omega (arith, f.0, f.1))
  met-step Last e w =
      let f = met-there b c.at Last e w.inside in
      made N o t b c AtChunk _ (goes refl) (met-on Last e w.inside) (moved (c.at + 16) 2 w (omega arith) f.1) (omega (arith, f.1))

  cut-step : (x : CutChunk) → turn_of (drop c.at b) ≡ Cut x → Here o b c AtChunk → SteppedBy N o t b c AtChunk (cut_step (length b) c x)
  unfolding pending from_gap from_size from_trailing
  cut-step CutLine e w = made N o t b c AtChunk _ (goes refl) (cut-end CutLine e w.inside) (stays N o t b c AtChunk AtShort w tt) (omega arith)
  cut-step CutHead e w = made N o t b c AtChunk _ (goes refl) (cut-end CutHead e w.inside) (stays N o t b c AtChunk AtShort w tt) (omega arith)
  cut-step (CutGap s) e w =
      let f = cut-there b c.at (CutGap s) e w.inside in
      made N o t b c AtChunk _ (goes refl) (cut-end (CutGap s) e w.inside)
      (begun s 0 w f.1 (λ z. absurd (let y : ⊥ = omega arith in y))) (omega arith)
  cut-step (CutAttributes s) e w =
      let f = cut-there b c.at (CutAttributes s) e w.inside in
      made N o t b c AtChunk _ (goes refl) (cut-end (CutAttributes s) e w.inside)
      (begun s 1 w f.1 (λ z. absurd (let y : ⊥ = omega arith in y))) (omega arith)
  cut-step (CutTrailing s) e w =
      let f = cut-there b c.at (CutTrailing s) e w.inside in
      made N o t b c AtChunk _ (goes refl) (cut-end (CutTrailing s) e w.inside)
      (begun s 2 w f.1 (λ z. absurd (let y : ⊥ = omega arith in y))) (omega arith)
  cut-step CutEnd e w =
      let f = cut-there b c.at CutEnd e w.inside in
      made N o t b c AtChunk _ (goes refl) (cut_on CutEnd e w.inside) (closed (length b) w w.inside (omega arith)) (omega (arith, f.1))
  cut-step CutOther e w =
      let f = cut-there b c.at CutOther e w.inside in
      made N o t b c AtChunk _ (goes refl) (cut_on CutOther e w.inside) (moved (length b) 2 w w.inside (omega arith)) (omega (arith, f.1))

  pub chunk-step : Here o b c AtChunk → SteppedBy N o t b c AtChunk (turn_step b c (turn_of (drop c.at b)))
  unfolding pending
  chunk-step w = go (turn_of (drop c.at b)) refl
    where
      go : (T : Turn) → turn_of (drop c.at b) ≡ T → SteppedBy N o t b c AtChunk (turn_step b c T)
      go Stop e = made N o t b c AtChunk _ (goes refl) (events_on-stop N (drop c.at b) (spot_of c) e) (stays N o t b c AtChunk AtLast w tt) (omega arith)
      go (Foreign k a n) e = foreign-step k a n e w
      go (Met x) e = met-step x e w
      go (Cut x) e = cut-step x e w
