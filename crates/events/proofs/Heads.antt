-- Steps in the head, and behind the walk: each makes the first of what is pending. No contract cites this file.
-- In order: garbage, count, offsets, the refusal of a head that is not whole; a start cut short, the walk's end, no start at all, nothing left.
use Rattle.std.specs.Prelude.{Option, Some, None}
use Prim.Native.Nat.{ℕ}
use native.Mathlib.Omega.{arith}
use mathlib.Core.Path.{◌≡◌, refl, sym, ◌∙◌, ap}
use mathlib.Core.List.{List, append-nil}
use mathlib.Core.Bool.{Bool, true, false, not}
use lib.ListN.{drop}
use lib.Dec.{eqb}
use Rattle.errors.specs.declared.Refusal.TheVariants.{MissingRoot}
use Rattle.anomaly.specs.declared.ResAnomaly.{ResAnomaly}
use Rattle.anomaly.specs.declared.ResAnomaly.TheVariants.{StringCountMismatch, StringOffsetsOutOfBounds}
use Rattle.anomaly.specs.declared.ResAnomaly.TheVariants.{TruncatedXml, UnclosedElements}
use Rattle.res_string_pool.specs.declared.Garbage.{Garbage}
use Rattle.head.specs.declared.HeadEnd.{HeadEnd}
use Rattle.head.specs.declared.HeadEnd.TheVariants.{Whole, TooSmall, HeaderSize, PoolShort, MapShort}
use Rattle.head.specs.declared.Opened.{Opened}
use Rattle.head.specs.Head.{refusal_of, when_note, garbage_note, outside_in}
use Rattle.events.specs.declared.Event.{Event}
use Rattle.events.specs.declared.Event.TheVariants.{Note, Refuse, Finish}
use Rattle.events.specs.declared.Phase.TheVariants.{AtGarbage, AtCount, AtOffsets, AtRefuse, AtChunk, AtShort, AtLast, AtRoot, Over}
use Rattle.events.specs.declared.Cursor.{Cursor}
use Rattle.events.specs.Events.{Names, from_root, events_on, body_events, notes_of, file_events}
use Rattle.events.specs.Inner.Steps.{to_step, note_if, garbage_event, garbage_step, pool_next, count_step, map_next, offsets_step, last_step, root_step}
use Rattle.events.specs.Inner.Pending.{Unmoved, spot_of, pending, event_list}
use Rattle.events.proofs.Model.{event_list-if, Goes, goes, goes-if}
use Rattle.events.proofs.Here.{Here, SteppedBy, made, stays, unmoved}

-- a note of the head, as an event and as a list
event_list-garbage : (g : Option Garbage) → event_list (garbage_event g) ≡ notes_of (garbage_note g)
event_list-garbage None = refl
event_list-garbage (Some g) = refl

goes-garbage : (g : Option Garbage) → Goes (garbage_event g)
goes-garbage None = goes refl
goes-garbage (Some g) = goes refl

pub event_list-note : (b : Bool) (a : ResAnomaly) → event_list (note_if b (Note a)) ≡ notes_of (when_note b a)
event_list-note true a = refl
event_list-note false a = refl

abbrev is_whole : HeadEnd → ℕ
is_whole Whole = 1
is_whole (MapShort m) = 0
is_whole (PoolShort e) = 0
is_whole (TooSmall n) = 0
is_whole (HeaderSize n) = 0

not-whole : {x : HeadEnd} → x ≡ Whole → is_whole x ≡ 0 → ⊥
not-whole e z = let y = ap is_whole e in omega arith

module _ (N : Names) (o : Opened) (t b : List ℕ) (c : Cursor) where
  -- ---- the head

  pub garbage-step : Here o b c AtGarbage → SteppedBy N o t b c AtGarbage (garbage_step o c)
  unfolding pending file_events
  garbage-step w =
      made N o t b c AtGarbage _ (goes-garbage o.garbage) (rw event_list-garbage)
      (stays N o t b c AtGarbage AtCount w (unmoved N o t b c AtCount w.held)) (omega arith)

  pub count-step : Here o b c AtCount → SteppedBy N o t b c AtCount (count_step o c)
  unfolding pending
  count-step w = go o.end refl
    where
      e : Event
      e = note_if (not (eqb o.declared o.head.count)) (Note (StringCountMismatch o.declared o.head.count))

      g : Goes e
      g = goes-if (not (eqb o.declared o.head.count)) (Note (StringCountMismatch o.declared o.head.count)) refl

      go : (x : HeadEnd) → o.end ≡ x → SteppedBy N o t b c AtCount (to_step c e (pool_next x))
      go Whole q =
          made N o t b c AtCount _ g (rw (event_list-note, q))
          (stays N o t b c AtCount AtOffsets w (unmoved N o t b c AtOffsets w.held, rw q tt)) (omega arith)
      go (MapShort m) q =
          made N o t b c AtCount _ g (rw (event_list-note, q))
          (stays N o t b c AtCount AtOffsets w (unmoved N o t b c AtOffsets w.held, rw q tt)) (omega arith)
      go (PoolShort m) q =
          made N o t b c AtCount _ g (rw (event_list-note, q)) (stays N o t b c AtCount AtRefuse w (λ z. not-whole (sym q ∙ z) refl)) (omega arith)
      go (TooSmall m) q =
          made N o t b c AtCount _ g (rw (event_list-note, q)) (stays N o t b c AtCount AtRefuse w (λ z. not-whole (sym q ∙ z) refl)) (omega arith)
      go (HeaderSize m) q =
          made N o t b c AtCount _ g (rw (event_list-note, q)) (stays N o t b c AtCount AtRefuse w (λ z. not-whole (sym q ∙ z) refl)) (omega arith)

  -- the body begins at its first byte
  begins : Unmoved c → body_events N b ≡ events_on N (drop c.at b) (spot_of c)
  unfolding body_events
  begins u = rw (u.place, u.run, u.depth, u.starts)

  pub offsets-step : Here o b c AtOffsets → SteppedBy N o t b c AtOffsets (offsets_step t o c)
  unfolding pending
  offsets-step w = go o.end refl
    where
      e : Event
      e = note_if (not (eqb (outside_in t o.head) 0)) (Note (StringOffsetsOutOfBounds (outside_in t o.head)))

      g : Goes e
      g = goes-if (not (eqb (outside_in t o.head) 0)) (Note (StringOffsetsOutOfBounds (outside_in t o.head))) refl

      go : (x : HeadEnd) → o.end ≡ x → SteppedBy N o t b c AtOffsets (to_step c e (map_next x))
      go Whole q =
          made N o t b c AtOffsets _ g (rw (event_list-note, q, begins w.held.0))
          (stays N o t b c AtOffsets AtChunk w w.held.1) (omega arith)
      go (MapShort m) q =
          made N o t b c AtOffsets _ g (rw (event_list-note, q)) (stays N o t b c AtOffsets AtRefuse w (λ z. not-whole (sym q ∙ z) refl)) (omega arith)
      go (PoolShort m) q = absurd (rw q at w.held.1)
      go (TooSmall m) q = absurd (rw q at w.held.1)
      go (HeaderSize m) q = absurd (rw q at w.held.1)

  pub refuse-step : Here o b c AtRefuse → SteppedBy N o t b c AtRefuse (to_step c (Refuse (refusal_of o.end)) Over)
  unfolding pending
  refuse-step w = made N o t b c AtRefuse _ (goes refl) refl (stays N o t b c AtRefuse Over w tt) (omega arith)

  -- ---- behind the walk

  pub short-step : Here o b c AtShort → SteppedBy N o t b c AtShort (to_step c (Note TruncatedXml) AtLast)
  unfolding pending
  short-step w = made N o t b c AtShort _ (goes refl) refl (stays N o t b c AtShort AtLast w tt) (omega arith)

  pub last_step_lem : Here o b c AtLast → SteppedBy N o t b c AtLast (last_step c)
  unfolding pending
  last_step_lem w =
      let x = not (eqb c.depth 0) in
      let e = Note (UnclosedElements c.depth) in
      made N o t b c AtLast _ (goes-if x e refl) (rw (event_list-if x e refl)) (stays N o t b c AtLast AtRoot w tt) (omega arith)

  pub root-step : Here o b c AtRoot → SteppedBy N o t b c AtRoot (root_step c)
  unfolding pending
  root-step w =
      let x = eqb c.starts 0 in
      let e = Refuse MissingRoot in
      made N o t b c AtRoot _ (goes-if x e refl) (rw (event_list-if x e refl) (sym (append-nil (from_root (spot_of c)))))
      (stays N o t b c AtRoot Over w tt) (omega arith)

  pub over-step : Here o b c Over → SteppedBy N o t b c Over (to_step c Finish Over)
  unfolding pending
  over-step w = record { same = refl; within = stays N o t b c Over Over w tt; less = λ n. absurd (n refl); over = λ e. refl }
