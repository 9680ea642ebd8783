-- THE LAW of the cursor: a step makes the first of what is pending, stays within, and comes nearer to the end; and what is pending at
-- first is what the file makes. No contract cites this file; the loop above goes by it alone.
use Prim.Native.Nat.{ℕ, ◌≤◌, zero-le}
use native.Mathlib.Omega.{arith}
use mathlib.Core.Path.{◌≡◌, refl}
use mathlib.Core.List.{List}
use lib.ListN.{length}
use Rattle.records.specs.Limits.{file_limit}
use Rattle.head.specs.declared.Opened.{Opened}
use Rattle.events.specs.declared.Phase.{Phase}
use Rattle.events.specs.declared.Phase.TheVariants.{AtGarbage, AtCount, AtOffsets, AtRefuse, AtChunk, AtGap, AtSize, AtTrailing}
use Rattle.events.specs.declared.Phase.TheVariants.{AtShort, AtName, AtNamed, AtOpen, AtLead, AtAttribute, AtLast, AtRoot, Over}
use Rattle.events.specs.declared.Cursor.{Cursor}
use Rattle.events.specs.Events.{Names, file_events}
use Rattle.events.specs.Inner.Steps.{first_cursor, step_by, step_of}
use Rattle.events.specs.Inner.Pending.{Within, Stepped, pending, steps}
use Rattle.events.proofs.Here.{Here, SteppedBy}
use Rattle.events.proofs.Heads.{garbage-step, count-step, offsets-step, refuse-step, short-step, last_step_lem, root-step, over-step}
use Rattle.events.proofs.Starts.{gap_step_lem, size_step_lem, trailing-step, name-step, named_step_lem, open_step_lem, lead-step, attribute-step}
use Rattle.events.proofs.Chunks.{chunk-step}

module _ (N : Names) (o : Opened) (t b : List ℕ) (c : Cursor) where
  by-phase : (p : Phase) → Here o b c p → SteppedBy N o t b c p (step_by N o t b c p)
  by-phase AtGarbage w = garbage-step N o t b c w
  by-phase AtCount w = count-step N o t b c w
  by-phase AtOffsets w = offsets-step N o t b c w
  by-phase AtRefuse w = refuse-step N o t b c w
  by-phase AtChunk w = chunk-step N o t b c w
  by-phase AtGap w = gap_step_lem N o t b c w
  by-phase AtSize w = size_step_lem N o t b c w
  by-phase AtTrailing w = trailing-step N o t b c w
  by-phase AtShort w = short-step N o t b c w
  by-phase AtName w = name-step N o t b c w
  by-phase AtNamed w = named_step_lem N o t b c w
  by-phase AtOpen w = open_step_lem N o t b c w
  by-phase AtLead w = lead-step N o t b c w
  by-phase AtAttribute w = attribute-step N o t b c w
  by-phase AtLast w = last_step_lem N o t b c w
  by-phase AtRoot w = root-step N o t b c w
  by-phase Over w = over-step N o t b c w

  pub stepped : Within o b c → Stepped N o t b c (step_of N o t b c)
  unfolding step_of pending
  stepped w =
      let h : Here o b c c.phase = record { short = w.short; inside = w.inside; deep = w.deep; few = w.few; held = w.held } in
      let s = by-phase c.phase h in
      record { same = s.same; within = s.within; less = s.less; over = s.over }

-- ---- the first cursor

-- from it on, all that the file makes is pending
pub pending-first : (N : Names) (o : Opened) (t b : List ℕ) → pending N o t b first_cursor ≡ file_events N o t b
unfolding pending
pending-first N o t b = refl

pub within_first : (o : Opened) (b : List ℕ) → length b ≤ file_limit → Within o b first_cursor
within_first o b h =
    record { short = h; inside = zero-le; deep = zero-le; few = zero-le; held = record { place = refl; run = refl; depth = refl; starts = refl } }

-- and so many steps suffice
pub steps_first : (b : List ℕ) → length b ≤ file_limit → steps b first_cursor ≤ 335544335
steps_first b h = omega arith
