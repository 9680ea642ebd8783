-- A cursor at a phase, and what a step from there does, with the phase named apart so that each can be shown by itself. No contract cites this file.
--
--   Here       `Within` of a cursor as if its phase were p
--   SteppedBy  `Stepped` of a cursor as if its phase were p
--   made       a step that is not the last
--   stays      a cursor that only changes its phase stays within
use Prim.Native.Nat.{ℕ, ◌+◌, ◌-◌, ◌*◌, ◌≤◌, ◌<◌}
use mathlib.Core.Path.{◌≡◌}
use mathlib.Core.List.{List, [], ◌++◌}
use lib.ListN.{length}
use Rattle.records.specs.Limits.{file_limit}
use Rattle.head.specs.declared.Opened.{Opened}
use Rattle.events.specs.declared.Event.TheVariants.{Finish}
use Rattle.events.specs.declared.Phase.{Phase}
use Rattle.events.specs.declared.Cursor.{Cursor}
use Rattle.events.specs.declared.Step.{Step}
use Rattle.events.specs.Events.{Names}
use Rattle.events.specs.Inner.Steps.{to_phase}
use Rattle.events.specs.Inner.Pending.{Held, Within, Unmoved, pend_by, pending, rank, steps, event_list}
use Rattle.events.proofs.Model.{Goes}

pub record Here (o : Opened) (b : List ℕ) (c : Cursor) (p : Phase) : Type 0 where
  pub short : length b ≤ file_limit
  pub inside : c.at ≤ length b
  pub deep : c.depth ≤ c.starts
  pub few : c.starts ≤ c.at
  pub held : Held o.end (length b) c p

pub record SteppedBy (N : Names) (o : Opened) (t b : List ℕ) (c : Cursor) (p : Phase) (s : Step) : Type 0 where
  pub same : pend_by N o t b c p ≡ event_list s.event ++ pending N o t b s.cur
  pub within : Within o b s.cur
  pub less : (s.event ≡ Finish → ⊥) → steps b s.cur < 20 * (length b - c.at) + rank p
  pub over : s.event ≡ Finish → pend_by N o t b c p ≡ []

module _ (N : Names) (o : Opened) (t b : List ℕ) (c : Cursor) where
  pub made : (p : Phase) (s : Step) → Goes s.event → pend_by N o t b c p ≡ event_list s.event ++ pending N o t b s.cur → Within o b s.cur
      → steps b s.cur < 20 * (length b - c.at) + rank p → SteppedBy N o t b c p s
  made p s g e w l = record { same = e; within = w; less = λ _. l; over = λ z. absurd (g z) }

  pub stays : (p q : Phase) → Here o b c p → Held o.end (length b) (to_phase c q) q → Within o b (to_phase c q)
  stays p q w h = record { short = w.short; inside = w.inside; deep = w.deep; few = w.few; held = h }

  pub unmoved : (q : Phase) → Unmoved c → Unmoved (to_phase c q)
  unmoved q u = record { place = u.place; run = u.run; depth = u.depth; starts = u.starts }
