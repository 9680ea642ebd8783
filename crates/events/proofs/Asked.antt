-- What the steps of `step_at` ask follows from `Ready` and `Within`, by the phase. No contract cites this file.
use Prim.Native.Nat.{ℕ, ◌+◌, ◌≤◌, ◌<◌}
use native.Mathlib.Omega.{arith}
use mathlib.Core.Path.{◌≡◌}
use mathlib.Core.List.{List}
use lib.ListN.{length}
use Rattle.records.specs.Limits.{file_limit}
use Rattle.system_types.specs.Names.{Lent}
use Rattle.text.specs.Inner.Found.{Fits, Asks}
use Rattle.head.specs.declared.Opened.{Opened}
use Rattle.head.specs.Head.{PoolThere}
use Rattle.xml_elements.specs.Chunk.{stride_of, trailing_of}
use Rattle.events.specs.declared.Phase.{Phase}
use Rattle.events.specs.Events.{Names}
use Rattle.events.specs.Inner.Steps.{step_by, step_of}
use Rattle.events.specs.declared.Phase.TheVariants.{AtOffsets, AtName, AtNamed, AtAttribute}
use Rattle.events.specs.declared.Cursor.{Cursor}
use Rattle.events.specs.Inner.Pending.{Ready, Within}
use Rattle.events.proofs.Model.{fit-here}

module _ {t : List ℕ} {lent : Lent} {b : List ℕ} {o : Opened} {c : Cursor} (r : Ready t lent o) (w : Within o b c) where
  asks_of : PoolThere o.end → Asks t lent o.head
  asks_of p = record { fits = r.fits p; good = r.good }

  pub offsets-asked : c.phase ≡ AtOffsets → Fits t o.head
  offsets-asked e = let h = rw e at w.held in r.fits h.1

  pub name-asked : c.phase ≡ AtName → Asks t lent o.head × (c.at ≤ file_limit) × (c.depth ≤ file_limit) × (c.starts ≤ file_limit)
  name-asked e = let h = rw e at w.held in (asks_of h.0, omega arith, omega arith, omega arith)

  pub named-asked : c.phase ≡ AtNamed → Asks t lent o.head × (c.at ≤ file_limit) × (c.depth ≤ file_limit) × (c.starts ≤ file_limit)
  named-asked e = let h = rw e at w.held in (asks_of h.0, omega arith, omega arith, omega arith)

  pub attribute-asked : c.phase ≡ AtAttribute
      → Asks t lent o.head × (c.at + 20 ≤ length b) × (length b ≤ file_limit) × (0 < c.left)
  attribute-asked e =
      let h = rw e at w.held in
      let f = fit-here c.at c.left (stride_of c.start) (trailing_of c.start) (length b) h.1 h.2 in
      (asks_of h.0, omega arith, w.short, h.1)

-- the step of a phase is the step of a cursor at that phase
pub step_of-at : (N : Names) (o : Opened) (t b : List ℕ) (c : Cursor) {p : Phase} → c.phase ≡ p → step_by N o t b c p ≡ step_of N o t b c
unfolding step_of
step_of-at N o t b c e = rw e
