-- How many nodes events leave: docs/FORMAT.md, W19. For proofs/Structure/Theorem.antt and proofs/Broken/Readers.antt.
--
--   settled-starts   tables that all events leave have a node for each element that opens
use Prim.Native.Nat.{ℕ, ◌+◌, ◌*◌}
use native.Mathlib.Omega.{arith}
use mathlib.Core.Path.{◌≡◌}
use mathlib.Core.List.{List, []}
use lib.ListN.{length, length-append, length-set}
use Rattle.events.specs.declared.Event.{Event}
use Rattle.records.specs.Words.{node_width}
use Rattle.records.specs.Repeats.{Rule}
use Rattle.walk.specs.Settle.{Room, Tables, going, settle, nothing_yet}
use Rattle.claims.specs.Counts.{opens_in}
use Rattle.claims.proofs.Settle.ByEvent.{idle-still, Goes, settle-in}

-- n words for nodes in the end, with these events to come
abbrev Ahead : ℕ → List Event → Tables → Type 0
Ahead n es t = length t.nodes + node_width * opens_in es ≡ n

goes : (r : Room) (n : ℕ) → Goes r (Ahead n)
goes r n = record {
  idles = λ t e es i h. omega (arith, h, (idle-still e i).opens);
  closes = λ t es h. omega (arith, h);
  opens = λ t es name f l g h. rw length-append (omega (arith, h));
  keeps = λ t es p a some g h. rw length-set (omega (arith, h));
  notes = λ t es x d g h. omega (arith, h);
  past = λ t es x d h. omega (arith, h);
}

module _ (rule : Rule) (r : Room) (es : List Event) (t : Tables) (e : settle rule r nothing_yet es ≡ going t) where
  pub settled-starts : length t.nodes ≡ node_width * opens_in es
  settled-starts =
      let n = node_width * opens_in es in
      let h : Ahead n [] t = rw e at (settle-in rule r (Ahead n) (goes r n) nothing_yet es (omega arith)) in
      omega (arith, h)
