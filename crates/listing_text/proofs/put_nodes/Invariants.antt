-- `listing_text::put_nodes` meets its contract. Invariant: the lines from the k-th node on are left. A turn: proofs/Turns.antt.
use mathlib.Core.Path.{◌≡◌}
use Prim.Native.Nat.{◌≤◌, ◌+◌, ◌*◌, ◌-◌}
use lib.ListN.{length}
use Rattle.digits.proofs.Written.{Left}
use Rattle.listing_text.specs.Listing.{lines_text, node_lines}
use Rattle.listing_text.proofs.put_nodes.Given as goal

abbrev pub invariant-loop-k : goal.invariant-loop-k
invariant-loop-k l = (l.at ≤ l.p + 224 * l.k) × (length l.out ≡ length l.initial.out) ×
    Left l.p (lines_text (node_lines 0 l.count l.nodes)) l.initial.out l.at (lines_text (node_lines l.k (l.count - l.k) l.rest)) l.out
