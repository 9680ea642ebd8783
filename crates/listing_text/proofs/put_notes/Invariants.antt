-- `listing_text::put_notes` meets its contract. Invariant: the lines from the k-th note on are left. A turn: proofs/Turns.antt.
use mathlib.Core.Path.{◌≡◌}
use Prim.Native.Nat.{◌≤◌, ◌+◌, ◌*◌, ◌-◌}
use lib.ListN.{length, drop}
use Rattle.records.specs.Limits.{listed_notes}
use Rattle.digits.proofs.Written.{Left}
use Rattle.listing_text.specs.Listing.{lines_text, note_lines}
use Rattle.listing_text.proofs.put_notes.Given as goal

abbrev pub invariant-loop-k : goal.invariant-loop-k
invariant-loop-k l = (l.k ≤ listed_notes) × (l.at ≤ l.p + 128 * l.k) × (length l.out ≡ length l.initial.out) ×
    Left l.p (lines_text (note_lines 0 l.count l.notes)) l.initial.out l.at (lines_text (note_lines l.k (l.count - l.k) (drop l.k l.notes))) l.out
