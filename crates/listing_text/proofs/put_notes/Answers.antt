-- `listing_text::put_notes` meets its contract. Invariant: the lines from the k-th note on are left. A turn: proofs/Turns.antt.
use mathlib.Core.Path.{refl}
use Prim.Native.Nat.{◌*◌}
use native.Mathlib.Omega.{arith}
use native.Mathlib.Nat.{sub-zero}
use borrow.Author.Rules.{rules}
use Rattle.records.specs.Limits.{listed_notes}
use Rattle.digits.proofs.Written.{left-first, left-piece, left-none}
use Rattle.listing_text.proofs.Turns.{note_lines-stop, note_lines-short, note_lines-step}
use Rattle.listing_text.proofs.put_notes.Goals as goal

pub loop-k-init : goal.loop-k-init
loop-k-init c = (search rules, search rules, refl, rw sub-zero (left-first _ _ _))

pub returns-then-i-ge-LISTED_NOTES : goal.returns-then-i-ge-LISTED_NOTES
returns-then-i-ge-LISTED_NOTES c =
    let l = c.loop-k in
    left-none (128 * listed_notes) l.invariant.3 (note_lines-short l.k _ l.k _ (omega arith)) (omega arith)

pub loop-k-preserved : goal.loop-k-preserved
loop-k-preserved c =
    let l = c.loop-k in
    let turn = note_lines-step l.k c.args.count l.k c.args.notes (record { kind = 0; a = 0; b = 0 }) c.loop-k-test.true (omega arith) in
    (search rules, search rules, search rules, left-piece l.invariant.3 turn c.put_note-at.ensures)

pub returns : goal.returns
returns c =
    let l = c.loop-k in
    left-none (128 * listed_notes) l.invariant.3 (note_lines-stop l.k c.args.count l.k c.args.notes c.loop-k-test.false) (omega arith)
