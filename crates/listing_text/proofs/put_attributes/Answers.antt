-- `listing_text::put_attributes` meets its contract. Invariant: the lines from the k-th attribute on are left. A turn: proofs/Turns.antt.
use mathlib.Core.Path.{refl}
use native.Mathlib.Omega.{arith}
use native.Mathlib.Nat.{sub-zero}
use borrow.Author.Rules.{rules}
use Rattle.digits.proofs.Written.{left-first, left-piece, left-none}
use Rattle.records.specs.Words.{attribute_width}
use Rattle.listing_text.specs.Listing.{attribute_line}
use Rattle.listing_text.proofs.Turns.{record_lines-stop, record_lines-short, record_lines-turn}
use Rattle.listing_text.proofs.put_attributes.Goals as goal

pub loop-k-init : goal.loop-k-init
loop-k-init c = (search rules, refl, rw sub-zero (left-first _ _ _))

pub returns-then-rest-lt-ATTRIBUTE_WORDS : goal.returns-then-rest-lt-ATTRIBUTE_WORDS
returns-then-rest-lt-ATTRIBUTE_WORDS c =
    let l = c.loop-k in
    left-none _ l.invariant.2 (record_lines-short attribute_width attribute_line l.k _ _ (search rules)) (omega arith)

pub loop-k-preserved : goal.loop-k-preserved
loop-k-preserved c =
    let l = c.loop-k in
    let turn = record_lines-turn attribute_width attribute_line l.k c.args.count l.rest.now c.loop-k-test.true (search rules) in
    (search rules, search rules, left-piece l.invariant.2 turn c.put_attribute-at.ensures)

pub returns : goal.returns
returns c =
    let l = c.loop-k in
    left-none _ l.invariant.2 (record_lines-stop attribute_width attribute_line l.k c.args.count _ c.loop-k-test.false) (omega arith)
