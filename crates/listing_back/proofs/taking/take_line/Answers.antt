-- `listing_back::taking::take_line` meets its contract. Invariant: the bytes of the form so far have taken what was taken.
use Rattle.std.proofs.Common.{◌≡◌, Option, None, rules, arith}
use Rattle.listing_back.specs.declared.taking.Taking.{Taking}
use Rattle.listing_back.proofs.Holding.{take-first, take_more, take-lost, take-end}
use Rattle.listing_back.proofs.taking.take_line.Goals as goal

pub loop-c-init : goal.loop-c-init
loop-c-init c = take-first _ _ _ _ _ c.requires.0

pub hold_byte-requires : goal.hold_byte-requires
hold_byte-requires c =
    let s = c.loop-c.invariant.same in let f = c.loop-c.invariant.few in (omega arith, omega arith)

pub returns-in_err-f : goal.returns-in_err-f
returns-in_err-f c =
    let r : ◌≡◌ {A = Option Taking} c.from_residual.result None = search rules in
    rw r (take-lost _ _ _ _ _ _ _ _ _ c.loop-c-test.true c.loop-c.invariant c.in_err-f.ensures)

pub loop-c-preserved : goal.loop-c-preserved
loop-c-preserved c = take_more _ _ _ _ _ _ _ _ _ c.loop-c-test.true c.loop-c.invariant _ c.in_ok-f.ensures

pub returns : goal.returns
returns c = take-end _ _ _ _ _ _ _ _ c.loop-c-test.false c.loop-c.invariant
