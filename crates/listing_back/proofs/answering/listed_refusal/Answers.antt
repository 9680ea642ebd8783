-- `listing_back::answering::listed_refusal` meets its contract.
use mathlib.Core.Path.{refl, sym}
use Rattle.errors.specs.Refusal.{refusal_number, refusal_value}
use Rattle.listing_back.proofs.Endings.{two-plain, six-plain, root-last}
use Rattle.listing_back.proofs.answering.listed_refusal.Goals as goal

pub part_refusal-requires : goal.part_refusal-requires
part_refusal-requires c = (c.requires, c.if-number-ge41.true)

pub returns-then-number-ge41 : goal.returns-then-number-ge41
unfolding refusal_number refusal_value
returns-then-number-ge41 c = c.part_refusal.ensures

pub returns-then-number-eq1 : goal.returns-then-number-eq1
unfolding refusal_number refusal_value
returns-then-number-eq1 c = record { number = sym c.if-number-eq1.true; value = refl }

pub returns-then-number-eq2 : goal.returns-then-number-eq2
unfolding refusal_number refusal_value
returns-then-number-eq2 c = record { number = sym c.if-number-eq2.true; value = two-plain _ _ c.requires c.if-number-eq2.true }

pub returns-then-number-eq3 : goal.returns-then-number-eq3
unfolding refusal_number refusal_value
returns-then-number-eq3 c = record { number = sym c.if-number-eq3.true; value = refl }

pub returns : goal.returns
unfolding refusal_number refusal_value
returns c =
    let p = c.requires in
    let e = root-last _ _ p c.if-number-ge41.false c.if-number-eq1.false c.if-number-eq2.false c.if-number-eq3.false in
    record { number = e; value = six-plain _ _ p e }
