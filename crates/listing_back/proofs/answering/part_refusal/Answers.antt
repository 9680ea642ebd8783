-- `listing_back::answering::part_refusal` meets its contract.
use mathlib.Core.Path.{refl, sym}
use Rattle.errors.specs.Refusal.{refusal_number, refusal_value}
use Rattle.listing_back.proofs.Endings.{part-last}
use Rattle.listing_back.proofs.answering.part_refusal.Goals as goal

pub returns-then-number-eq41 : goal.returns-then-number-eq41
unfolding refusal_number refusal_value
returns-then-number-eq41 c = record { number = sym c.if-number-eq41.true; value = refl }

pub returns-then-number-eq42 : goal.returns-then-number-eq42
unfolding refusal_number refusal_value
returns-then-number-eq42 c = record { number = sym c.if-number-eq42.true; value = refl }

pub returns-then-number-eq43 : goal.returns-then-number-eq43
unfolding refusal_number refusal_value
returns-then-number-eq43 c = record { number = sym c.if-number-eq43.true; value = refl }

pub returns-then-number-eq44 : goal.returns-then-number-eq44
unfolding refusal_number refusal_value
returns-then-number-eq44 c = record { number = sym c.if-number-eq44.true; value = refl }

pub returns-then-number-eq45 : goal.returns-then-number-eq45
unfolding refusal_number refusal_value
returns-then-number-eq45 c = record { number = sym c.if-number-eq45.true; value = refl }

pub returns-then-number-eq51 : goal.returns-then-number-eq51
unfolding refusal_number refusal_value
returns-then-number-eq51 c = record { number = sym c.if-number-eq51.true; value = refl }

pub returns : goal.returns
unfolding refusal_number refusal_value
returns c =
    let p = c.requires in
    let e = part-last _ _ p.0 p.1 c.if-number-eq41.false c.if-number-eq42.false
    c.if-number-eq43.false c.if-number-eq44.false c.if-number-eq45.false c.if-number-eq51.false in
    record { number = e; value = refl }
