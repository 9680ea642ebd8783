-- `listing_back::answering::own_refusal` meets its contract.
use mathlib.Core.Path.{refl, sym}
use Rattle.errors.specs.Refusal.{refusal_number, refusal_value}
use Rattle.listing_back.proofs.Endings.{own-last}
use Rattle.listing_back.proofs.answering.own_refusal.Goals as goal

pub returns-then-number-eq8 : goal.returns-then-number-eq8
unfolding refusal_number refusal_value
returns-then-number-eq8 c = record { number = sym c.if-number-eq8.true; value = refl }

pub returns-then-number-eq9 : goal.returns-then-number-eq9
unfolding refusal_number refusal_value
returns-then-number-eq9 c = record { number = sym c.if-number-eq9.true; value = refl }

pub returns-then-number-eq10 : goal.returns-then-number-eq10
unfolding refusal_number refusal_value
returns-then-number-eq10 c = record { number = sym c.if-number-eq10.true; value = refl }

pub returns-then-number-eq24 : goal.returns-then-number-eq24
unfolding refusal_number refusal_value
returns-then-number-eq24 c = record { number = sym c.if-number-eq24.true; value = refl }

pub returns-then-number-eq25 : goal.returns-then-number-eq25
unfolding refusal_number refusal_value
returns-then-number-eq25 c = record { number = sym c.if-number-eq25.true; value = refl }

pub returns : goal.returns
unfolding refusal_number refusal_value
returns c =
    let e = own-last _ c.requires c.if-number-eq8.false c.if-number-eq9.false
    c.if-number-eq10.false c.if-number-eq24.false c.if-number-eq25.false in
    record { number = e; value = refl }
