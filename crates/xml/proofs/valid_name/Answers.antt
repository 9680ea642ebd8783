-- `xml::valid_name` meets its contract. Invariant: what is left are chars where the text is a name. Measure: the bytes left.
use mathlib.Core.Path.{sym, ◌∙◌}
use Prim.Native.Nat.{ℕ, ◌<◌}
use native.Mathlib.Omega.{arith}
use lib.ListN.{get_or}
use Rattle.utf.proofs.Turns.{stops, goes}
use Rattle.xml.proofs.Classes.{classes-right}
use Rattle.xml.proofs.Names.{valid_name-begins, end-char, valid_name-none}
use Rattle.xml.proofs.valid_name.Goals as goal

pub returns-then-s-eq0 : goal.returns-then-s-eq0
returns-then-s-eq0 c = sym (valid_name-none _ _ c.if-s-eq0.true)

pub begins_well-requires : goal.begins_well-requires
begins_well-requires c = (classes-right, omega arith)

pub returns-then-not-begins_well : goal.returns-then-not-begins_well
returns-then-not-begins_well c =
    let a = c.args in
    let bytes : (k : ℕ) → get_or a.s.now k 0 < 256 = λ k. (c.type_inv.s k).fits in
    let begun = valid_name-begins a.utf16 a.s.now (omega arith) bytes in
    sym (stops _ _ _ begun (sym c.begins_well.ensures ∙ c.if-not-begins_well.true))

pub loop-at-init : goal.loop-at-init
loop-at-init c =
    let a = c.args in
    let bytes : (k : ℕ) → get_or a.s.now k 0 < 256 = λ k. (c.type_inv.s k).fits in
    let begun = valid_name-begins a.utf16 a.s.now (omega arith) bytes in
    sym (goes _ _ _ begun (sym c.begins_well.ensures ∙ c.if-not-begins_well.false))

pub chars_run-at-requires : goal.chars_run-at-requires
chars_run-at-requires c =
    let p = c.stretch_at-p.ensures in
    (classes-right, p.ends, omega (arith, p.farther))

pub returns : goal.returns
returns c =
    let a = c.args in
    sym (end-char a.utf16 a.s.now _ c.loop-at-test.false) ∙ c.loop-at.invariant
