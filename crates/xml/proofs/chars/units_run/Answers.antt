-- `xml::chars::units_run` meets its contract, by each of the units that pass.
use mathlib.Core.Bool.{true}
use Prim.Native.Nat.{ℕ, ◌+◌, ◌*◌, ◌<◌}
use lib.ListN.{get_or}
use native.Mathlib.Omega.{arith}
use borrow.Author.Rules.{rules}
use Rattle.xml.proofs.Names.{seen-on}
use Rattle.xml.proofs.UnitChars.{units-all}
use Rattle.xml.proofs.chars.units_run.Goals as goal

pub returns : goal.returns
returns c =
    let s = c.args.s.now in
    let at = c.args.at in
    let bytes : (i : ℕ) → get_or s i 0 < 256 = λ i. (c.type_inv.s i).fits in
    let p = c.passing-ascii.ensures in
    let q = c.passing-plain.ensures in
    let from = at + 2 * c.passing-ascii.result in
    let ascii =
    units-all s at c.passing-ascii.result from (omega arith) (λ k h. omega (arith, p.within)) bytes (λ k h. let f = p.passes k h in search rules) in
    let plain =
    units-all s from c.passing-plain.result _ (omega arith) (λ k h. omega (arith, p.within, q.within)) bytes
    (λ k h. let f = q.passes k h in search rules) in
    seen-on true s at from _ ascii plain
