-- `xml::units::units_end` meets its contract, by each of the blocks that pass.
use Prim.Native.Nat.{ℕ, ◌+◌, ◌*◌}
use mathlib.Core.Path.{◌≡◌, subst}
use mathlib.Core.Bool.{true}
use native.Mathlib.Omega.{arith}
use borrow.Author.Rules.{rules}
use Rattle.xml.specs.Inner.NameRun.{Seen}
use Rattle.xml.proofs.Names.{seen-chain}
use Rattle.xml.proofs.units.units_end.Goals as goal

pub returns : goal.returns
returns c =
    let s = c.args.s.now in
    let at = c.args.at in
    seen-chain true s (λ k. at + 64 * k) c.passing-blocks.result at _ (omega arith) (omega arith)
    (λ k j h i.
    let f = c.passing-blocks.ensures.passes k h in
    let block : Seen true s (at + 64 * k) (at + 64 * k + 64) = search rules in
    let e : at + 64 * k + 64 ≡ j = omega arith in
    subst (λ (x : ℕ). Seen true s (at + 64 * k) x) e block)
