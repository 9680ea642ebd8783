-- `xml::clear::clear_end` meets its contract, by each of the blocks that pass.
use mathlib.Core.Path.{◌≡◌, subst}
use mathlib.Core.Bool.{false}
use Prim.Native.Nat.{ℕ, ◌+◌, ◌*◌}
use native.Mathlib.Omega.{arith}
use borrow.Author.Rules.{rules}
use Rattle.xml.specs.Inner.NameRun.{Passed}
use Rattle.xml.proofs.Names.{passed_on, passed-chain}
use Rattle.xml.proofs.clear.clear_end.Goals as goal

pub returns : goal.returns
returns c =
    let s = c.args.s.now in
    let at = c.args.at in
    let blocks =
    passed-chain s (λ k. at + 64 * k) c.passing-blocks.result at (at + 64 * c.passing-blocks.result) (omega arith) (omega arith)
    (λ k j h i.
    let f = c.passing-blocks.ensures.passes k h in
    let block : Passed false s (at + 64 * k) (at + 64 * k + 64) = search rules in
    let e : at + 64 * k + 64 ≡ j = omega arith in
    subst (λ (x : ℕ). Passed false s (at + 64 * k) x) e block) in
    passed_on false s at _ _ blocks c.past_trails.ensures
