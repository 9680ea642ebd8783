-- `xml::clear::past_trails` meets its contract, by each of the bytes that pass.
use mathlib.Core.Path.{◌≡◌, subst}
use mathlib.Core.Bool.{true, false}
use Prim.Native.Nat.{ℕ, ◌+◌, ◌<◌}
use lib.ListN.{get_or}
use native.Mathlib.Omega.{arith}
use borrow.Author.Rules.{rules}
use Rattle.xml.specs.Inner.SeenChars.{is_trail}
use Rattle.xml.specs.Inner.NameRun.{Passed}
use Rattle.xml.proofs.Names.{passed-chain}
use Rattle.xml.proofs.SeenChars.{trail-ends}
use Rattle.xml.proofs.ClearPlaces.{trail-passes}
use Rattle.xml.proofs.clear.past_trails.Goals as goal

pub returns : goal.returns
returns c =
    let s = c.args.s.now in
    let at = c.args.at in
    let bytes : (i : ℕ) → get_or s i 0 < 256 = λ i. (c.type_inv.s i).fits in
    passed-chain s (λ k. at + k) c.passing.result at _ (omega arith) (omega arith)
    (λ k j h i.
    let f = c.passing.ensures.passes k h in
    let trail : is_trail (get_or s (at + k) 0) ≡ true = search rules in
    let e : at + k + 1 ≡ j = omega arith in
    subst (λ (x : ℕ). Passed false s (at + k) x) e (trail-passes s bytes (at + k) (trail-ends _ trail)))
