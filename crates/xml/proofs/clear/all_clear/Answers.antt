-- `xml::clear::all_clear` meets its contract, by each of its places.
use mathlib.Core.Path.{◌≡◌, subst}
use mathlib.Core.Bool.{false}
use Prim.Native.Nat.{ℕ, ◌+◌, ◌<◌}
use native.Mathlib.Omega.{arith}
use lib.ListN.{get_or}
use borrow.Author.Rules.{rules}
use Rattle.xml.specs.Inner.NameRun.{Passed}
use Rattle.xml.proofs.Names.{passed-chain}
use Rattle.xml.proofs.ClearPlaces.{clear-passes}
use Rattle.xml.proofs.clear.all_clear.Goals as goal

pub returns : goal.returns
returns c = λ t.
    let a = c.args in
    let s = a.s.now in
    let bytes : (i : ℕ) → get_or s i 0 < 256 = λ i. (c.type_inv.s i).fits in
    passed-chain s (λ k. a.at + k) 64 a.at _ (omega arith) (omega arith)
    (λ k j h i.
    let f = c.all_pass.ensures.passes t k (omega arith) in
    let e : a.at + k + 1 ≡ j = omega arith in
    subst (λ (x : ℕ). Passed false s (a.at + k) x) e (clear-passes s bytes (a.at + k) (omega arith) (search rules)))
