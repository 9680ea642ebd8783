-- `xml::clear::two_clear` meets its contract, by each first byte.
use mathlib.Core.Bool.{not, ◌&&◌, ◌||◌}
use lib.Dec.{eqb}
use Rattle.xml.specs.Inner.SeenChars.{is_trail}
use borrow.Author.Tests.{eqb-true, eqb-false, not-true}
use Rattle.utf.proofs.Tables.{both_true}
use Rattle.utf.proofs.Either.{or2, or3}
use Rattle.xml.proofs.ClearBytes.{no-trail, clear-dot, clear-cut-two, clear-c3, clear-cd}
use native.Mathlib.Omega.{arith}
use Rattle.xml.proofs.clear.two_clear.Goals as goal

pub returns : goal.returns
returns c =
    let b = c.args.b in
    let x = c.args.c in
    λ t y z.
    or3 (eqb b _ && (eqb x _ || not (is_trail x))) ((eqb b _ && not (eqb x _)) && not (eqb x _)) (eqb b _ && not (eqb x _)) (rw c.is_trail.ensures at t)
    (λ f.
    let p = both_true (eqb b _) (eqb x _ || not (is_trail x)) f in
    let q = eqb-true b _ p.0 in
    or2 (eqb x _) (not (is_trail x)) p.1
    (λ g. let r = eqb-true x _ g in clear-dot b x y z (omega arith) (omega arith))
    (λ g. clear-cut-two b x y z (omega arith) (omega arith) (no-trail x g)))
    (λ f.
    let p = both_true (eqb b _ && not (eqb x _)) (not (eqb x _)) f in
    let q = both_true (eqb b _) (not (eqb x _)) p.0 in
    let r = eqb-true b _ q.0 in
    let n = eqb-false x _ (not-true (eqb x _) q.1) in
    let m = eqb-false x _ (not-true (eqb x _) p.1) in
    clear-c3 b x y z (omega arith) (λ i. n (omega arith)) (λ i. m (omega arith)))
    (λ f.
    let p = both_true (eqb b _) (not (eqb x _)) f in
    let r = eqb-true b _ p.0 in
    let n = eqb-false x _ (not-true (eqb x _) p.1) in
    clear-cd b x y z (omega arith) (λ i. n (omega arith)))
