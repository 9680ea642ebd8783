-- `xml::clear::lead_clear` meets its contract, by each of its ranges.
use borrow.Author.Tests.{leb-true}
use lib.Dec.{leb}
use Rattle.utf.specs.Utf8.{inside}
use Rattle.xml.specs.Inner.SeenChars.{ascii_low}
use Rattle.utf.proofs.Scalars.{inside-ends}
use Rattle.utf.proofs.Either.{or7}
use Rattle.xml.proofs.ClearBytes.{clear-ascii, clear-trail, clear-latin, clear-near, clear-far, clear-high, clear-never}
use native.Mathlib.Omega.{arith}
use Rattle.xml.proofs.clear.lead_clear.Goals as goal

pub returns : goal.returns
returns c =
    let b = c.args.b in
    λ t x y z.
    let all =
    rw (
      c.ascii_low.ensures,
      c.between.ensures,
      c.between-2.ensures,
      c.between-3.ensures,
      c.between-4.ensures,
      c.between-5.ensures,
    ) at t in
    or7 (ascii_low b) (inside _ _ b) (inside _ _ b) (inside _ _ b) (inside _ _ b) (inside _ _ b) (leb _ b) all
    (λ f. clear-ascii b x y z f)
    (λ f. let p = inside-ends _ _ b f in clear-trail b x y z (omega arith) (omega arith))
    (λ f. let p = inside-ends _ _ b f in clear-latin b x y z (omega arith) (omega arith))
    (λ f. let p = inside-ends _ _ b f in clear-near b x y z (omega arith) (omega arith))
    (λ f. let p = inside-ends _ _ b f in clear-far b x y z (omega arith) (omega arith))
    (λ f. let p = inside-ends _ _ b f in clear-high b x y z (omega arith) (omega arith))
    (λ f. let p = leb-true _ b f in clear-never b x y z (omega arith))
