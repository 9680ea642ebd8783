-- `xml::clear::is_clear` meets its contract, by one of its tests.
use Rattle.utf.proofs.Either.{or4}
use Rattle.xml.proofs.clear.is_clear.Goals as goal

pub returns-then-near : goal.returns-then-near
returns-then-near c =
    let a = c.args in
    λ t.
    or4 c.lead_clear.result c.two_clear.result c.three_clear.result c.four_clear.result t
    (λ f. c.lead_clear.ensures f a.c a.d a.e)
    (λ f. c.two_clear.ensures f a.d a.e)
    (λ f. c.three_clear.ensures f a.e)
    (λ f. c.four_clear.ensures f)

pub returns : goal.returns
returns c =
    let a = c.args in λ t. c.lead_clear-2.ensures t a.c a.d a.e
