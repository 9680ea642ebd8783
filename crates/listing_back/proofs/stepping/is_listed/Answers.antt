-- `listing_back::stepping::is_listed` meets its contract.
use Rattle.listing_back.proofs.Strays.{listed-low, listed-six, listed-none, listed-pool, listed-gap, listed-map}
use Rattle.listing_back.proofs.stepping.is_listed.Goals as goal

pub returns-then-n-le3 : goal.returns-then-n-le3
returns-then-n-le3 c = listed-low _ c.if-n-le3.true

pub returns-then-n-eq6 : goal.returns-then-n-eq6
returns-then-n-eq6 c = listed-six _ c.if-n-le3.false c.if-n-eq6.true

pub returns-then-n-lt41 : goal.returns-then-n-lt41
returns-then-n-lt41 c = listed-none _ c.if-n-le3.false c.if-n-eq6.false c.if-n-lt41.true

pub returns-then-n-le45 : goal.returns-then-n-le45
returns-then-n-le45 c = listed-pool _ c.if-n-le3.false c.if-n-eq6.false c.if-n-lt41.false c.if-n-le45.true

pub returns-then-n-lt51 : goal.returns-then-n-lt51
returns-then-n-lt51 c = listed-gap _ c.if-n-le3.false c.if-n-eq6.false c.if-n-lt41.false c.if-n-le45.false c.if-n-lt51.true

pub returns : goal.returns
returns c = listed-map _ c.if-n-le3.false c.if-n-eq6.false c.if-n-lt41.false c.if-n-le45.false c.if-n-lt51.false
