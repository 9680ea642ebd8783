-- `main_activities::settle` meets its contract: 28 where there are too many (`gives-full`), else the list and zeros (`gives-list`).
use Rattle.main_activities.proofs.Lists.{gives-full, gives-list}
use Rattle.main_activities.proofs.settle.Goals as goal

pub returns-then-places-n : goal.returns-then-places-n
returns-then-places-n c =
    let if1 = c.if-places-n in
    let at-refuse = c.refuse in
    λ z h. gives-full h _ if1.true at-refuse.ensures

pub zero_from-requires : goal.zero_from-requires
zero_from-requires c =
    let if1 = c.if-places-n in
    if1.false

pub returns : goal.returns
returns c =
    let if1 = c.if-places-n in
    let at-zero-from = c.zero_from in
    λ z h. gives-list h _ if1.false at-zero-from.ensures
