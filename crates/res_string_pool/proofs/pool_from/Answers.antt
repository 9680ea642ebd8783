-- `res_string_pool::pool_from` meets its contract: the five numbers are there or not (`pool_from-short`, `pool_from-by`).
use mathlib.Core.Path.{refl, sym, ◌∙◌}
use Rattle.res_string_pool.proofs.Ends.{pool_from-short, pool_from-by}
use Rattle.res_string_pool.proofs.pool_from.Goals as goal

pub returns-then-m-lt28 : goal.returns-then-m-lt28
returns-then-m-lt28 c =
    let a = c.args in
    c.short.ensures ∙ sym (pool_from-short a.garbage a.at a.h a.m.now c.if-m-lt28.true)

pub returns : goal.returns
returns c =
    let a = c.args in
    let p = c.numbers_of-pool in
    pool_from-by
    a.garbage
    a.at
    a.h
    a.m.now
    p.result
    c.end_of-end.result
    p.result.count
    c.u32_at.result
    c.if-m-lt28.false
    p.ensures
    refl
    c.u32_at.ensures
    c.end_of-end.ensures
