-- `res_string_pool::pool_of` meets its contract: by the header in front and its type (`pool_of-short`, `pool_of-pool`, `pool_of-garbage`).
use borrow.Author.Rules.{rules}
use mathlib.Core.Path.{sym, ◌∙◌}
use Rattle.common.proofs.Laws.{header_of-long}
use Rattle.res_string_pool.proofs.Ends.{pool_of-short, pool_of-pool, pool_of-garbage}
use Rattle.res_string_pool.proofs.pool_of.Goals as goal

pub pool_from-requires : goal.pool_from-requires
pool_from-requires c = (header_of-long c.args.s.now (sym c.header_at.ensures ∙ c.in-Some.is), search rules)

pub behind_garbage-requires : goal.behind_garbage-requires
behind_garbage-requires c = (header_of-long c.args.s.now (sym c.header_at.ensures ∙ c.in-Some.is), search rules)

pub returns-in_default : goal.returns-in_default
returns-in_default c =
    let s = c.args.s.now in
    c.short.ensures ∙ sym (pool_of-short s (sym c.header_at.ensures ∙ c.in_default.is))

pub returns-then-h-eq1 : goal.returns-then-h-eq1
returns-then-h-eq1 c =
    let s = c.args.s.now in
    c.pool_from.ensures ∙ sym (pool_of-pool s (sym c.header_at.ensures ∙ c.in-Some.is) c.if-h-eq1.true)

pub returns-else-h-eq1 : goal.returns-else-h-eq1
returns-else-h-eq1 c = c.behind_garbage.ensures ∙ sym (pool_of-garbage c.args.s.now (sym c.header_at.ensures ∙ c.in-Some.is) c.if-h-eq1.false)
