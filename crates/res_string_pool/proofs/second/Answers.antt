-- `res_string_pool::second` meets its contract: by the second header, whatever its type (`second_by-short`, `second_by-whole`).
use borrow.Author.Rules.{rules}
use mathlib.Core.Path.{sym, ◌∙◌}
use Rattle.common.proofs.Laws.{header_of-long}
use Rattle.res_string_pool.proofs.second.Goals as goal

pub pool_from-requires : goal.pool_from-requires
pool_from-requires c = (header_of-long c.args.m.now (sym c.header_at.ensures ∙ c.in-Some.is), search rules)
