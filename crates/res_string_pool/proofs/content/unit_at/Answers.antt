-- `res_string_pool::content::unit_at` meets its contract: two bytes, the low one first.
use borrow.Author.Rules.{rules}
use Rattle.field.specs.Le.{u16le}
use Rattle.res_string_pool.proofs.content.unit_at.Goals as goal

pub returns : goal.returns
unfolding u16le
returns c = search rules
