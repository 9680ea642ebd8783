-- `resource_map::map_of` meets its contract: by the case of the header (`map_of-of-short`, `map_of-of-whole`).
use mathlib.Core.Path.{sym, ◌∙◌}
use Rattle.common.proofs.Laws.{header_of-long}
use Rattle.resource_map.proofs.Laws.{map_of-of-short, map_of-of-whole}
use Rattle.resource_map.proofs.map_of.Goals as goal

pub overflow_sub-s : goal.overflow_sub-s
overflow_sub-s c = header_of-long c.args.s.now (sym c.header_at.ensures ∙ c.in-Some.is)

pub returns-in_default : goal.returns-in_default
returns-in_default c = sym (map_of-of-short c.args.s.now (sym c.header_at.ensures ∙ c.in_default.is))

pub returns : goal.returns
returns c = c.ids_of.ensures ∙ sym (map_of-of-whole c.args.s.now (sym c.header_at.ensures ∙ c.in-Some.is))
