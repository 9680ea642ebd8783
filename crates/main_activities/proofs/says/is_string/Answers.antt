-- `main_activities::says::is_string` meets its contract: with no names lent the pool alone is asked (`pool-content`).
use Rattle.system_types.specs.Names.{lends}
use Rattle.main_activities.proofs.Saying.{string-is}
use Rattle.value_text.proofs.Looking.{pool-asks, pool-content}
use Rattle.main_activities.proofs.says.is_string.Goals as goal

pub is_index_text-requires : goal.is_index_text-requires
is_index_text-requires c =
    let a = c.args in
    let p = c.requires in
    pool-asks a.h a.t.now (lends a.names.now a.area.now) p.0

pub returns : goal.returns
returns c =
    let a = c.args in
    let p = c.requires in
    let at-is-index-text = c.is_index_text in
    string-is a.expected.now p.1 (pool-content a.h a.t.now (lends a.names.now a.area.now) a.area.now a.v)
    at-is-index-text.ensures
