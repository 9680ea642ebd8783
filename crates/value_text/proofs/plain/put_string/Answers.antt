-- `value_text::plain::put_string` meets its contract: with no names lent the pool alone is asked (`pool-content`).
use mathlib.Core.Path.{ap, ◌∙◌}
use Rattle.system_types.specs.Names.{lends}
use Rattle.text.specs.Content.{text_in}
use Rattle.value_text.proofs.Front.{leads-put, leads-same}
use Rattle.value_text.proofs.Looking.{pool-asks, pool-content}
use Rattle.value_text.proofs.plain.put_string.Goals as goal

pub find-f-requires : goal.find-f-requires
find-f-requires c =
    let s = c in
    let a = s.args in
    pool-asks a.h a.t.now (lends a.names.now a.area.now) s.requires

pub returns : goal.returns
returns c =
    let a = c.args in
    let same = pool-content a.h a.t.now (lends a.names.now a.area.now) a.area.now a.v in
    leads-same (ap text_in (c.find-f.ensures.same ∙ same)) (leads-put c.found_into.ensures)
