-- `res_string_pool::content::split_utf8` meets its contract: the two lengths are read one behind the other, and the second counts (`split8-by`).
use mathlib.Core.Path.{◌∙◌}
use Rattle.res_string_pool.proofs.Strings.{split8-by}
use Rattle.res_string_pool.proofs.content.split_utf8.Goals as goal

pub returns : goal.returns
returns c =
    let s = c.args.s.now in
    let first = c.width8_at-first in
    let n = c.length8_at-n in
    let next = c.width8_at in
    let by = split8-by s first.result n.result next.result first.ensures.0 n.ensures.0 next.ensures.0 in
    c.content_in.ensures ∙ by
