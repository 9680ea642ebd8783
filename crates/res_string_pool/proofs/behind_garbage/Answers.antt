-- `res_string_pool::behind_garbage` meets its contract: the chunk is cut, or what follows it begins with the second header.
use mathlib.Core.Path.{sym, ◌∙◌}
use native.Mathlib.Omega.{arith}
use Rattle.res_string_pool.proofs.Ends.{behind_garbage-short, behind_garbage-by}
use Rattle.res_string_pool.proofs.behind_garbage.Goals as goal

pub returns-then-s-n : goal.returns-then-s-n
returns-then-s-n c =
    let a = c.args in
    let s = a.s.now in
    c.short.ensures ∙ sym (behind_garbage-short a.h s (omega arith))

pub returns : goal.returns
returns c =
    let a = c.args in
    let skipped = c.content_size-skipped in
    c.second.ensures ∙ behind_garbage-by a.h a.s.now skipped.result skipped.ensures (omega arith)
