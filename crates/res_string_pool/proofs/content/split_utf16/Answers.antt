-- `res_string_pool::content::split_utf16` meets its contract: a length of one unit or two, by bit 15.
use mathlib.Core.Path.{◌∙◌}
use Prim.Native.Nat.{◌+◌, ◌*◌, ◌%◌}
use native.Mathlib.Omega.{arith}
use Rattle.res_string_pool.proofs.Strings.{split16-by-two, split16-by-one}
use Rattle.res_string_pool.proofs.content.split_utf16.Goals as goal

pub returns-then-u-ge32768 : goal.returns-then-u-ge32768
returns-then-u-ge32768 c =
    let n = 2 * (c.unit_at-u.result % 32768 * 65536 + c.unit_at-low.result) in
    c.content_in.ensures ∙ split16-by-two c.args.s.now n (omega arith) (omega arith)

pub returns : goal.returns
returns c =
    let n = 2 * c.unit_at-u.result in
    c.content_in-2.ensures ∙ split16-by-one c.args.s.now n (omega arith) (omega arith)
