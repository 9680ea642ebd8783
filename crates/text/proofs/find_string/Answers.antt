-- `text::find_string` meets its contract: past the pool nothing, else the string at its offset (`string-past`, `string-in`).
use Rattle.text.proofs.Index.{string-past, string-in}
use Rattle.text.proofs.find_string.Goals as goal

pub returns-then-h-index : goal.returns-then-h-index
returns-then-h-index c =
    let s = c in
    let a = s.args in
    λ area. string-past a.h a.t.now a.index.0 area c.if-h-index.true

pub returns : goal.returns
returns c =
    let s = c in
    let a = s.args in
    λ area. string-in a.h a.t.now a.index.0 area c.string_at.result c.u32_at-o.result
    c.if-h-index.false c.u32_at-o.ensures (c.string_at.ensures area)
