-- `text::apart::utf16_apart` meets its contract: a head of one unit (`utf16-in`); else it says nothing.
use Rattle.text.proofs.Others.{utf16-in}
use Rattle.text.proofs.apart.utf16_apart.Goals as goal

pub returns : goal.returns
returns c =
    let at-if2 = c in
    let at_unit = at-if2 in
    let at-if1 = at_unit in
    let s = at-if1 in
    let a = s.args in
    λ e. utf16-in a.t.now a.end a.p s.requires.0 at-if1.if-end-p.false _ _ at-if2.if-u-ge32768.false at_unit.u16_at-u.ensures.0
    c.if-end-p-2.false (c.bytes_apart.ensures e)
