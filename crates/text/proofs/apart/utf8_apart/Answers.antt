-- `text::apart::utf8_apart` meets its contract: a head of two bytes (`utf8-in`); else it says nothing.
use mathlib.Core.Path.{refl}
use Rattle.text.proofs.Others.{utf8-in}
use Rattle.text.proofs.apart.utf8_apart.Goals as goal

pub returns : goal.returns
returns c =
    let at-if3 = c in
    let at-if2 = at-if3 in
    let at-if1 = at-if2 in
    let s = at-if1 in
    let a = s.args in
    λ e. utf8-in a.t.now a.end a.p s.requires.0 at-if1.if-end-p.false _ _ at-if2.if-t-p-ge128.false at-if3.if-m-ge128.false refl
    c.if-end-p-2.false (c.bytes_apart.ensures e)
