-- `text::apart::alike_apart` meets its contract: another byte in the same place of a string of the same length (`other-alike`).
use Prim.Native.Nat.{◌+◌}
use mathlib.Core.Path.{sym, ◌∙◌}
use borrow.Author.Tests.{eqb-false, not-true}
use Rattle.text.proofs.Marking.{other-alike}
use Rattle.text.proofs.apart.alike_apart.Goals as goal

pub returns-then-u16_at-k : goal.returns-then-u16_at-k
returns-then-u16_at-k c =
    let at-if2 = c in
    let at_unit = at-if2 in
    let at-if1 = at_unit in
    let bytes = at-if1 in
    let s = bytes in
    let a = s.args in
    let end = a.h.strings + a.h.size in
    let unit = sym at_unit.u16_at.ensures.0 ∙ at-if2.if-u16_at-k.true in
    λ e. other-alike a.h.utf16 a.t.now end a.p a.k s.requires.0.strings (λ i. (bytes.shared_slice_known-1.given i).fits) s.requires.1
    at-if1.if-k-p.false unit (eqb-false _ _ (not-true _ e))
