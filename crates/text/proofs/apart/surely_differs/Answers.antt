-- `text::apart::surely_differs` meets its contract: other bytes than those of a plain text are another text (`other-index`, `other_text`).
use native.Mathlib.Omega.{arith}
use Rattle.text.proofs.Others.{other-index, other_text}
use Rattle.system_types.specs.Names.{lends}
use Rattle.text.proofs.apart.surely_differs.Goals as goal

pub returns : goal.returns
returns c =
    let at_offset = c in
    let at-if2 = at_offset in
    let at-if1 = at-if2 in
    let bytes = at-if1 in
    let s = bytes in
    let a = s.args in
    let i = a.index.0 in
    let l = s.requires.1.ends (omega (arith, at-if2.if-h-index.false, at-if1.if-index-k.false)) in
    let bare = s.requires.1.bare i at-if1.if-index-k.false at-if2.if-h-index.false in
    λ e. other_text a.h.utf16 a.t.now a.area.now _ (λ j. (bytes.shared_slice_known-1.given j).fits) l.1 l.0
    (other-index a.h a.t.now (lends a.names.now a.area.now) i s.requires.0.fits _ _ bare at-if2.if-h-index.false
    at_offset.u32_at-o.ensures (c.place_apart.ensures e))
