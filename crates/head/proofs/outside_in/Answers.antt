-- `head::outside_in` meets its contract: the offsets are 4 * count bytes (`outside_in-by`).
use Prim.Native.Nat.{◌+◌, ◌-◌, ◌*◌}
use native.Mathlib.Omega.{arith}
use mathlib.Core.Path.{◌∙◌}
use Rattle.head.proofs.Cases.{outside_in-by}
use Rattle.head.proofs.outside_in.Goals as goal

pub returns : goal.returns
returns c =
    let s = c in
    let a = s.args in
    c.outside_of.ensures ∙ outside_in-by a.t.now a.h (a.h.offsets + 4 * a.h.count - a.h.offsets) s.requires
    (omega arith)
