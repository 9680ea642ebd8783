-- `xml::chars::char_at` meets its contract: a unit that is no surrogate is its own value.
use mathlib.Core.Path.{sym, subst, ap, ◌∙◌}
use mathlib.Core.Bool.{Bool, true}
use Prim.Native.Nat.{ℕ, ◌-◌, ◌<◌}
use native.Mathlib.Omega.{arith}
use borrow.Author.Tests.{leb-true}
use lib.Dec.{leb}
use lib.ListN.{length, get_or}
use Rattle.utf.proofs.Tables.{both_true}
use Rattle.utf.proofs.Units.{took-unit}
use Rattle.xml.specs.NCName.{char_sort}
use Rattle.xml.specs.Inner.NameRun.{sort_number, Told}
use Rattle.xml.proofs.Names.{told}
use Rattle.xml.proofs.chars.char_at.Goals as goal

pub returns-then-high-ne27 : goal.returns-then-high-ne27
returns-then-high-ne27 c =
    let a = c.args in
    let s = a.s.now in
    let bytes : (k : ℕ) → get_or s k 0 < 256 = λ k. (c.type_inv.s k).fits in
    let p = both_true a.utf16 (leb 2 (length s - a.at)) c.if-utf16-s.true in
    let two = leb-true 2 (length s - a.at) p.1 in
    let took = took-unit s a.at (omega arith) bytes c.if-high-ne27.true in
    let unit = told true s a.at _ 2 _ true took (c.sort_of.ensures ∙ ap char_sort c.unit_of.ensures) in
    subst (λ (u : Bool). Told u s a.at (sort_number c.sort_of.result) 2) (sym p.0) unit
