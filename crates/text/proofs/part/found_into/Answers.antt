-- `text::part::found_into` meets its contract: by the case of what was found (`Wrote-by`).
use native.Mathlib.Omega.{arith}
use mathlib.Core.Path.{sym, ap}
use lib.ListN.{length-take, length-drop}
use Rattle.text.specs.declared.Found.{Found}
use Rattle.text.specs.Content.{text_in}
use Rattle.text.specs.Inner.Found.{part_of}
use Rattle.text.proofs.Read.{inside-system, part_of-system, part_of-pool, text_in-system, Wrote-by, wrote_none, text_of-held}
use mathlib.Core.Logic.{inl, inr}
use Rattle.text.proofs.part.found_into.Goals as goal

pub returns-in-Nothing : goal.returns-in-Nothing
returns-in-Nothing c =
    let s = c in
    let a = s.args in
    elim c.in-Nothing.is [
      | inl e ↦ wrote_none a.out.now (sym (ap (λ (g : Found). text_in (part_of a.utf16 a.t.now a.area.now g)) e))
      | inr e ↦ wrote_none a.out.now (sym (ap (λ (g : Found). text_in (part_of a.utf16 a.t.now a.area.now g)) e))
    ]

pub returns-in-System : goal.returns-in-System
returns-in-System c =
    let s = c in
    let p6 = c in
    let a = s.args in
    let q = inside-system a.t.now a.area.now s.requires.0 p6.in-System.is in
    let n = text_in-system a.utf16 a.t.now a.area.now s.requires.0 p6.in-System.is in
    let same = sym (ap text_in (part_of-system a.utf16 a.t.now a.area.now p6.in-System.is)) in
    Wrote-by _ same (omega (arith, n)) c.text_into.ensures

pub returns-in-Pool : goal.returns-in-Pool
returns-in-Pool c =
    let s = c in
    let p6 = c in
    let a = s.args in
    let same = sym (ap text_in (part_of-pool a.utf16 a.t.now a.area.now p6.in-Pool.is)) in
    let short = s.requires.1 in
    Wrote-by _ same (text_of-held a.utf16 _ same (simp (length-take, length-drop) (omega arith))) c.text_into-in-Pool.ensures
