-- `text::part::found_ascii_into` meets its contract: by the case of what was found (`Wrote-by`).
use native.Mathlib.Omega.{arith}
use mathlib.Core.Path.{sym, ap}
use lib.ListN.{length-take, length-drop}
use Rattle.text.specs.Content.{text_in}
use Rattle.text.proofs.Read.{inside-system, part_of-system, part_of-pool, text_in-system, Wrote-by, text_of-held}
use Rattle.text.proofs.part.found_ascii_into.Goals as goal

pub returns-in-System : goal.returns-in-System
returns-in-System c =
    let s = c in
    let a = s.args in
    let e = c.in-System.is in
    let q = inside-system a.t.now a.area.now s.requires.0 e in
    let n = text_in-system a.utf16 a.t.now a.area.now s.requires.0 e in
    let same = sym (ap text_in (part_of-system a.utf16 a.t.now a.area.now e)) in
    Wrote-by _ same (omega (arith, n)) c.ascii_into.ensures

pub returns-in-Pool : goal.returns-in-Pool
returns-in-Pool c =
    let s = c in
    let a = s.args in
    let same = sym (ap text_in (part_of-pool a.utf16 a.t.now a.area.now c.in-Pool.is)) in
    let short = s.requires.1 in
    Wrote-by _ same (text_of-held a.utf16 _ same (simp (length-take, length-drop) (omega arith))) c.ascii_into-in-Pool.ensures
