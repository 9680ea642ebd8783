-- `tables::is_plain_name` meets its contract: a valid name in UTF-16 is plain (proofs/Valid.antt).
use mathlib.Core.Bool.{not}
use borrow.Author.Tests.{not-true, eqb-false}
use lib.Dec.{eqb}
use Rattle.tables.proofs.Valid.{name-plain, both_left, both_right}
use Rattle.tables.proofs.is_plain_name.Goals as goal

pub returns-then-utf16-prefix : goal.returns-then-utf16-prefix
returns-then-utf16-prefix c =
    let a = c.args in
    let other = eqb-false a.prefix 2 (not-true (eqb a.prefix 2) (both_right a.utf16 (not (eqb a.prefix 2)) c.if-utf16-prefix.true)) in
    name-plain a.utf16 a.t.now a.area.now a.f (both_left a.utf16 (not (eqb a.prefix 2)) c.if-utf16-prefix.true) c.requires.0 (c.requires.1 other)
