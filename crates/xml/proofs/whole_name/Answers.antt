-- `xml::whole_name` meets its contract: by the encoding, and in UTF-8 by whether its bytes tell its chars.
use native.Mathlib.Omega.{arith}
use mathlib.Core.Bool.{false}
use Rattle.xml.proofs.Classes.{classes-right}
use Rattle.xml.proofs.Names.{valid_name-none, whole-utf16, whole-utf8, not_first}
use Rattle.xml.proofs.whole_name.Goals as goal

pub returns-then-utf16 : goal.returns-then-utf16
returns-then-utf16 c =
    let a = c.args in
    whole-utf16 a.utf16 a.s.now _ c.if-utf16.true c.valid_name.ensures

pub returns-then-s-eq0 : goal.returns-then-s-eq0
returns-then-s-eq0 c =
    let a = c.args in
    whole-utf8 a.utf16 a.s.now false c.if-utf16.false (not_first _ _ (valid_name-none false a.s.now c.if-s-eq0.true))

pub is_seen_name-requires : goal.is_seen_name-requires
is_seen_name-requires c = (classes-right, omega arith)
