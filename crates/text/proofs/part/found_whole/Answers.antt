-- `text::part::found_whole` meets its contract: by the case of what was found, and the name of a part.
use mathlib.Core.Path.{sym, ap, ◌∙◌}
use Rattle.text.specs.Inner.Found.{whole_name}
use Rattle.text.proofs.Named.{whole-some}
use Rattle.text.proofs.Read.{part_of-system, part_of-pool}
use Rattle.text.proofs.part.found_whole.Goals as goal

pub returns-in-System : goal.returns-in-System
returns-in-System c =
    let s = c in
    let a = s.args in
    c.whole_name.ensures ∙ whole-some _ _ ∙ sym
    (ap whole_name (part_of-system a.utf16 a.t.now a.area.now c.in-System.is))

pub returns-in-Pool : goal.returns-in-Pool
returns-in-Pool c =
    let s = c in
    let a = s.args in
    c.whole_name-in-Pool.ensures ∙ whole-some _ _ ∙ sym
    (ap whole_name (part_of-pool a.utf16 a.t.now a.area.now c.in-Pool.is))
