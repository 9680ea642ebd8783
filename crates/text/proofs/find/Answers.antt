-- `text::find` meets its contract: a system name goes first (`content_of-system`), else the pool's string (`content_of-string`).
use Rattle.system_types.specs.Names.{lends}
use Rattle.text.proofs.Index.{content_of-system, content_of-string}
use Rattle.text.proofs.find.Goals as goal

pub returns-in-Nothing : goal.returns-in-Nothing
returns-in-Nothing c =
    let s = c in
    let a = s.args in
    content_of-string a.h a.t.now (lends a.names.now a.area.now) a.index.0 a.h.utf16 c.find_string.result
    (rw (← c.in-Nothing.is) c.find_system.ensures) (c.find_string.ensures a.area.now)

pub returns-in_default : goal.returns-in_default
returns-in_default c =
    let s = c in
    let a = s.args in
    content_of-system a.h a.t.now (lends a.names.now a.area.now) a.index.0 a.h.utf16 _ c.in_default.not-Nothing c.find_system.ensures
