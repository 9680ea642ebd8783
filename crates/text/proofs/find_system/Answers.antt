-- `text::find_system` meets its contract: by the entry of the map and its name (`system-past`, `system-missing`, `system-name`).
use mathlib.Core.Path.{sym, ◌∙◌}
use Rattle.system_types.specs.Names.{lends}
use Rattle.system_types.proofs.Laws.{rising-of-good, system_name-of-good}
use Rattle.text.proofs.Index.{system-past, system-missing, system-name, map-slice}
use Rattle.text.proofs.find_system.Goals as goal

pub returns-then-h-index : goal.returns-then-h-index
returns-then-h-index c =
    let s = c in
    let a = s.args in
    system-past a.h a.t.now (lends a.names.now a.area.now) a.index.0 c.if-h-index.true

pub get_type_name-requires : goal.get_type_name-requires
get_type_name-requires c =
    let s = c in
    let a = s.args in
    rising-of-good (lends a.names.now a.area.now) s.requires.good

pub stripped-requires : goal.stripped-requires
stripped-requires c =
    let s = c in
    let a = s.args in
    let q = system_name-of-good (lends a.names.now a.area.now) c.id_at-id.result.0 _ _ s.requires.good
    (sym c.get_type_name.ensures ∙ c.in-Some.is) in
    (q.0, q.2)

pub returns-in_default : goal.returns-in_default
returns-in_default c =
    let s = c in
    let p5 = c in
    let a = s.args in
    let id = map-slice a.h a.t.now a.index.0 s.requires.fits c.id_at-id.ensures in
    system-missing a.h a.t.now (lends a.names.now a.area.now) a.index.0 p5.if-h-index.false id
    (sym c.get_type_name.ensures ∙ c.in_default.is)

pub returns : goal.returns
returns c =
    let s = c in
    let p7 = c in
    let p5 = c in
    let a = s.args in
    let id = map-slice a.h a.t.now a.index.0 s.requires.fits p5.id_at-id.ensures in
    system-name a.h a.t.now (lends a.names.now a.area.now) a.index.0 p7.if-h-index.false id
    (sym c.get_type_name.ensures ∙ c.in-Some.is)
    (c.stripped.ensures a.h.utf16 a.t.now)
