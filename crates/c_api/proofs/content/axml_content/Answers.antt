-- `c_api::content::axml_content` meets its contract: by whether the file is open (proofs/Placing.antt).
use mathlib.Core.Path.{refl, sym, ◌∙◌}
use Rattle.system_types.specs.Names.{lends}
use Rattle.head.proofs.Questions.{open_of-asks}
use Rattle.c_api.proofs.Placing.{place-open, place-closed}
use Rattle.c_api.proofs.content.axml_content.Goals as goal

pub find-f-requires : goal.find-f-requires
find-f-requires c =
    let a = c.args in
    let e = sym c.open_file-opened.ensures ∙ c.in-Ok.is in
    rw c.tables_of-t.ensures (open_of-asks a.file.now (lends a.names.now a.area.now) e)

pub place_of-requires : goal.place_of-requires
place_of-requires c =
    let a = c.args in
    let e = sym c.open_file-opened.ensures ∙ c.in-Ok.is in
    (c.find-f.ensures.inside, rw c.tables_of-t.ensures (open_of-asks a.file.now (lends a.names.now a.area.now) e).fits.short)

pub returns-in-Ok : goal.returns-in-Ok
returns-in-Ok c =
    let a = c.args in
    let e = sym c.open_file-opened.ensures ∙ c.in-Ok.is in
    place-open a.file.now (lends a.names.now a.area.now) a.index e c.tables_of-t.ensures c.find-f.ensures c.place_of.ensures

pub returns-in-Err : goal.returns-in-Err
returns-in-Err c =
    let a = c.args in
    let e = sym c.open_file-opened.ensures ∙ c.in-Err.is in
    place-closed a.file.now (lends a.names.now a.area.now) a.index e refl
