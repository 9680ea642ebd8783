-- `many_texts::texts` meets its contract: by whether the file is open (`texts-open`, `texts-closed`).
use mathlib.Core.Path.{sym, ◌∙◌}
use Rattle.system_types.specs.Names.{lends}
use Rattle.head.proofs.Questions.{open_of-asks}
use Rattle.many_texts.proofs.Going.{texts-open, texts-closed}
use Rattle.many_texts.proofs.texts.Goals as goal

pub texts_in-requires : goal.texts_in-requires
texts_in-requires c =
    let a = c.args in
    let lent = lends a.names.now a.area.now in
    let e = sym c.open_file-opened.ensures ∙ c.in-Ok.is in
    rw c.tables_of.ensures (open_of-asks a.file.now lent e)

pub returns-in-Ok : goal.returns-in-Ok
returns-in-Ok c =
    let a = c.args in
    let lent = lends a.names.now a.area.now in
    let e = sym c.open_file-opened.ensures ∙
    c.in-Ok.is in
    texts-open a.file.now lent a.indices.now a.out.now a.answers.now e
    c.tables_of.ensures c.texts_in.ensures

pub returns-in-Err : goal.returns-in-Err
returns-in-Err c =
    let a = c.args in
    let lent = lends a.names.now a.area.now in
    let e = sym c.open_file-opened.ensures ∙
    c.in-Err.is in
    texts-closed a.file.now lent a.indices.now a.out.now a.answers.now e c.refuse.ensures
