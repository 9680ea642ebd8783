-- `head::ask::content` meets its contract: by whether the file is open (`content-open`, `content-closed`).
use mathlib.Core.Path.{sym, ◌∙◌}
use Rattle.system_types.specs.Names.{lends}
use Rattle.head.proofs.Questions.{open_of-asks, content-open, content-closed}
use Rattle.head.proofs.ask.content.Goals as goal

pub content_in-requires : goal.content_in-requires
content_in-requires c =
    let s = c in
    let a = s.args in
    let e = sym c.open_file.ensures ∙ c.in-Ok.is in
    rw c.tables_of.ensures (open_of-asks a.file.now (lends a.names.now a.area.now) e)

pub returns : goal.returns
returns c =
    let s = c in
    let p5 = c in
    let a = s.args in
    let e = sym p5.open_file.ensures ∙ c.in-Ok.is in
    c.content_in.ensures ∙ content-open a.file.now (lends a.names.now a.area.now) a.index.0 e c.tables_of.ensures

pub returns-in_default : goal.returns-in_default
returns-in_default c =
    let s = c in
    let a = s.args in
    let e = sym c.open_file.ensures ∙ c.in_default.is in
    content-closed a.file.now (lends a.names.now a.area.now) a.index.0 e
