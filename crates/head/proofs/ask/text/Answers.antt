-- `head::ask::text` meets its contract: by whether the file is open (`reads-open`, `reads-closed`).
use mathlib.Core.List.{[]}
use mathlib.Core.Path.{sym, ◌∙◌}
use Rattle.system_types.specs.Names.{lends}
use Rattle.head.proofs.Questions.{open_of-asks, reads-open, reads-closed}
use Rattle.head.proofs.ask.text.Goals as goal

pub text_in-requires : goal.text_in-requires
text_in-requires c =
    let s = c in
    let p5 = c in
    let a = s.args in
    let e = sym p5.open_file.ensures ∙ c.in-Ok.is in
    rw c.tables_of.ensures (open_of-asks a.file.now (lends a.names.now a.area.now) e)

pub returns-in-Ok : goal.returns-in-Ok
returns-in-Ok c =
    let s = c in
    let p8 = c in
    let p6 = c in
    let a = s.args in
    let e = sym p8.open_file.ensures ∙ c.in-Ok.is in
    reads-open a.file.now (lends a.names.now a.area.now) a.out.now _ a.index.0 e
    c.tables_of.ensures c.text_in.ensures

pub returns-in-Err : goal.returns-in-Err
returns-in-Err c =
    let s = c in
    let p7 = c in
    let p5 = c in
    let a = s.args in
    let e = sym p7.open_file.ensures ∙ c.in-Err.is in
    reads-closed a.file.now (lends a.names.now a.area.now) a.out.now _ a.index.0 e (c.refuse.ensures [])
