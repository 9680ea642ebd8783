-- `text::has_text` meets its contract: where the pool has a string there is a text (`has_text-in`), past it a system name alone (`has_text-past`).
use borrow.Author.Tests.{lt-ltb}
use mathlib.Core.Path.{sym, ap, ◌∙◌}
use Rattle.system_types.specs.Names.{lends}
use Rattle.text.specs.Content.{has_text}
use Rattle.text.proofs.Read.{is_found-text, has_text-in, has_text-past}
use Rattle.text.proofs.has_text.Goals as goal

pub returns-then-index-h : goal.returns-then-index-h
returns-then-index-h c =
    let a = c.args in
    lt-ltb _ _ c.if-index-h.true ∙ sym (has_text-in a.h a.t.now (lends a.names.now a.area.now) a.index.0 c.if-index-h.true)

pub returns-else-index-h : goal.returns-else-index-h
returns-else-index-h c =
    let a = c.args in
    let r = c.find_system.result in
    c.is_found.ensures ∙ is_found-text a.h.utf16 a.t.now a.area.now r ∙ ap has_text c.find_system.ensures.same
    ∙ sym (has_text-past a.h a.t.now (lends a.names.now a.area.now) a.index.0 c.if-index-h.false)
