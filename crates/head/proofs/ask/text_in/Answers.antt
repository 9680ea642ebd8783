-- `head::ask::text_in` meets its contract: no text is refused with 12 (`gives_none`), else it is written (`Gives-found`).
use mathlib.Core.Path.{sym, ◌∙◌}
use lib.ListN.{length}
use Rattle.system_types.specs.Names.{lends}
use Rattle.text.specs.Content.{content_of, text_in}
use Rattle.head.proofs.Questions.{gives_none}
use Rattle.head.proofs.ask.text_in.Goals as goal

pub returns-then-not-is_found : goal.returns-then-not-is_found
returns-then-not-is_found c =
    let s = c in
    let p6 = c in
    let p5 = c in
    let a = s.args in
    let p = sym p5.is_found.ensures ∙ c.if-not-is_found.true in
    let text = text_in (content_of a.h a.t.now (lends a.names.now a.area.now) a.index.0) in
    gives_none (length a.out.now) a.h.utf16 a.t.now a.area.now p6.find-f.result p6.find-f.ensures.same p
    (c.refuse.ensures text)
