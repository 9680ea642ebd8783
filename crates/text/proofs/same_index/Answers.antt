-- `text::same_index` meets its contract: an index is the same as itself where it has a text (`same_text-self`); what was found stands for
-- the contents of the two indices.
use mathlib.Core.Path.{sym, ap, ◌∙◌}
use Rattle.system_types.specs.Names.{lends}
use Rattle.text.specs.Content.{Content, content_of, same_text}
use Rattle.text.proofs.Read.{same_text-self}
use Rattle.text.proofs.same_index.Goals as goal

pub returns-then-i-j : goal.returns-then-i-j
returns-then-i-j c =
    let s = c in
    let a = s.args in
    let at-index = content_of a.h a.t.now (lends a.names.now a.area.now) in
    c.has_text.ensures ∙ sym (same_text-self (at-index a.i.0)) ∙ ap (λ (x : Content). same_text (at-index a.i.0) x) (ap at-index c.if-i-j.true)
