-- `text::same_as_known` meets its contract: at once for the same index (`same_text-index`), told apart, or found and compared.
use mathlib.Core.Path.{sym, ap, ◌∙◌}
use Rattle.system_types.specs.Names.{lends}
use Rattle.text.specs.Content.{content_of}
use Rattle.text.proofs.Read.{same_text-index}
use Rattle.text.proofs.same_as_known.Goals as goal

pub returns-then-index-name : goal.returns-then-index-name
returns-then-index-name c =
    let s = c in
    let a = s.args in
    let at-index = content_of a.h a.t.now (lends a.names.now a.area.now) in
    c.is_found.ensures ∙ same_text-index a.h.utf16 a.t.now a.area.now a.g (at-index a.index.0)
    (s.requires.1.same ∙ sym (ap at-index c.if-index-name.true))
