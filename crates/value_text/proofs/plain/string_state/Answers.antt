-- `value_text::plain::string_state` meets its contract: past the pool there is no text, else its damage is told.
use mathlib.Core.Path.{refl, sym, ◌∙◌}
use Rattle.value_text.proofs.Strings.{string-none, string-some}
use Rattle.value_text.proofs.plain.string_state.Goals as goal

pub returns-then-not-is_found : goal.returns-then-not-is_found
returns-then-not-is_found c =
    let a = c.args in
    string-none a.utf16 a.t.now a.area.now a.f refl (sym c.is_found.ensures ∙ c.if-not-is_found.true)

pub returns : goal.returns
returns c =
    let a = c.args in
    string-some a.utf16 a.t.now a.area.now a.f refl (sym c.is_found.ensures ∙ c.if-not-is_found.false) c.found_told.ensures
