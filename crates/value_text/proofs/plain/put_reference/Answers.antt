-- `value_text::plain::put_reference` meets its contract: by what the names say of the id (`wrote-reference`).
use mathlib.Core.Path.{refl, sym, ◌∙◌}
use native.Mathlib.Omega.{arith}
use Rattle.digits.proofs.Written.{wrote-more}
use Rattle.value_text.proofs.Front.{wrote-reference}
use Rattle.value_text.proofs.plain.put_reference.Goals as goal

pub returns-in-Some : goal.returns-in-Some
returns-in-Some c =
    let a = c.args in
    wrote-reference a.area.now a.v (sym c.get_type_name-name.ensures
    ∙ c.in-Some.is) c.put_at.ensures

pub returns-in-None : goal.returns-in-None
returns-in-None c =
    let a = c.args in
    wrote-reference a.area.now a.v (sym c.get_type_name-name.ensures
    ∙ c.in-None.is) (wrote-more c.put_marked.ensures refl (omega arith))
