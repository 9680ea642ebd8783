-- `value_text::plain::put_attribute` meets its contract: by what the names say of the id (`wrote-attribute`).
use mathlib.Core.Path.{sym, ap, ◌∙◌}
use Prim.Native.Nat.{ℕ}
use mathlib.Core.List.{◌∷◌}
use native.Mathlib.Omega.{arith}
use Rattle.digits.specs.Digits.{hex_text}
use Rattle.digits.proofs.Written.{wrote-more}
use Rattle.value_text.proofs.Front.{wrote-attribute}
use Rattle.value_text.proofs.plain.put_attribute.Goals as goal

pub returns-in-Some : goal.returns-in-Some
returns-in-Some c =
    let a = c.args in
    wrote-attribute a.area.now a.v (sym c.get_type_name-name.ensures
    ∙ c.in-Some.is)
    c.put_name.ensures

pub returns-in-None : goal.returns-in-None
returns-in-None c =
    let a = c.args in
    wrote-attribute a.area.now a.v (sym c.get_type_name-name.ensures
    ∙ c.in-None.is)
    (wrote-more c.put_marked.ensures (ap (λ (m : ℕ). m ∷ hex_text a.v) c.mark_of.ensures) (omega arith))
