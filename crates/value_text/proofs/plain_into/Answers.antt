-- `value_text::plain_into` meets its contract: no text (`tells-other`), a string of the pool (`tells-string`), or the text of the form (`tells-plain`).
use mathlib.Core.Path.{sym, ap, ◌∙◌}
use Rattle.system_types.specs.Names.{lends}
use Rattle.common.specs.ValueType.{value_type_of}
use Rattle.value_text.specs.Inner.Forms.{form_of, form_text, is_other, is_pool}
use Rattle.value_text.proofs.Front.{tells-other, tells-string, tells-plain, form-whole, leads-same}
use Rattle.value_text.proofs.plain_into.Goals as goal

pub returns-then-is_other : goal.returns-then-is_other
returns-then-is_other c =
    let a = c.args in
    let e = ap is_other (sym c.form_of-form.ensures) ∙ sym c.is_other.ensures ∙ c.if-is_other.true in
    tells-other a.h a.t.now (lends a.names.now a.area.now) a.uncovered a.v (value_type_of a.kind) e

pub returns-then-is_pool : goal.returns-then-is_pool
returns-then-is_pool c =
    let a = c.args in
    let e = ap is_pool (sym c.form_of-form.ensures) ∙ sym
    c.is_pool.ensures ∙ c.if-is_pool.true in
    tells-string a.h a.t.now (lends a.names.now a.area.now) a.uncovered a.v (value_type_of a.kind) e c.string_told.ensures

pub returns : goal.returns
returns c =
    let a = c.args in
    let lent = lends a.names.now a.area.now in
    let form = c.form_of-form.ensures in
    let e = ap is_other (sym form) ∙ sym c.is_other.ensures ∙ c.if-is_other.false in
    let f = ap is_pool (sym form) ∙ sym c.is_pool.ensures ∙ c.if-is_pool.false in
    let w = leads-same (ap (form_text a.h a.t.now lent a.v) form) c.put_plain-length.ensures in
    tells-plain a.h a.t.now lent a.uncovered a.v (value_type_of a.kind) e w
    (form-whole a.h a.t.now a.v (form_of (value_type_of a.kind)) f)
