-- `main_activities::says::plain_is` meets its contract: no text, a string of the pool, or a text that is written.
use mathlib.Core.Path.{sym, ◌∙◌}
use native.Mathlib.Omega.{arith}
use Rattle.system_types.specs.Names.{lends}
use Rattle.main_activities.proofs.Saying.{plain_other, plain_form, plain-pool}
use Rattle.common.specs.ValueType.{value_type_of}
use Rattle.main_activities.proofs.says.plain_is.Goals as goal

pub returns-then-is_other : goal.returns-then-is_other
returns-then-is_other c =
    let a = c.args in
    let at-form-of = c.form_of-form in
    let at-is-other = c.is_other in
    let if1 = c.if-is_other in
    let lent = lends a.names.now a.area.now in
    plain_other a.h a.t.now lent a.v (value_type_of a.kind) a.expected.now at-form-of.ensures
    (sym at-is-other.ensures ∙ if1.true)

pub is_string-requires : goal.is_string-requires
is_string-requires c =
    let p = c.requires in
    (p.0, p.1.some)

pub returns-then-is_pool : goal.returns-then-is_pool
returns-then-is_pool c =
    let a = c.args in
    let at-form-of = c.form_of-form in
    let at-is-other = c.is_other in
    let if1 = c.if-is_other in
    let at-is-pool = c.is_pool in
    let if2 = c.if-is_pool in
    let at-is-string = c.is_string in
    let lent = lends a.names.now a.area.now in
    plain-pool a.h a.t.now lent a.v (value_type_of a.kind) a.expected.now at-form-of.ensures
    (sym at-is-other.ensures ∙ if1.false)
    (sym at-is-pool.ensures ∙ if2.true) at-is-string.ensures

pub put_plain-n-requires : goal.put_plain-n-requires
put_plain-n-requires c =
    let p = c.requires in
    p.0

pub is_front-requires : goal.is_front-requires
is_front-requires c =
    let p = c.requires in
    let at-put-plain = c.put_plain-n in
    record { some = p.1.some; fits = omega (arith, at-put-plain.ensures.long, p.1.fits) }

pub returns : goal.returns
returns c =
    let a = c.args in
    let at-form-of = c.form_of-form in
    let at-is-other = c.is_other in
    let if1 = c.if-is_other in
    let at-is-front = c.is_front in
    let at-put-plain = c.put_plain-n in
    let lent = lends a.names.now a.area.now in
    plain_form a.h a.t.now lent a.v (value_type_of a.kind) a.expected.now at-form-of.ensures
    (sym at-is-other.ensures ∙ if1.false)
    (at-is-front.ensures _ _ at-put-plain.ensures)
