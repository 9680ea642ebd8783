-- `value_text::plain::put_plain` meets its contract: each arm knows the form.
use mathlib.Core.Path.{sym, ap}
use Rattle.system_types.specs.Names.{lends}
use Rattle.system_types.proofs.Laws.{rising-of-good}
use Rattle.value_text.specs.Inner.Forms.{form_text}
use Rattle.value_text.proofs.Front.{leads-wrote, leads-none, leads-same}
use Rattle.value_text.proofs.plain.put_plain.Goals as goal

pub put_reference-requires : goal.put_reference-requires
put_reference-requires c =
    let a = c.args in
    rising-of-good (lends a.names.now a.area.now) c.requires.good

pub put_attribute-requires : goal.put_attribute-requires
put_attribute-requires c =
    let a = c.args in
    rising-of-good (lends a.names.now a.area.now) c.requires.good

pub returns-in-Reference : goal.returns-in-Reference
unfolding form_text
returns-in-Reference c =
    let a = c.args in
    leads-same (ap (form_text a.h a.t.now (lends a.names.now a.area.now) a.v)
    (sym c.in-Reference.is)) (leads-wrote c.put_reference.ensures)

pub returns-in-Attribute : goal.returns-in-Attribute
unfolding form_text
returns-in-Attribute c =
    let a = c.args in
    leads-same (ap (form_text a.h a.t.now (lends a.names.now a.area.now) a.v)
    (sym c.in-Attribute.is)) (leads-wrote c.put_attribute.ensures)

pub returns-in-Pool : goal.returns-in-Pool
unfolding form_text
returns-in-Pool c =
    let a = c.args in
    leads-same (ap (form_text a.h a.t.now (lends a.names.now a.area.now) a.v)
    (sym c.in-Pool.is)) c.put_string.ensures

pub returns-in-Number : goal.returns-in-Number
unfolding form_text
returns-in-Number c =
    let a = c.args in
    leads-same (ap (form_text a.h a.t.now (lends a.names.now a.area.now) a.v)
    (sym c.in-Number.is)) (leads-wrote c.put_signed.ensures)

pub returns-in-Word : goal.returns-in-Word
unfolding form_text
returns-in-Word c =
    let a = c.args in
    leads-same (ap (form_text a.h a.t.now (lends a.names.now a.area.now) a.v)
    (sym c.in-Word.is)) (leads-wrote c.put_word_of.ensures)

pub returns-in-Truth : goal.returns-in-Truth
unfolding form_text
returns-in-Truth c =
    let a = c.args in
    leads-same (ap (form_text a.h a.t.now (lends a.names.now a.area.now) a.v)
    (sym c.in-Truth.is)) (leads-wrote c.put_truth.ensures)

pub returns-in-Color : goal.returns-in-Color
unfolding form_text
returns-in-Color c =
    let a = c.args in
    leads-same (ap (form_text a.h a.t.now (lends a.names.now a.area.now) a.v)
    (sym c.in-Color.is)) (leads-wrote c.put_marked.ensures)

pub returns-in-Other : goal.returns-in-Other
unfolding form_text
returns-in-Other c =
    let a = c.args in
    leads-same (ap (form_text a.h a.t.now (lends a.names.now a.area.now) a.v) (sym c.in-Other.is))
    (leads-none a.out.now)
