-- `value_text::value_in` meets its contract: by what was told (`gives-shown`, `gives-no-name`, `gives-no-text`).
use mathlib.Core.Path.{refl}
use lib.ListN.{length}
use Rattle.value_text.proofs.Front.{gives-shown, gives-no-name, gives-no-text}
use Rattle.value_text.proofs.value_in.Goals as goal

pub returns-in-Shown : goal.returns-in-Shown
returns-in-Shown c =
    let a = c.args in
    gives-shown (length a.out.now) a.a.kind c.value_into-told.ensures
    c.in-Shown.is c.settle.ensures

pub returns-in-NoName : goal.returns-in-NoName
returns-in-NoName c =
    let a = c.args in
    gives-no-name (length a.out.now) a.a.kind c.value_into-told.ensures
    c.in-NoName.is refl c.refuse.ensures

pub returns-in-NoText : goal.returns-in-NoText
returns-in-NoText c =
    let a = c.args in
    gives-no-text (length a.out.now) a.a.kind c.value_into-told.ensures
    c.in-NoText.is refl c.refuse-in-NoText.ensures
