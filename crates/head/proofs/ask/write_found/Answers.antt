-- `head::ask::write_found` meets its contract: a text that does not fit leaves zeros (`gives-short`), one that fits stands before them (`gives-text`).
use Rattle.text.specs.Inner.Found.{part_of}
use Rattle.text.specs.Content.{text_in, damage_in}
use Rattle.head.specs.Ask.{state_told}
use Rattle.head.proofs.Zeros.{zero-tail}
use Rattle.head.proofs.Questions.{gives-text}
use borrow.Author.Rules.{rules}
use Rattle.head.proofs.ask.write_found.Goals as goal

pub returns : goal.returns
returns c =
    let p4 = c in
    let p7 = p4 in
    let a = p7.args in
    gives-text (text_in (part_of a.utf16 a.t.now a.area.now a.f)) a.out.now _ _ p7.found_into-n.result p7.found_into-n.ensures
    (state_told (damage_in (part_of a.utf16 a.t.now a.area.now a.f))) p4.if-out-n.false (zero-tail c.found_into-n.new.out c.fill-2.new.self c.found_into-n.result (search rules)) c.found_told-state.ensures
