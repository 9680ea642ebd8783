-- `xml_elements::look` meets its contract: no header, an ordinary chunk, or a foreign one of either sort.
use mathlib.Core.Path.{sym, ◌∙◌}
use Rattle.common.proofs.Laws.{header_of-long}
use Rattle.xml_elements.proofs.Laws.{turn_of-stop, turn_of-xml, turn_of-foreign-0, turn_of-foreign-1}
use Rattle.xml_elements.proofs.look.Goals as goal

pub returns-then-sort-eq2 : goal.returns-then-sort-eq2
returns-then-sort-eq2 c =
    let at-header = c in
    let w = sym at-header.header_at.ensures ∙ c.in-Some.is in
    c.xml_turn.ensures ∙ sym (turn_of-xml at-header.args.l.now w (sym c.sort_of-sort.ensures ∙ c.if-sort-eq2.true))

pub skip_content-used-requires : goal.skip_content-used-requires
skip_content-used-requires c =
    let at-header = c in
    header_of-long at-header.args.l.now (sym at-header.header_at.ensures ∙ c.in-Some.is)

pub returns-then-sort-eq0 : goal.returns-then-sort-eq0
returns-then-sort-eq0 c =
    let at-header = c in
    let w = sym at-header.header_at.ensures ∙ c.in-Some.is in
    let content = c.skip_content-used in
    let l = at-header.args.l.now in
    turn_of-foreign-0 l content.result w (sym c.sort_of-sort.ensures ∙ c.if-sort-eq0.true) content.ensures

pub returns-in_default : goal.returns-in_default
returns-in_default c = sym (turn_of-stop c.args.l.now (sym c.header_at.ensures ∙ c.in_default.is))

pub returns-else-sort-eq0 : goal.returns-else-sort-eq0
returns-else-sort-eq0 c =
    let at-header = c in
    let w = sym at-header.header_at.ensures ∙ c.in-Some.is in
    let content = c.skip_content-used in
    let e = c.sort_of-sort.ensures in
    let other = turn_of-foreign-1 at-header.args.l.now content.result w in
    rw e (other (λ z. c.if-sort-eq2.false (e ∙ z)) (λ z. c.if-sort-eq0.false (e ∙ z)) content.ensures)
