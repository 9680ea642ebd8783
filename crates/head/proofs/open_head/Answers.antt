-- `head::open_head` meets its contract: by the file's length and header size (`opened_of-small`, `opened_of-size`, `opened_of-tables`).
use mathlib.Core.Path.{◌∙◌, ap, sym}
use Rattle.head.specs.Head.{tables_of, unopened}
use Rattle.head.specs.declared.HeadEnd.TheVariants.{HeaderSize}
use Rattle.head.proofs.Cases.{opened_of-small, opened_of-size, opened_of-tables, rest_all}
use Rattle.head.proofs.open_head.Goals as goal

pub returns-then-file-lt8 : goal.returns-then-file-lt8
returns-then-file-lt8 c =
    let s = c in
    let a = s.args in
    c.not_opened.ensures ∙ sym (opened_of-small a.file.now c.if-file-lt8.true)

pub returns-then-size-ne8 : goal.returns-then-size-ne8
returns-then-size-ne8 c =
    let s = c in
    let a = s.args in
    let e = c.u16_at-size.ensures.0 in
    c.not_opened-then-size-ne8.ensures ∙ ap (λ (n : _). unopened (HeaderSize n)) e ∙ sym
    (opened_of-size a.file.now c.if-file-lt8.false (λ q. c.if-size-ne8.true (e ∙ q)))

pub returns : goal.returns
returns c =
    let s = c in
    let a = s.args in
    let e = c.u16_at-size.ensures.0 in
    c.tables_at.ensures ∙ ap tables_of (rest_all 8 a.file.now) ∙ sym
    (opened_of-tables a.file.now c.if-file-lt8.false (sym e ∙ c.if-size-ne8.false))
