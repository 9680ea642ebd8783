-- `xml::blocks::ascii_low` meets its contract.
use borrow.Author.Rules.{rules}
use Rattle.xml.proofs.SeenChars.{ascii_low-is}
use Rattle.xml.proofs.blocks.ascii_low.Goals as goal

pub returns : goal.returns
returns c =
    let q = c in
    let a = q.args in
    rw (q.between.ensures, c.between-2.ensures, c.between-3.ensures, c.between-4.ensures)
    (ascii_low-is a.b (search rules))
