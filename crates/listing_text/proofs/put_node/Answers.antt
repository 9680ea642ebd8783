-- `listing_text::put_node` meets its contract: a line as two times three fields, and one.
use native.Mathlib.Omega.{arith}
use Rattle.digits.proofs.Written.{wrote-more, wrote-append}
use Rattle.listing_text.proofs.Laws.{node_line-words}
use borrow.Author.Rules.{rules}
use Rattle.listing_text.proofs.put_node.Goals as goal

pub put_field-requires : goal.put_field-requires
put_field-requires c =
    let second = c in
    let first = second in
    let start = first in
    (omega (arith, second.put_three-b.ensures.near, first.put_three-a.ensures.near, start.requires.0), search rules)

pub returns : goal.returns
returns c =
    let third = c in
    let second = third in
    let first = second in
    let w6 = first in
    let w5 = w6 in
    let w4 = w5 in
    let w3 = w4 in
    let w2 = w3 in
    let w1 = w2 in
    let start = w1 in
    let a = start.args in
    wrote-more (wrote-append first.put_three-a.ensures (wrote-append second.put_three-b.ensures third.put_field.ensures))
    (node_line-words a.k a.nodes.now w1.word-name.ensures w2.word-fixed.ensures w3.word-parent.ensures
    w4.word-first.ensures w5.word-count.ensures w6.word-line.ensures)
    (omega arith)
