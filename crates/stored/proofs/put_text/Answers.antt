-- `stored::put_text` meets its contract: nothing for a group outside; else four texts, one behind the other.
use Rattle.std.proofs.Common.{arith}
use Rattle.stored.proofs.Laws.{group_text-outside, group_text-inside}
use Rattle.stored.proofs.put_text.Goals as goal

pub returns-then-counts-group : goal.returns-then-counts-group
returns-then-counts-group c = group_text-outside c.args.counts.now c.args.out.now c.args.group (omega arith)

pub returns : goal.returns
returns c =
    group_text-inside c.args.counts.now c.args.group (omega arith) c.count_at-right.ensures c.count_at-asked.ensures
    c.put_word-a.ensures c.put_bytes-b.ensures c.put_word-c.ensures c.put_byte.ensures
