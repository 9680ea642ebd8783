-- `text::apart::bytes_apart` meets its contract: other lengths, another byte near the end (`other_at`), or other bytes; of a long text nothing is said.
use Rattle.text.proofs.Others.{other_length, other_at}
use Rattle.text.proofs.apart.bytes_apart.Goals as goal

pub returns-then-m-n : goal.returns-then-m-n
returns-then-m-n c =
    let s = c in
    let a = s.args in
    λ _. other_length a.t.now a.q a.m a.at a.n s.requires.0 s.requires.1 c.if-m-n.true

pub returns-then-t-q : goal.returns-then-t-q
returns-then-t-q c =
    let at-if2 = c in
    let at-if1 = at-if2 in
    let s = at-if1 in
    let a = s.args in
    λ _. other_at a.t.now a.q a.m a.at a.n s.requires.0 s.requires.1 a.back at-if1.if-m-n.false s.requires.2
    at-if2.if-back-n.true c.if-t-q.true
