-- `walk::placing::open_place` meets its contract: the node is pushed where it has a place (proofs/Trees.antt).
use native.Mathlib.Omega.{arith}
use Rattle.walk.proofs.Trees.{node_opens}
use Rattle.walk.proofs.placing.open_place.Goals as goal

pub returns : goal.returns
returns c =
    let a = c.args in
    let q = c.open_node in
    λ rule key o h l.
    rw q.ensures.0
    (node_opens rule key a.nodes.now a.attributes.now q.new.nodes a.tree a.name a.fixed a.line
    (omega (arith, c.if-nodes-node_place-lt-NODE_WORDS.false, c.node_place.ensures)) q.auto.nodes q.ensures.1 o h)
