-- `walk::placing::close_place` meets its contract: the innermost element closes (proofs/Trees.antt).
use native.Mathlib.Omega.{arith}
use Rattle.walk.proofs.Trees.{node-closes}
use Rattle.walk.proofs.placing.close_place.Goals as goal

pub close_node-requires : goal.close_node-requires
close_node-requires c = λ n. omega (arith, c.requires.sized.nodes, c.requires.sized.inside n)

pub returns : goal.returns
returns c =
    let a = c.args in λ rule key o h l. rw c.close_node.ensures (node-closes rule key a.nodes.now a.attributes.now a.tree o h l)
