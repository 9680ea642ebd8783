-- `records::put_node` meets its contract: its stores one behind the other are a node's words put at a place (proofs/Stores.antt).
-- The needs are answered one behind the other, in the order in which `rt dev` lists them.
use native.Mathlib.Omega.{arith}
use lib.ListN.{length-set}
use Rattle.records.specs.Words.{node_words}
use Rattle.records.proofs.Stores.{put-words}
use Rattle.records.proofs.put_node.Goals as goal

pub bounds-words-i-2 : goal.bounds-words-i-2
bounds-words-i-2 c = simp length-set (omega arith)

pub bounds-words-i-3 : goal.bounds-words-i-3
bounds-words-i-3 c = simp length-set (omega arith)

pub bounds-words-i-4 : goal.bounds-words-i-4
bounds-words-i-4 c = simp length-set (omega arith)

pub bounds-words-i-5 : goal.bounds-words-i-5
bounds-words-i-5 c = simp length-set (omega arith)

pub bounds-words-i-6 : goal.bounds-words-i-6
bounds-words-i-6 c = simp length-set (omega arith)

pub returns : goal.returns
returns c =
    let a = c.args in put-words (node_words a.name a.fixed a.parent a.first a.count a.line) a.words.now a.i c.requires
