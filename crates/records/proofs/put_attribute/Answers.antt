-- `records::put_attribute` meets its contract: its stores one behind the other are an attribute's words put at a place (proofs/Stores.antt).
-- The needs are answered one behind the other, in the order in which `rt dev` lists them.
use native.Mathlib.Omega.{arith}
use lib.ListN.{length-set}
use Rattle.records.specs.Words.{attribute_words}
use Rattle.records.proofs.Stores.{put-words}
use Rattle.records.proofs.put_attribute.Goals as goal

pub bounds-words-i-2 : goal.bounds-words-i-2
bounds-words-i-2 c = simp length-set (omega arith)

pub bounds-words-i-3 : goal.bounds-words-i-3
bounds-words-i-3 c = simp length-set (omega arith)

pub bounds-words-i-4 : goal.bounds-words-i-4
bounds-words-i-4 c = simp length-set (omega arith)

pub bounds-words-i-5 : goal.bounds-words-i-5
bounds-words-i-5 c = simp length-set (omega arith)

pub bounds-words-i-6 : goal.bounds-words-i-6
bounds-words-i-6 c = simp length-set (omega arith)

pub returns : goal.returns
returns c =
    let a = c.args in put-words (attribute_words a.owner a.prefix a.name a.kind a.«data» a.ns) a.words.now a.i c.requires
