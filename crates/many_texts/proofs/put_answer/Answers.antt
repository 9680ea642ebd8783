-- `many_texts::put_answer` meets its contract: its stores one behind the other are an answer's words put at a place.
use native.Mathlib.Omega.{arith}
use lib.ListN.{length-set}
use Rattle.records.proofs.Stores.{put-words}
use Rattle.many_texts.specs.Words.{answer_words}
use Rattle.many_texts.proofs.put_answer.Goals as goal

pub bounds-words-i-2 : goal.bounds-words-i-2
bounds-words-i-2 c = simp length-set (omega arith)

pub bounds-words-i-3 : goal.bounds-words-i-3
bounds-words-i-3 c = simp length-set (omega arith)

pub bounds-words-i-4 : goal.bounds-words-i-4
bounds-words-i-4 c = simp length-set (omega arith)

pub bounds-words-i-5 : goal.bounds-words-i-5
bounds-words-i-5 c = simp length-set (omega arith)

pub bounds-words-i-6 : goal.bounds-words-i-6
bounds-words-i-6 c = simp length-set (omega arith)

pub returns : goal.returns
returns c =
    let a = c.args in
    put-words (answer_words a.refusal a.start a.bytes a.uncovered a.state a.replaced) a.words.now a.i c.requires
