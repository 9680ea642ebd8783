-- `first_values::put_answer` meets its contract: its stores one behind the other are an answer's words put at a place (records/proofs/Stores).
use Prim.Native.Nat.{◌*◌}
use native.Mathlib.Omega.{arith}
use lib.ListN.{length-set}
use Rattle.records.specs.Words.{answer_width}
use Rattle.records.proofs.Stores.{put-words}
use Rattle.first_values.specs.Pairs.{number_words}
use Rattle.first_values.proofs.put_answer.Goals as goal

pub bounds-answers-i-2 : goal.bounds-answers-i-2
bounds-answers-i-2 c = simp length-set (omega arith)

pub bounds-answers-i-3 : goal.bounds-answers-i-3
bounds-answers-i-3 c = simp length-set (omega arith)

pub bounds-answers-i-4 : goal.bounds-answers-i-4
bounds-answers-i-4 c = simp length-set (omega arith)

pub returns : goal.returns
returns c =
    let a = c.args in put-words (number_words a.n) a.answers.now (answer_width * a.k) c.requires
