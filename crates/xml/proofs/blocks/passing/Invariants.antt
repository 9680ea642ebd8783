-- `xml::blocks::passing` meets its contract. Invariant: the test passes at each place so far.
use Rattle.std.proofs.Common.{ℕ, ◌<◌, true}
use Rattle.xml.proofs.blocks.passing.Given as goal

abbrev pub invariant-loop-k : goal.invariant-loop-k
invariant-loop-k g l = (j : ℕ) → j < l.k → goal.F-post g l.test j true
