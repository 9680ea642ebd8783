-- `xml::blocks::all_pass` meets its contract. Invariant: the least answer so far is 1 where the test passes at each place so far, and else 0.
use Rattle.std.proofs.Common.{◌≡◌, ℕ, ◌≤◌, ◌<◌, true, false}
use Rattle.xml.proofs.blocks.all_pass.Given as goal

abbrev pub invariant-loop-k : goal.invariant-loop-k
invariant-loop-k g l = record {
  small : l.least ≤ 1;
  passes : l.least ≡ 1 → (k : ℕ) → k < l.k → goal.F-post g l.test k true;
  fails : l.least ≡ 0 → (k : ℕ) × (k < l.k) × goal.F-post g l.test k false;
}
