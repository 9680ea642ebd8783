-- `chunk::skip_bare` meets its contract. Invariant: the run from `at` ends where the run from p does. Measure: the bytes behind p.
use native.Mathlib.Omega.{arith}
use mathlib.Core.Path.{sym, ◌∙◌}
use borrow.Author.Rules.{rules}
use Rattle.chunk.proofs.HeaderOnly.{skip_run-bare}
use Rattle.chunk.proofs.skip_bare.Goals as goal

pub loop-p-preserved : goal.loop-p-preserved
loop-p-preserved c =
    let at-loop = c in
    let a = at-loop.args in
    let all = sym c.bare_block.ensures ∙ c.if-not-bare_block.false in
    let step = skip_run-bare 8 a.s.now at-loop.loop-p.p (omega arith) all in
    (search rules, at-loop.loop-p.invariant.1 ∙ step, search rules)
