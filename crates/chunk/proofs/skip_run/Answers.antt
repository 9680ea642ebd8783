-- `chunk::skip_run` meets its contract. Invariant: the run from `at` ends where the run from p does. Measure: the bytes behind p.
-- Where blocks are tried again is no matter of the contract: `retry` stands in no invariant.
use Prim.Native.Nat.{ℕ, ◌+◌, ◌<◌}
use native.Mathlib.Omega.{arith}
use mathlib.Core.Path.{◌≡◌, sym, ◌∙◌}
use borrow.Author.Rules.{rules}
use lib.Dec.{leb, eqb}
use Rattle.chunk.proofs.Laws.{skip_run-stop, skip_run-step}
use Rattle.chunk.proofs.HeaderOnly.{skip_run-tested}
use Rattle.chunk.proofs.skip_run.Goals as goal

ne-pos : {n : ℕ} → (n ≡ 0 → ⊥) → 0 < n
ne-pos h = omega arith

pub returns-then-n-eq0 : goal.returns-then-n-eq0
returns-then-n-eq0 c =
    let at-loop = c in
    let a = at-loop.args in
    let none = sym c.run_used-n.ensures.0 ∙ c.if-n-eq0.true in (
      sym (skip_run-stop a.s.now at-loop.loop-at.p a.sort none) ∙ sym at-loop.loop-at.invariant.1,
      search rules,
      search rules,
    )

pub loop-at-preserved-then-n-sort : goal.loop-at-preserved-then-n-sort
loop-at-preserved-then-n-sort c =
    let at-loop = c in
    let a = at-loop.args in
    let used = c.run_used-n in
    let p = at-loop.loop-at.p in
    let n = used.result in
    let one = skip_run-step a.s.now p a.sort n (sym used.ensures.0) (ne-pos c.if-n-eq0.false) in
    let blocks = skip_run-tested a.s.now (p + n) c.skip_bare-p.result a.sort (eqb n 8) (leb at-loop.loop-at.retry (p + n))
    c.if-n-sort.true c.skip_bare-p.ensures.0 in
    (search rules, at-loop.loop-at.invariant.1 ∙ one ∙ blocks, search rules)

pub loop-at-preserved : goal.loop-at-preserved
loop-at-preserved c =
    let at-loop = c in
    let a = at-loop.args in
    let used = c.run_used-n in
    let step = skip_run-step a.s.now at-loop.loop-at.p a.sort used.result (sym used.ensures.0) (ne-pos c.if-n-eq0.false) in
    (search rules, at-loop.loop-at.invariant.1 ∙ step, search rules)
