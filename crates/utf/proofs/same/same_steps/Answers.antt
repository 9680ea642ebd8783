-- `utf::same::same_steps` meets its contract. Invariant: what is left of the two texts is the same or not as they are. Measure: what is left of a.
use mathlib.Core.Path.{sym, ap, ◌∙◌}
use mathlib.Core.List.{List}
use Prim.Native.Nat.{ℕ}
use lib.ListN.{drop}
use Rattle.utf.specs.Text.{steps_of, bytes_of, eq_bytes}
use Rattle.utf.proofs.Turns.{end-bytes, left-some, left-none}
use Rattle.utf.proofs.same.same_steps.Goals as goal

pub returns-then-b-j : goal.returns-then-b-j
returns-then-b-j c = sym (left-some _ _ _ _ _ _ c.loop-i-test.true c.if-b-j.true) ∙ c.loop-i.invariant

pub returns : goal.returns
returns c =
    let a = c.args in
    let l = c.loop-i in
    left-none a.utf16_b a.b.now l.j ∙ ap (λ (x : List ℕ). eq_bytes x (bytes_of (steps_of a.utf16_b (drop l.j a.b.now))))
    (sym (end-bytes a.utf16_a a.a.now l.i c.loop-i-test.false)) ∙ l.invariant
