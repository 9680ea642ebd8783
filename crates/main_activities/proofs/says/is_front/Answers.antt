-- `main_activities::says::is_front` meets its contract: too long to be it, or the bytes in front (`front_long`, `front_same`).
use native.Mathlib.Nat.{sub-zero}
use Rattle.main_activities.proofs.Saying.{front_long, front_same}
use Rattle.main_activities.proofs.says.is_front.Goals as goal

pub returns-then-out-n : goal.returns-then-out-n
returns-then-out-n c =
    let p = c.requires in
    let if1 = c.if-out-n in
    λ s l e. front_long e (p) if1.true

pub returns : goal.returns
returns c =
    let p = c.requires in
    let if1 = c.if-out-n in
    let at-same-bytes = c.same_bytes in
    λ s l e. front_same e (p) if1.false (rw sub-zero at at-same-bytes.ensures)
