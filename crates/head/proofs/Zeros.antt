-- Zeros in a lent buffer, and the text before them. No contract cites this file.
-- In order: from a place on (`zero-tail`), behind a text (`zero-behind`).
use Prim.Native.Nat.{ℕ, ◌+◌, ◌-◌, ◌≤◌}
use native.Mathlib.Omega.{arith}
use native.Mathlib.Nat.{le_of_eq}
use mathlib.Core.Path.{◌≡◌, ap, sym, ◌∙◌}
use mathlib.Core.List.{List, ◌++◌, append-nil}
use borrow.Rule.Slice.PartMut.{put_mid, mid_of}
use lib.ListN.{length, take, drop, replicate, length-append, length-drop, drop_of_length-le}
use lib.Seq.{take_all, take_at}

pub zero-tail
    : (l ys : List ℕ) (f : ℕ)
    → ys ≡ replicate (length (mid_of f (length l - f) l)) 0
    → put_mid f (length l - f) l ys ≡ take f l ++ replicate (length l - f) 0
zero-tail l ys f e =
    let m : length (drop f l) ≤ length l - f = le_of_eq (length-drop f l) in
    let q : length (take (length l - f) (drop f l)) ≡ length l - f = ap length (take_all (length l - f) (drop f l) m) ∙ length-drop f l in
    let r : ys ++ drop (length l - f) (drop f l) ≡ replicate (length l - f) 0 =
    ap (λ (x : List ℕ). ys ++ x) (drop_of_length-le (drop f l) m) ∙ append-nil ys ∙ e ∙ ap (λ (n : ℕ). replicate n 0) q in
    ap (λ (x : List ℕ). take f l ++ x) r

-- the text, what stood behind it, and then zeros there
pub zero-behind
    : (text before out after : List ℕ) (k : ℕ)
    → length text ≤ length before
    → k ≡ length text
    → out ≡ text ++ drop (length text) before
    → after ≡ take k out ++ replicate (length out - k) 0
    → after ≡ text ++ replicate (length before - length text) 0
zero-behind text before out after k h e o z =
    let l : length out ≡ length before = ap length o ∙ length-append text (drop (length text) before) ∙ rw length-drop (omega arith) in
    let t : take k out ≡ text = ap (take k) o ∙ take_at text (drop (length text) before) k (sym e) in
    let n : length out - k ≡ length before - length text = omega arith in
    z ∙ rw (t, n)
