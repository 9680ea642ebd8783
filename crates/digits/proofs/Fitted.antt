-- Laws of `fitted` of specs/Written.antt: a text written from the front of a buffer on, and zeros in what is left of it. No contract cites this file.
use Prim.Native.Nat.{ℕ, ◌+◌, ◌-◌, ◌≤◌, ◌<◌}
use mathlib.Core.Path.{◌≡◌, ◌∙◌, ap}
use mathlib.Core.List.{List, append-nil}
use native.Mathlib.Omega.{arith}
use native.Mathlib.Nat.{zero-add}
use borrow.Author.Tests.{le-leb, lt-leb}
use borrow.Rule.Slice.PartMut.{put_mid, mid_of}
use lib.ListN.{length, take, drop, replicate, length-drop, drop_of_length-le}
use lib.Seq.{sets-eq, take_all, take-append_seam}
use Rattle.digits.specs.Written.{written, Wrote, fitted}
use Rattle.digits.proofs.Written.{length-written}

take-written : (s l : List ℕ) → length s ≤ length l → take (length s) (written 0 s l) ≡ s
unfolding written
take-written s l h =
    let f : 0 + length s ≤ length l = omega arith in
    rw (sets-eq s l 0 f, take-append_seam)

module _ {m end : ℕ} {text l k : List ℕ} (w : Wrote m 0 text l end k) where
  pub wrote-length : end ≡ length text
  wrote-length = w.place ∙ zero-add (length text)

  pub wrote-same : length k ≡ length l
  wrote-same = ap length w.out ∙ length-written text l 0

  -- zeros in the part from the end of the text on
  pub fitted-whole :
      (ys : List ℕ) → end ≤ length k → ys ≡ replicate (length (mid_of end (length k - end) k)) 0 →
      put_mid end (length k - end) k ys ≡ fitted text (length l)
  unfolding fitted
  fitted-whole ys h e =
      let a = wrote-length in
      let b = wrote-same in
      let f : length text ≤ length l = omega arith in
      let i : length (drop end k) ≤ length k - end = omega (arith, length-drop end k) in
      let q : length (take (length k - end) (drop end k)) ≡ length k - end = ap length (take_all (length k - end) (drop end k) i) ∙ length-drop end k in
      let t : take end k ≡ text = rw (a, w.out) (take-written text l f) in
      rw (le-leb (length text) (length l) f, t, drop_of_length-le (drop end k) i, append-nil, e, q, a, b)

  -- zeros all over
  pub fitted_short : (ys : List ℕ) → length k < end → ys ≡ replicate (length k) 0 → ys ≡ fitted text (length l)
  unfolding fitted
  fitted_short ys h e =
      let a = wrote-length in
      let b = wrote-same in
      let f : length l < length text = omega arith in
      rw (lt-leb (length text) (length l) f, e, b)
