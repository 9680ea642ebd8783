-- Which five bytes are placed as in a block of whole sequences (`Placed`, specs/Inner/StepRuns.antt): a law for each form that src/formed.rt tests.
use mathlib.Core.Path.{◌≡◌, sym, ap, ◌∙◌}
use mathlib.Core.Bool.{Bool, true, false, not, ◌||◌, true≢false}
use Prim.Native.Nat.{ℕ, ◌+◌, ◌*◌, ◌%◌, ◌≤◌, ◌<◌}
use native.Mathlib.Omega.{arith}
use borrow.Author.Tests.{le-leb, lt-ltb, eq-eqb, not-true}
use lib.Dec.{eqb}
use Rattle.utf.specs.declared.Step.TheVariants.{Scalar}
use Rattle.utf.specs.declared.utf8.Lead.{Lead}
use Rattle.utf.specs.Utf8.{inside}
use Rattle.utf.specs.Text.{width_of, sound_of}
use Rattle.utf.specs.Inner.Lead.{row, lead_of, step_by}
use Rattle.utf.specs.Inner.StepRuns.{IsInner, SecondFits, Placed}
use Rattle.utf.proofs.Leads.{by-lead}

-- ---- tests

pub not-inner : (b : ℕ) → not (inside 0x80 0xbf b) ≡ true → IsInner b → ⊥
not-inner b e p =
    let t : inside 0x80 0xbf b ≡ true = rw (le-leb 0x80 b p.0, le-leb b 0xbf p.1) in
    true≢false (sym t ∙ not-true (inside 0x80 0xbf b) e)

-- a test that is made of one number alone
pub unless : (x n : ℕ) (y : Bool) → (not (eqb x n) || y) ≡ true → x ≡ n → y ≡ true
unless x n y e z = go (eqb x n) (eq-eqb x n z) e
  where
    go : (b : Bool) → b ≡ true → (not b || y) ≡ true → y ≡ true
    go true f g = g
    go false f g = absurd (true≢false (sym f))

-- ---- five bytes

module _ (b c d e f : ℕ) where
  pub placed-inner : IsInner b → Placed b c d e f
  placed-inner p = record {
    sound = λ n. absurd (n p);
    one = λ n. absurd (n p);
    two = λ n. absurd (n p);
    three = λ n. absurd (n p);
    four = λ n. absurd (n p);
  }

  placed_by : (v w : ℕ) → step_by (lead_of b) b c d e ≡ Scalar v w → (w ≡ 1 → IsInner c → ⊥) → (w ≡ 2 → IsInner d → ⊥) → (w ≡ 3 → IsInner e → ⊥)
      → (w ≡ 4 → IsInner f → ⊥) → Placed b c d e f
  placed_by v w t p q r s = record {
    sound = λ n. ap sound_of t;
    one = λ n k. p (sym (ap width_of t) ∙ k);
    two = λ n k. q (sym (ap width_of t) ∙ k);
    three = λ n k. r (sym (ap width_of t) ∙ k);
    four = λ n k. s (sym (ap width_of t) ∙ k);
  }

  pub placed-ascii : b < 0x80 → (IsInner c → ⊥) → Placed b c d e f
  unfolding lead_of step_by
  placed-ascii h n =
      placed_by b 1 (rw (lt-ltb b 0x80 h)) (λ _. n)
      (λ z. absurd (let y : ⊥ = omega arith in y))
      (λ z. absurd (let y : ⊥ = omega arith in y))
      (λ z. absurd (let y : ⊥ = omega arith in y))

  -- the step by its row
  row1-is : 0x80 ≤ c → c ≤ 0xbf → step_by (row 1 0x80 0xbf) b c d e ≡ Scalar (b % 32 * 64 + c % 64) 2
  unfolding step_by
  row1-is l h = rw (le-leb 0x80 c l, le-leb c 0xbf h)

  row2-is : (lo hi : ℕ) → lo ≤ c → c ≤ hi → IsInner d → step_by (row 2 lo hi) b c d e ≡ Scalar (b % 16 * 4096 + c % 64 * 64 + d % 64) 3
  unfolding step_by
  row2-is lo hi l h p = rw (le-leb lo c l, le-leb c hi h, le-leb 0x80 d p.0, le-leb d 0xbf p.1)

  row3-is : (lo hi : ℕ) → lo ≤ c → c ≤ hi → IsInner d → IsInner e
      → step_by (row 3 lo hi) b c d e ≡ Scalar (b % 8 * 262144 + c % 64 * 4096 + d % 64 * 64 + e % 64) 4
  unfolding step_by
  row3-is lo hi l h p q = rw (le-leb lo c l, le-leb c hi h, le-leb 0x80 d p.0, le-leb d 0xbf p.1, le-leb 0x80 e q.0, le-leb e 0xbf q.1)

  pub placed-two : 0xc2 ≤ b → b ≤ 0xdf → SecondFits b c → (IsInner d → ⊥) → Placed b c d e f
  placed-two l h s n =
      let v = b % 32 * 64 + c % 64 in
      let t : step_by (lead_of b) b c d e ≡ Scalar v 2 =
      by-lead (λ (r : Lead). step_by r b c d e ≡ Scalar v 2) b
      (λ k. absurd (let z : ⊥ = omega arith in z))
      (λ k m. absurd (let z : ⊥ = omega arith in z))
      (λ k m. row1-is s.inner.0 s.inner.1)
      (λ k m. absurd (let z : ⊥ = omega arith in z))
      (λ k m. absurd (let z : ⊥ = omega arith in z))
      (λ k m. absurd (let z : ⊥ = omega arith in z))
      (λ k m. absurd (let z : ⊥ = omega arith in z))
      (λ k m. absurd (let z : ⊥ = omega arith in z))
      (λ k m. absurd (let z : ⊥ = omega arith in z))
      (λ k m. absurd (let z : ⊥ = omega arith in z))
      (λ k. absurd (let z : ⊥ = omega arith in z)) in
      placed_by v 2 t
      (λ z. absurd (let y : ⊥ = omega arith in y))
      (λ _. n)
      (λ z. absurd (let y : ⊥ = omega arith in y))
      (λ z. absurd (let y : ⊥ = omega arith in y))

  pub placed-three : 0xe0 ≤ b → b ≤ 0xef → SecondFits b c → IsInner d → (IsInner e → ⊥) → Placed b c d e f
  placed-three l h s p n =
      let v = b % 16 * 4096 + c % 64 * 64 + d % 64 in
      let t : step_by (lead_of b) b c d e ≡ Scalar v 3 =
      by-lead (λ (r : Lead). step_by r b c d e ≡ Scalar v 3) b
      (λ k. absurd (let z : ⊥ = omega arith in z))
      (λ k m. absurd (let z : ⊥ = omega arith in z))
      (λ k m. absurd (let z : ⊥ = omega arith in z))
      (λ k m. row2-is 0xa0 0xbf (s.after-e0 (omega arith)) s.inner.1 p)
      (λ k m. row2-is 0x80 0xbf s.inner.0 s.inner.1 p)
      (λ k m. row2-is 0x80 0x9f s.inner.0 (s.after-ed (omega arith)) p)
      (λ k m. row2-is 0x80 0xbf s.inner.0 s.inner.1 p)
      (λ k m. absurd (let z : ⊥ = omega arith in z))
      (λ k m. absurd (let z : ⊥ = omega arith in z))
      (λ k m. absurd (let z : ⊥ = omega arith in z))
      (λ k. absurd (let z : ⊥ = omega arith in z)) in
      placed_by v 3 t
      (λ z. absurd (let y : ⊥ = omega arith in y))
      (λ z. absurd (let y : ⊥ = omega arith in y))
      (λ _. n)
      (λ z. absurd (let y : ⊥ = omega arith in y))

  pub placed-four : 0xf0 ≤ b → b ≤ 0xf4 → SecondFits b c → IsInner d → IsInner e → (IsInner f → ⊥) → Placed b c d e f
  placed-four l h s p q n =
      let v = b % 8 * 262144 + c % 64 * 4096 + d % 64 * 64 + e % 64 in
      let t : step_by (lead_of b) b c d e ≡ Scalar v 4 =
      by-lead (λ (r : Lead). step_by r b c d e ≡ Scalar v 4) b
      (λ k. absurd (let z : ⊥ = omega arith in z))
      (λ k m. absurd (let z : ⊥ = omega arith in z))
      (λ k m. absurd (let z : ⊥ = omega arith in z))
      (λ k m. absurd (let z : ⊥ = omega arith in z))
      (λ k m. absurd (let z : ⊥ = omega arith in z))
      (λ k m. absurd (let z : ⊥ = omega arith in z))
      (λ k m. absurd (let z : ⊥ = omega arith in z))
      (λ k m. row3-is 0x90 0xbf (s.after-f0 (omega arith)) s.inner.1 p q)
      (λ k m. row3-is 0x80 0xbf s.inner.0 s.inner.1 p q)
      (λ k m. row3-is 0x80 0x8f s.inner.0 (s.after-f4 (omega arith)) p q)
      (λ k. absurd (let z : ⊥ = omega arith in z)) in
      placed_by v 4 t
      (λ z. absurd (let y : ⊥ = omega arith in y))
      (λ z. absurd (let y : ⊥ = omega arith in y))
      (λ z. absurd (let y : ⊥ = omega arith in y))
      (λ _. n)
