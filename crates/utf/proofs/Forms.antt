-- A step of UTF-8 by its form: ASCII, two to four bytes, or a bad step of one to three, each with what is known of its bytes (`by_form`); the bytes
-- inside any step are 80 to BF (`inner_of`). For this crate and for xml.
use mathlib.Core.Path.{◌≡◌, refl}
use mathlib.Core.Bool.{Bool, true, false, cond}
use mathlib.Core.List.{List}
use Prim.Native.Nat.{ℕ, ◌+◌, ◌*◌, ◌%◌, ◌≤◌, ◌<◌}
use native.Mathlib.Omega.{arith}
use borrow.Author.Tests.{ltb-true, ltb-false}
use lib.Dec.{ltb}
use lib.ListN.{length, get_or, get_or-eq_default}
use Rattle.utf.specs.declared.Step.{Step}
use Rattle.utf.specs.declared.Step.TheVariants.{Scalar, Bad}
use Rattle.utf.specs.declared.utf8.Lead.{Lead}
use Rattle.utf.specs.Utf8.{inside}
use Rattle.utf.specs.Text.{width_of}
use Rattle.utf.specs.Inner.Lead.{row, lead_of, step_by}
use Rattle.utf.specs.Inner.StepRuns.{IsInner}
use Rattle.utf.proofs.Scalars.{inside-ends}
use Rattle.utf.proofs.Leads.{by-lead}

pub record Forms (P : Step → Type 0) (b c d e : ℕ) : Type 0 where
  pub ascii : b < 0x80 → P (Scalar b 1)
  pub two : 0xc2 ≤ b → b ≤ 0xdf → 0x80 ≤ c → c ≤ 0xbf → P (Scalar (b % 32 * 64 + c % 64) 2)
  pub three : 0xe0 ≤ b → b ≤ 0xef → 0x80 ≤ c → c ≤ 0xbf → 0x80 ≤ d → d ≤ 0xbf → 0x800 ≤ b % 16 * 4096 + c % 64 * 64 + d % 64
      → (b ≤ 0xed → b % 16 * 4096 + c % 64 * 64 + d % 64 ≤ 0xd7ff) → P (Scalar (b % 16 * 4096 + c % 64 * 64 + d % 64) 3)
  pub four : 0xf0 ≤ b → b ≤ 0xf4 → 0x80 ≤ c → c ≤ 0xbf → 0x80 ≤ d → d ≤ 0xbf → 0x80 ≤ e → e ≤ 0xbf
      → 0x10000 ≤ b % 8 * 262144 + c % 64 * 4096 + d % 64 * 64 + e % 64 → (b ≡ 0xf4 → c ≤ 0x8f)
      → P (Scalar (b % 8 * 262144 + c % 64 * 4096 + d % 64 * 64 + e % 64) 4)
  pub bad1 : P (Bad 1)
  pub bad2 : 0x80 ≤ c → c ≤ 0xbf → P (Bad 2)
  pub bad3 : 0x80 ≤ c → c ≤ 0xbf → 0x80 ≤ d → d ≤ 0xbf → P (Bad 3)

module _ (P : Step → Type 0) (b c d e : ℕ) (f : Forms P b c d e) where
  pick : (t : Bool) {x y : Step} → (t ≡ true → P x) → P y → P (cond t x y)
  pick true p q = p refl
  pick false p q = q

  row1 : 0xc2 ≤ b → b < 0xe0 → P (step_by (row 1 0x80 0xbf) b c d e)
  unfolding step_by
  row1 l h = pick (inside 0x80 0xbf c) (λ x. let p = inside-ends 0x80 0xbf c x in f.two l (omega arith) p.0 p.1) f.bad1

  row2 : (lo hi : ℕ) → 0xe0 ≤ b → b ≤ 0xef → 0x80 ≤ lo → hi ≤ 0xbf → (lo ≤ c → c ≤ hi → 0x800 ≤ b % 16 * 4096 + c % 64 * 64 + d % 64)
      → (lo ≤ c → c ≤ hi → b ≤ 0xed → b % 16 * 4096 + c % 64 * 64 + d % 64 ≤ 0xd7ff) → P (step_by (row 2 lo hi) b c d e)
  unfolding step_by
  row2 lo hi l h k m big low =
      pick (inside lo hi c)
      (λ x.
      let p = inside-ends lo hi c x in
      pick (inside 0x80 0xbf d)
      (λ y.
      let q = inside-ends 0x80 0xbf d y in
      f.three l h (omega arith) (omega arith) q.0 q.1 (big p.0 p.1) (low p.0 p.1))
      (f.bad2 (omega arith) (omega arith)))
      f.bad1

  row3 : (lo hi : ℕ) → 0xf0 ≤ b → b ≤ 0xf4 → 0x80 ≤ lo → hi ≤ 0xbf → (lo ≤ c → c ≤ hi → 0x10000 ≤ b % 8 * 262144 + c % 64 * 4096 + d % 64 * 64 + e % 64)
      → (lo ≤ c → c ≤ hi → b ≡ 0xf4 → c ≤ 0x8f) → P (step_by (row 3 lo hi) b c d e)
  unfolding step_by
  row3 lo hi l h k m big low =
      pick (inside lo hi c)
      (λ x.
      let p = inside-ends lo hi c x in
      pick (inside 0x80 0xbf d)
      (λ y.
      let q = inside-ends 0x80 0xbf d y in
      pick (inside 0x80 0xbf e)
      (λ z.
      let r = inside-ends 0x80 0xbf e z in
      f.four l h (omega arith) (omega arith) q.0 q.1 r.0 r.1 (big p.0 p.1) (low p.0 p.1))
      (f.bad3 (omega arith) (omega arith) q.0 q.1))
      (f.bad2 (omega arith) (omega arith)))
      f.bad1

  row0 : b < 0x80 → P (step_by (row 0 0 0) b c d e)
  unfolding step_by
  row0 h = f.ascii h

  row4 : P (step_by (row 4 0 0) b c d e)
  unfolding step_by
  row4 = f.bad1

  pub by_form : P (step_by (lead_of b) b c d e)
  by_form =
      by-lead (λ (l : Lead). P (step_by l b c d e)) b
      row0
      (λ _ _. row4)
      row1
      (λ l h. row2 0xa0 0xbf (omega arith) (omega arith) (omega arith) (omega arith) (λ p q. omega arith) (λ p q r. omega arith))
      (λ l h. row2 0x80 0xbf (omega arith) (omega arith) (omega arith) (omega arith) (λ p q. omega arith) (λ p q r. omega arith))
      (λ l h. row2 0x80 0x9f (omega arith) (omega arith) (omega arith) (omega arith) (λ p q. omega arith) (λ p q r. omega arith))
      (λ l h. row2 0x80 0xbf (omega arith) (omega arith) (omega arith) (omega arith) (λ p q. omega arith) (λ p q r. omega arith))
      (λ l h. row3 0x90 0xbf (omega arith) (omega arith) (omega arith) (omega arith) (λ p q. omega arith) (λ p q r. omega arith))
      (λ l h. row3 0x80 0xbf (omega arith) (omega arith) (omega arith) (omega arith) (λ p q. omega arith) (λ p q r. omega arith))
      (λ l h. row3 0x80 0x8f (omega arith) (omega arith) (omega arith) (omega arith) (λ p q. omega arith) (λ p q r. omega arith))
      (λ _. row4)

-- ---- the bytes inside a step

pub record Inner (c d e : ℕ) (t : Step) : Type 0 where
  pub second : 1 < width_of t → IsInner c
  pub third : 2 < width_of t → IsInner d
  pub fourth : 3 < width_of t → IsInner e

-- a step of so many bytes at most
upto1 : (c d e : ℕ) (t : Step) → width_of t ≤ 1 → Inner c d e t
upto1 c d e t h = record {
  second = λ k. absurd (let z : ⊥ = omega arith in z);
  third = λ k. absurd (let z : ⊥ = omega arith in z);
  fourth = λ k. absurd (let z : ⊥ = omega arith in z);
}

upto2 : (c d e : ℕ) (t : Step) → width_of t ≤ 2 → IsInner c → Inner c d e t
upto2 c d e t h p = record {
  second = λ k. p;
  third = λ k. absurd (let z : ⊥ = omega arith in z);
  fourth = λ k. absurd (let z : ⊥ = omega arith in z);
}

upto3 : (c d e : ℕ) (t : Step) → width_of t ≤ 3 → IsInner c → IsInner d → Inner c d e t
upto3 c d e t h p q = record { second = λ k. p; third = λ k. q; fourth = λ k. absurd (let z : ⊥ = omega arith in z) }

pub inner_of : (b c d e : ℕ) → Inner c d e (step_by (lead_of b) b c d e)
inner_of b c d e =
    by_form (Inner c d e) b c d e (record {
      ascii = λ h. upto1 c d e _ (omega arith);
      two = λ l h lc hc. upto2 c d e _ (omega arith) (lc, hc);
      three = λ l h lc hc ld hd big low. upto3 c d e _ (omega arith) (lc, hc) (ld, hd);
      four = λ l h lc hc ld hd le he big low. record { second = λ k. (lc, hc); third = λ k. (ld, hd); fourth = λ k. (le, he) };
      bad1 = upto1 c d e _ (omega arith);
      bad2 = λ lc hc. upto2 c d e _ (omega arith) (lc, hc);
      bad3 = λ lc hc ld hd. upto3 c d e _ (omega arith) (lc, hc) (ld, hd);
    })

-- a place that holds a byte but 0 is inside
pub some-inside : (s : List ℕ) (i : ℕ) → 0 < get_or s i 0 → i < length s
some-inside s i h = go (ltb i (length s)) refl
  where
    go : (t : Bool) → ltb i (length s) ≡ t → i < length s
    go true e = ltb-true i (length s) e
    go false e = let z = get_or-eq_default s 0 {n = i} (ltb-false i (length s) e) in absurd (let y : ⊥ = omega arith in y)
