-- A UTF-8 sequence by its first byte: `step8`, which looks through all rows of Table 3-7, is what `lead_of` and `step_by` of specs/Inner/Lead.antt
-- say of the first four bytes (`step8-lead`). In order: a row of one, two or three bytes more, byte by byte; the law; ASCII (`step8-ascii`).
use mathlib.Core.Path.{◌≡◌, refl, ap, ◌∙◌}
use mathlib.Core.Bool.{Bool, true, false, cond}
use mathlib.Core.List.{List, [], ◌∷◌}
use Prim.Native.Nat.{ℕ, ◌≤◌, ◌<◌}
use borrow.Author.Tests.{lt-leb, lt-ltb, ltb-true, ltb-false}
use lib.Dec.{ltb, lit<}
use lib.ListN.{get_or}
use Rattle.utf.specs.declared.Step.TheVariants.{Scalar}
use Rattle.utf.specs.declared.utf8.Lead.{Lead}
use Rattle.utf.specs.Utf8.{inside, matched, is_whole_form, spelt, step8}
use Rattle.utf.specs.Inner.Lead.{row, lead_of, step_by}
use Rattle.utf.proofs.Rows.{longest_rest, any_rest, rests_of, rests-are, step_rests, step8-rests}

-- ---- a row with one, two or three bytes more

-- a byte past the end, which reads as 0, is in no range that begins above 0
inside-zero : (first last : ℕ) → 0 < first → inside first last 0 ≡ false
inside-zero first last h = rw (lt-leb first 0 h)

module _ (first last b : ℕ) (h : 0 < first) where
  rest1 : (s : List ℕ) → step_rests ((first ∷ last ∷ []) ∷ []) b s ≡ step_by (row 1 first last) b (get_or s 0 0) (get_or s 1 0) (get_or s 2 0)
  unfolding step_rests longest_rest any_rest matched is_whole_form spelt step_by
  rest1 [] = rw (inside-zero first last h)
  rest1 (c ∷ s) = go (inside first last c) refl
    where
      go : (x : Bool) → inside first last c ≡ x → step_rests ((first ∷ last ∷ []) ∷ []) b (c ∷ s) ≡ step_by (row 1 first last) b c (get_or s 0 0) (get_or s 1 0)
      go true e = rw e
      go false e = rw e

  rest2 : (s : List ℕ) → step_rests ((first ∷ last ∷ 0x80 ∷ 0xbf ∷ []) ∷ []) b s ≡ step_by (row 2 first last) b (get_or s 0 0) (get_or s 1 0) (get_or s 2 0)
  unfolding step_rests longest_rest any_rest matched is_whole_form spelt step_by
  rest2 [] = rw (inside-zero first last h)
  rest2 (c ∷ []) = go (inside first last c) refl
    where
      go : (x : Bool) → inside first last c ≡ x → step_rests ((first ∷ last ∷ 0x80 ∷ 0xbf ∷ []) ∷ []) b (c ∷ []) ≡ step_by (row 2 first last) b c 0 0
      go true e = rw e
      go false e = rw e
  rest2 (c ∷ d ∷ s) = go (inside first last c) refl (inside 0x80 0xbf d) refl
    where
      go : (x : Bool) → inside first last c ≡ x → (y : Bool) → inside 0x80 0xbf d ≡ y
          → step_rests ((first ∷ last ∷ 0x80 ∷ 0xbf ∷ []) ∷ []) b (c ∷ d ∷ s) ≡ step_by (row 2 first last) b c d (get_or s 0 0)
      go true e true f = rw (e, f)
      go true e false f = rw (e, f)
      go false e y f = rw e

  rest3 : (s : List ℕ)
      → step_rests ((first ∷ last ∷ 0x80 ∷ 0xbf ∷ 0x80 ∷ 0xbf ∷ []) ∷ []) b s ≡ step_by (row 3 first last) b (get_or s 0 0) (get_or s 1 0) (get_or s 2 0)
  unfolding step_rests longest_rest any_rest matched is_whole_form spelt step_by
  rest3 [] = rw (inside-zero first last h)
  rest3 (c ∷ []) = go (inside first last c) refl
    where
      go : (x : Bool) → inside first last c ≡ x
          → step_rests ((first ∷ last ∷ 0x80 ∷ 0xbf ∷ 0x80 ∷ 0xbf ∷ []) ∷ []) b (c ∷ []) ≡ step_by (row 3 first last) b c 0 0
      go true e = rw e
      go false e = rw e
  rest3 (c ∷ d ∷ []) = go (inside first last c) refl (inside 0x80 0xbf d) refl
    where
      go : (x : Bool) → inside first last c ≡ x → (y : Bool) → inside 0x80 0xbf d ≡ y
          → step_rests ((first ∷ last ∷ 0x80 ∷ 0xbf ∷ 0x80 ∷ 0xbf ∷ []) ∷ []) b (c ∷ d ∷ []) ≡ step_by (row 3 first last) b c d 0
      go true e true f = rw (e, f)
      go true e false f = rw (e, f)
      go false e y f = rw e
  rest3 (c ∷ d ∷ a ∷ s) = go (inside first last c) refl (inside 0x80 0xbf d) refl (inside 0x80 0xbf a) refl
    where
      go : (x : Bool) → inside first last c ≡ x → (y : Bool) → inside 0x80 0xbf d ≡ y → (z : Bool) → inside 0x80 0xbf a ≡ z
          → step_rests ((first ∷ last ∷ 0x80 ∷ 0xbf ∷ 0x80 ∷ 0xbf ∷ []) ∷ []) b (c ∷ d ∷ a ∷ s) ≡ step_by (row 3 first last) b c d a
      go true e true f true g = rw (e, f, g)
      go true e true f false g = rw (e, f, g)
      go true e false f z g = rw (e, f)
      go false e y f z g = rw e

rest0 : (b : ℕ) (s : List ℕ) → step_rests ([] ∷ []) b s ≡ step_by (row 0 0 0) b (get_or s 0 0) (get_or s 1 0) (get_or s 2 0)
unfolding step_rests longest_rest any_rest matched is_whole_form spelt step_by
rest0 b s = refl

rest4 : (b : ℕ) (s : List ℕ) → step_rests [] b s ≡ step_by (row 4 0 0) b (get_or s 0 0) (get_or s 1 0) (get_or s 2 0)
unfolding step_rests longest_rest any_rest step_by
rest4 b s = refl

-- ---- the law

-- a fact about the row of a first byte, by the tests of `lead_of`: the first byte lies in the row's range
pub by-lead : (P : Lead → Type 0) (b : ℕ)
    → (b < 0x80 → P (row 0 0 0))
    → (0x80 ≤ b → b < 0xc2 → P (row 4 0 0))
    → (0xc2 ≤ b → b < 0xe0 → P (row 1 0x80 0xbf))
    → (0xe0 ≤ b → b < 0xe1 → P (row 2 0xa0 0xbf))
    → (0xe1 ≤ b → b < 0xed → P (row 2 0x80 0xbf))
    → (0xed ≤ b → b < 0xee → P (row 2 0x80 0x9f))
    → (0xee ≤ b → b < 0xf0 → P (row 2 0x80 0xbf))
    → (0xf0 ≤ b → b < 0xf1 → P (row 3 0x90 0xbf))
    → (0xf1 ≤ b → b < 0xf4 → P (row 3 0x80 0xbf))
    → (0xf4 ≤ b → b < 0xf5 → P (row 3 0x80 0x8f))
    → (0xf5 ≤ b → P (row 4 0 0))
    → P (lead_of b)
unfolding lead_of
by-lead P b at0 at80 c2 e0 e1 ed ee f0 f1 f4 f5 =
    test (ltb b 0x80) (λ e. at0 (ltb-true b 0x80 e))
    (λ n0. test (ltb b 0xc2) (λ e. at80 (ltb-false b 0x80 n0) (ltb-true b 0xc2 e))
    (λ n1. test (ltb b 0xe0) (λ e. c2 (ltb-false b 0xc2 n1) (ltb-true b 0xe0 e))
    (λ n2. test (ltb b 0xe1) (λ e. e0 (ltb-false b 0xe0 n2) (ltb-true b 0xe1 e))
    (λ n3. test (ltb b 0xed) (λ e. e1 (ltb-false b 0xe1 n3) (ltb-true b 0xed e))
    (λ n4. test (ltb b 0xee) (λ e. ed (ltb-false b 0xed n4) (ltb-true b 0xee e))
    (λ n5. test (ltb b 0xf0) (λ e. ee (ltb-false b 0xee n5) (ltb-true b 0xf0 e))
    (λ n6. test (ltb b 0xf1) (λ e. f0 (ltb-false b 0xf0 n6) (ltb-true b 0xf1 e))
    (λ n7. test (ltb b 0xf4) (λ e. f1 (ltb-false b 0xf1 n7) (ltb-true b 0xf4 e))
    (λ n8. test (ltb b 0xf5) (λ e. f4 (ltb-false b 0xf4 n8) (ltb-true b 0xf5 e))
    (λ n9. f5 (ltb-false b 0xf5 n9)))))))))))
  where
    test : (t : Bool) {x y : Lead} → (t ≡ true → P x) → (t ≡ false → P y) → P (cond t x y)
    test true p q = p refl
    test false p q = q refl

pub step8-lead : (b : ℕ) (s : List ℕ) → step8 (b ∷ s) ≡ step_by (lead_of b) b (get_or s 0 0) (get_or s 1 0) (get_or s 2 0)
unfolding rests_of
step8-lead b s = step8-rests b s ∙ ap (λ (rs : List (List ℕ)). step_rests rs b s) (rests-are b) ∙ by_row
  where
    P : Lead → Type 0
    P l = step_rests (rests_of l) b s ≡ step_by l b (get_or s 0 0) (get_or s 1 0) (get_or s 2 0)

    by_row : P (lead_of b)
    by_row =
        by-lead P b
        (λ _. rest0 b s)
        (λ _ _. rest4 b s)
        (λ _ _. rest1 0x80 0xbf b (lit< tt) s)
        (λ _ _. rest2 0xa0 0xbf b (lit< tt) s)
        (λ _ _. rest2 0x80 0xbf b (lit< tt) s)
        (λ _ _. rest2 0x80 0x9f b (lit< tt) s)
        (λ _ _. rest2 0x80 0xbf b (lit< tt) s)
        (λ _ _. rest3 0x90 0xbf b (lit< tt) s)
        (λ _ _. rest3 0x80 0xbf b (lit< tt) s)
        (λ _ _. rest3 0x80 0x8f b (lit< tt) s)
        (λ _. rest4 b s)

pub step8-ascii : (b : ℕ) (s : List ℕ) → b < 0x80 → step8 (b ∷ s) ≡ Scalar b 1
unfolding lead_of step_by
step8-ascii b s h = rw (step8-lead b s, lt-ltb b 0x80 h)
