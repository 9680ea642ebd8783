-- How long a text is at least, and that a text is not that of far fewer bytes. No contract cites this file.
--
--   bytes_of-length-ge   a step has at most four bytes and makes at least one, so the text of n bytes that are not refused has n / 4 or more
--   text_of-far          bytes have another text than bytes of UTF-8 of which there are some, and less than a sixteenth as many
use mathlib.Core.Path.{◌≡◌, refl, sym, ap, ◌∙◌}
use mathlib.Core.Bool.{Bool, true, false, cond}
use mathlib.Core.List.{List, [], ◌∷◌}
use Prim.Native.Nat.{ℕ, zero, suc, ◌+◌, ◌-◌, ◌*◌, ◌/◌, ◌≤◌, ◌<◌}
use native.Mathlib.Omega.{arith}
use lib.Dec.{ltb}
use lib.ListN.{length, length-append}
use Rattle.utf.specs.declared.Step.{Step}
use Rattle.utf.specs.Utf8.{encode, inside}
use Rattle.utf.specs.Utf16.{unit, pair_of, step16}
use Rattle.utf.specs.Text.{step_of, step_value, width_of, steps_after, steps_of, bytes_of, refused, text_of, eq_bytes}
use Rattle.utf.proofs.Scalars.{encode-length-lt}
use Rattle.utf.proofs.Sound8.{step8-is}
use Rattle.utf.proofs.Equal.{eq_bytes-not}
use Rattle.utf.proofs.Laws.{bytes_of-length-le}
use Rattle.utf.proofs.Turns.{bytes_of-some, text_of-refused, text_of-kept}

-- ---- a step has at most four bytes

by-test : (t : Bool) (x y : Step) → width_of x ≤ 4 → width_of y ≤ 4 → width_of (cond t x y) ≤ 4
by-test true x y p q = p
by-test false x y p q = q

pair-width : (u w : ℕ) → width_of (pair_of u w) ≤ 4
unfolding pair_of
pair-width u w =
    by-test (inside 0xd800 0xdbff u) _ _ (by-test (inside 0xdc00 0xdfff w) _ _ (omega arith) (omega arith))
    (by-test (inside 0xdc00 0xdfff u) _ _ (omega arith) (omega arith))

step16-width : (s : List ℕ) → width_of (step16 s) ≤ 4
unfolding step16
step16-width s = by-test (ltb 1 (length s)) _ _ (pair-width (unit s 0) (unit s 2)) (by-test (ltb 0 (length s)) _ _ (omega arith) (omega arith))

step-width : (utf16 : Bool) (b : ℕ) (s : List ℕ) → width_of (step_of utf16 (b ∷ s)) ≤ 4
step-width false b s = (step8-is b s).most
step-width true b s = step16-width (b ∷ s)

-- ---- so that a text is not much shorter than its bytes

least-after : (utf16 : Bool) (k : ℕ) (s : List ℕ) → length s ≤ k + 4 * length (bytes_of (steps_after utf16 k s))
unfolding steps_after bytes_of
least-after utf16 k [] = omega arith
least-after utf16 zero (a ∷ s) =
    let t = step_of utf16 (a ∷ s) in
    let r = bytes_of (steps_after utf16 (width_of t - 1) s) in
    omega (arith, length-append (encode (step_value t)) r, encode-length-lt (step_value t), least-after utf16 (width_of t - 1) s, step-width utf16 a s)
least-after utf16 (suc k) (a ∷ s) = omega (arith, least-after utf16 k s)

pub bytes_of-length-ge : (utf16 : Bool) (s : List ℕ) → length s ≤ 4 * length (bytes_of (steps_of utf16 s))
bytes_of-length-ge utf16 s = let z = least-after utf16 0 s in omega (arith, z)

pub text_of-far : (utf16 : Bool) (a b : List ℕ) → 0 < length b → 16 * length b < length a
    → (eq_bytes (text_of utf16 a) (text_of false b) ≡ false) × (eq_bytes (text_of false b) (text_of utf16 a) ≡ false)
text_of-far utf16 a b some far = (eq_bytes-not _ _ other, eq_bytes-not _ _ (λ e. other (sym e)))
  where
    other : text_of utf16 a ≡ text_of false b → ⊥
    other e = go (refused utf16 a) refl
      where
        short : length (text_of false b) ≤ 4 * length b
        short = rw (text_of-kept false b refl) (bytes_of-length-le false b)

        there : 0 < length (text_of false b)
        there = rw (text_of-kept false b refl) (bytes_of-some false b some)

        go : (t : Bool) → refused utf16 a ≡ t → ⊥
        go true r = let z = ap (λ (l : List ℕ). length l) (sym (text_of-refused utf16 a r) ∙ e) in omega (arith, z, there)
        go false k =
            let z = ap (λ (l : List ℕ). length l) (sym (text_of-kept utf16 a k) ∙ e) in
            omega (arith, z, short, bytes_of-length-ge utf16 a, far)

-- the same by the tests that the code makes
pub by_lengths : (utf16 utf16-b : Bool) (a b : List ℕ) → utf16-b ≡ false → (length b ≡ 0 → ⊥) → length b < length a / 16
    → (eq_bytes (text_of utf16 a) (text_of utf16-b b) ≡ false) × (eq_bytes (text_of utf16-b b) (text_of utf16 a) ≡ false)
by_lengths utf16 utf16-b a b e some far = rw e (text_of-far utf16 a b (omega (arith, some)) (omega (arith, far)))
