-- What hexadecimal digits stand for: a word is read back from its eight digits, so that two words never share them. No contract cites this file.
use Prim.Native.Nat.{ℕ, zero, suc, ◌+◌, ◌*◌, ◌^◌, ◌/◌, ◌%◌, ◌≤◌, ◌<◌}
use mathlib.Core.Path.{◌≡◌, refl, sym, ◌∙◌, ap}
use mathlib.Core.Bool.{Bool, true, false}
use mathlib.Core.List.{List, [], ◌∷◌, ◌++◌}
use native.Mathlib.Omega.{arith}
use native.Mathlib.Nat.{pow-suc}
use borrow.Author.Tests.{lt-ltb, le-ltb, ltb-true, ltb-false}
use lib.Dec.{ltb}
use lib.ListN.{length, length-append}
use Rattle.digits.proofs.Back.{hex_value, hex_from}
use Rattle.digits.specs.Digits.{hex_digit, hex_digits, hex_text}
use Rattle.digits.proofs.Laws.{hex_digits-suc}

-- all k digits, also those that are 0
pub length-hex_digits : (k n : ℕ) → length (hex_digits k n) ≡ k
unfolding hex_digits
length-hex_digits zero n = refl
length-hex_digits (suc k) n = rw (length-append, length-hex_digits k (n / 16)) (omega arith)

hex_value-back : (d : ℕ) → d < 16 → hex_value (hex_digit d) ≡ d
hex_value-back d h = go (ltb d 10) refl where
  go : (t : Bool) → ltb d 10 ≡ t → hex_value (hex_digit d) ≡ d
  go true e = let l : d < 10 = ltb-true d 10 e in rw (e, lt-ltb (48 + d) 97 (omega arith)) (omega arith)
  go false e = let l : 10 ≤ d = ltb-false d 10 e in rw (e, le-ltb (87 + d) 97 (omega arith)) (omega arith)

hex_from-append : (v d : ℕ) (ds : List ℕ) → hex_from v (ds ++ (d ∷ [])) ≡ hex_from v ds * 16 + hex_value d
unfolding hex_from
hex_from-append v d [] = refl
hex_from-append v d (x ∷ ds) = hex_from-append (v * 16 + hex_value x) d ds

none-back : (n : ℕ) → n ≡ 0 → hex_from 0 (hex_digits 0 n) ≡ n
unfolding hex_from hex_digits
none-back n e = sym e

pub hex_digits-back : (k n : ℕ) → n < 16 ^ k → hex_from 0 (hex_digits k n) ≡ n
hex_digits-back zero n h = none-back n (let e : n < 1 = h in omega arith)
hex_digits-back (suc k) n h =
    let e : n < 16 ^ k * 16 = rw (pow-suc 16 k) at h in
    rw (
      hex_digits-suc k n,
      hex_from-append 0 (hex_digit (n % 16)) (hex_digits k (n / 16)),
      hex_digits-back k (n / 16) (omega arith),
      hex_value-back (n % 16) (omega arith),
    )
    (omega arith)

pub hex_text-back : (n : ℕ) → n < 16 ^ 8 → hex_from 0 (hex_text n) ≡ n
hex_text-back n h = hex_digits-back 8 n h

pub hex_text-unique : (a b : ℕ) → a < 16 ^ 8 → b < 16 ^ 8 → hex_text a ≡ hex_text b → a ≡ b
hex_text-unique a b ha hb e = sym (hex_text-back a ha) ∙ ap (hex_from 0) e ∙ hex_text-back b hb
