-- Laws of specs/Inner/HeaderType.antt and specs/ValueType.antt: a type's number is the number that named it (`-back`), and which numbers
-- name a reference. No contract cites this file.
use Prim.Native.Nat.{ℕ}
use mathlib.Core.Path.{◌≡◌, refl, sym, ◌∙◌}
use mathlib.Core.Bool.{Bool, true, false, cond, ◌||◌}
use borrow.Author.Tests.{eqb-true}
use lib.Dec.{eqb}
use Rattle.common.specs.Inner.HeaderType.{header_type_of, header_type_number}
use Rattle.common.specs.ValueType.{value_type_of, value_type_number, is_reference}

-- a number that a function gives for either choice, it gives for the choice
pick : {A : Type 0} (f : A → ℕ) (n k : ℕ) (x y : A) → f x ≡ k → f y ≡ n → f (cond (eqb n k) x y) ≡ n
pick f n k x y p q = go (eqb n k) refl
  where
    go : (b : Bool) → eqb n k ≡ b → f (cond b x y) ≡ n
    go true e = p ∙ sym (eqb-true _ _ e)
    go false e = q

pub header_type_number-back : (n : ℕ) → header_type_number (header_type_of n) ≡ n
unfolding header_type_of header_type_number
header_type_number-back n =
    pick header_type_number n 0x0000 _ _ refl (
    pick header_type_number n 0x0001 _ _ refl (
    pick header_type_number n 0x0002 _ _ refl (
    pick header_type_number n 0x0003 _ _ refl (
    pick header_type_number n 0x0100 _ _ refl (
    pick header_type_number n 0x0101 _ _ refl (
    pick header_type_number n 0x0102 _ _ refl (
    pick header_type_number n 0x0103 _ _ refl (
    pick header_type_number n 0x0104 _ _ refl (
    pick header_type_number n 0x017f _ _ refl (
    pick header_type_number n 0x0180 _ _ refl (
    pick header_type_number n 0x0200 _ _ refl (
    pick header_type_number n 0x0201 _ _ refl (
    pick header_type_number n 0x0202 _ _ refl (
    pick header_type_number n 0x0203 _ _ refl (
    pick header_type_number n 0x0204 _ _ refl (
    pick header_type_number n 0x0205 _ _ refl (
    pick header_type_number n 0x0206 _ _ refl (refl))))))))))))))))))

pub value_type_number-back : (n : ℕ) → value_type_number (value_type_of n) ≡ n
unfolding value_type_of value_type_number
value_type_number-back n =
    pick value_type_number n 0x00 _ _ refl (
    pick value_type_number n 0x01 _ _ refl (
    pick value_type_number n 0x02 _ _ refl (
    pick value_type_number n 0x03 _ _ refl (
    pick value_type_number n 0x04 _ _ refl (
    pick value_type_number n 0x05 _ _ refl (
    pick value_type_number n 0x06 _ _ refl (
    pick value_type_number n 0x07 _ _ refl (
    pick value_type_number n 0x08 _ _ refl (
    pick value_type_number n 0x10 _ _ refl (
    pick value_type_number n 0x11 _ _ refl (
    pick value_type_number n 0x12 _ _ refl (
    pick value_type_number n 0x1c _ _ refl (
    pick value_type_number n 0x1d _ _ refl (
    pick value_type_number n 0x1e _ _ refl (
    pick value_type_number n 0x1f _ _ refl (refl))))))))))))))))

-- by its number: 1 and 7 alone
pub is_reference-number : (n : ℕ) → is_reference (value_type_of n) ≡ eqb n 1 || eqb n 7
unfolding is_reference
is_reference-number n = rw value_type_number-back
