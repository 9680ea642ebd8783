-- Which units of UTF-16 are chars of a name by themselves (`UnitChar`), a law for each test of src/units.rt, and the units of a block so far.
use mathlib.Core.Path.{◌≡◌, refl, sym, subst, ap, ◌∙◌}
use mathlib.Core.Bool.{Bool, true, false, not}
use mathlib.Core.List.{List}
use Prim.Native.Nat.{ℕ, ◌+◌, ◌*◌, ◌≤◌, ◌<◌}
use native.Mathlib.Omega.{arith}
use borrow.Author.Tests.{leb-true, ltb-true, ltb-false, eqb-false, not-true}
use lib.Dec.{leb, ltb, eqb}
use lib.ListN.{length, get_or}
use Rattle.utf.specs.Utf8.{inside}
use Rattle.utf.proofs.Scalars.{inside-ends}
use Rattle.xml.specs.NCName.{char_sort}
use Rattle.xml.specs.Inner.SeenChars.{ascii_low, far_high, UnitChar}
use Rattle.xml.specs.Inner.NameRun.{IsTable, Seen}
use Rattle.xml.proofs.Sorts.{class_of-ascii}
use Rattle.xml.proofs.Names.{seen-chain, seen-char}
use Rattle.xml.proofs.SeenChars.{latin-char, char-latin, char-mark, char-near, char-far, char-low, unit-far}
use Rattle.xml.proofs.ClearBytes.{char-dot, char-greek, char-joiner, char-tie, char-signs, char-2c00, char-f900, char-fdf0}

-- ---- the high byte 00

pub latin-unit : (b : ℕ) → (char_sort b ≡ 0 → ⊥) → UnitChar b 0
latin-unit b n =
    let e : b + 0 * 256 ≡ b = omega arith in
    record { alone = λ z. omega arith; char = λ z. n (sym (ap char_sort e) ∙ z) }

pub unit-ascii : (b : ℕ) → ascii_low b ≡ true → UnitChar b 0
unit-ascii b e = latin-unit b (char-low b e).1

pub unit-dot : (b : ℕ) → b ≡ 0xb7 → UnitChar b 0
unit-dot b e = latin-unit b (λ z. char-dot (sym (ap char_sort e) ∙ z))

pub unit-letter : (b : ℕ) → b < 256 → 0xc0 ≤ b → (b ≡ 0xd7 → ⊥) → (b ≡ 0xf7 → ⊥) → UnitChar b 0
unit-letter b h l n m = latin-unit b (latin-char b l h n m)

-- ---- a far unit

pub unit_is_far : {b c : ℕ} → b < 256 → far_high c ≡ true → UnitChar b c
unit_is_far {b} {c} h e = let u = unit-far b c h e in record { alone = u.0; char = u.1 }

-- ---- a unit of ASCII, by its class in the table

pub unit_plain : {t : List ℕ} {b c u : ℕ} → IsTable t → u ≡ b + c * 256 → u < 128 → not (eqb (get_or t u 0) 0) ≡ true → UnitChar b c
unit_plain {t} {b} {c} {u} r e h n =
    let a = r.right u (omega arith) ∙ class_of-ascii u h in
    record { alone = λ z. omega arith; char = λ z. eqb-false (get_or t u 0) 0 (not-true _ n) (a ∙ ap char_sort e ∙ z) }

-- ---- a unit that its number tells: U+037F to U+1FFF, U+3001 to U+D7FB

pub unit_near : {b c u : ℕ} → u ≡ b + c * 256 → inside 0x37f 0x1fff u ≡ true → UnitChar b c
unit_near {b} {c} {u} e t =
    let p = inside-ends _ _ u t in
    record { alone = λ z. omega arith; char = char-near (b + c * 256) (omega arith) (omega arith) }

pub unit_told : {b c u : ℕ} → b < 256 → u ≡ b + c * 256 → 0x3001 ≤ u → leb u 0xd7fb ≡ true → UnitChar b c
unit_told {b} {c} {u} h e l t =
    let m = leb-true u _ t in
    record { alone = λ z. omega arith; char = char-far (b + c * 256) (omega arith) (omega arith) }

-- ---- another one

module _ (b c : ℕ) (h : b < 256) where
  pub unit-latin : 0x01 ≤ c → c ≤ 0x02 → UnitChar b c
  unit-latin l m = record { alone = λ z. omega arith; char = char-latin (b + c * 256) (omega arith) (omega arith) }

  -- U+0300 to U+03FF but U+037E
  pub unit-greek : c ≡ 0x03 → (b ≡ 0x7e → ⊥) → UnitChar b c
  unit-greek e n = record { alone = λ z. omega arith; char = go (ltb b 0x70) refl (ltb b 0x7e) refl }
    where
      go : (x : Bool) → ltb b 0x70 ≡ x → (y : Bool) → ltb b 0x7e ≡ y → char_sort (b + c * 256) ≡ 0 → ⊥
      go true f y g = let k = ltb-true b 0x70 f in char-mark (b + c * 256) (omega arith) (omega arith)
      go false f true g = let i = ltb-false b 0x70 f in let k = ltb-true b 0x7e g in char-greek (b + c * 256) (omega arith) (omega arith)
      go false f false g = let k = ltb-false b 0x7e g in char-near (b + c * 256) (omega arith) (omega arith)

  pub unit-joiner : c ≡ 0x20 → 0x0c ≤ b → b ≤ 0x0d → UnitChar b c
  unit-joiner e l m = record { alone = λ z. omega arith; char = char-joiner (b + c * 256) (omega arith) (omega arith) }

  pub unit-tie : c ≡ 0x20 → 0x3f ≤ b → b ≤ 0x40 → UnitChar b c
  unit-tie e l m = record { alone = λ z. omega arith; char = char-tie (b + c * 256) (omega arith) (omega arith) }

  -- U+2070 to U+218F
  pub unit-signs : 0x2070 ≤ b + c * 256 → b + c * 256 ≤ 0x218f → UnitChar b c
  unit-signs l m = record { alone = λ z. omega arith; char = char-signs (b + c * 256) l m }

  -- U+2C00 to U+2FEF
  pub unit-2c00 : 0x2c00 ≤ b + c * 256 → b + c * 256 ≤ 0x2fef → UnitChar b c
  unit-2c00 l m = record { alone = λ z. omega arith; char = char-2c00 (b + c * 256) l m }

  -- U+3001 to U+30FF
  pub unit-kana : c ≡ 0x30 → (b ≡ 0 → ⊥) → UnitChar b c
  unit-kana e n = record { alone = λ z. omega arith; char = char-far (b + c * 256) (omega arith) (omega arith) }

  -- U+F900 to U+FDCF, U+FDF0 to U+FFFD
  pub unit-f900 : 0xf900 ≤ b + c * 256 → b + c * 256 ≤ 0xfdcf → UnitChar b c
  unit-f900 l m = record { alone = λ z. omega arith; char = char-f900 (b + c * 256) l m }

  pub unit-fdf0 : 0xfdf0 ≤ b + c * 256 → b + c * 256 ≤ 0xfffd → UnitChar b c
  unit-fdf0 l m = record { alone = λ z. omega arith; char = char-fdf0 (b + c * 256) l m }

  pub unit-fd : c ≡ 0xfd → (0xd0 ≤ b → b ≤ 0xef → ⊥) → UnitChar b c
  unit-fd e n = go (ltb b 0xd0) refl (ltb 0xef b) refl
    where
      go : (x : Bool) → ltb b 0xd0 ≡ x → (y : Bool) → ltb 0xef b ≡ y → UnitChar b c
      go true f y g = let k = ltb-true b 0xd0 f in unit-f900 (omega arith) (omega arith)
      go false f true g = let k = ltb-true 0xef b g in unit-fdf0 (omega arith) (omega arith)
      go false f false g = absurd (n (ltb-false b 0xd0 f) (ltb-false 0xef b g))

-- ---- units one behind the other

pub units-all : (s : List ℕ) (at n to : ℕ) → to ≡ at + 2 * n → ((k : ℕ) → k < n → at + 2 * k + 1 < length s)
    → ((i : ℕ) → get_or s i 0 < 256) → ((k : ℕ) → k < n → UnitChar (get_or s (at + 2 * k) 0) (get_or s (at + 2 * k + 1) 0)) → Seen true s at to
units-all s at n to e h b p =
    seen-chain true s (λ k. at + 2 * k) n at to (omega arith) (sym e)
    (λ k j l i.
    let u = p k l in
    let z : at + 2 * k + 2 ≡ j = omega arith in
    subst (λ (x : ℕ). Seen true s (at + 2 * k) x) z (seen-char s (at + 2 * k) (h k l) b u.alone u.char))
