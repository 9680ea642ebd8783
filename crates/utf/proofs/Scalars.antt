-- Scalar values and their bytes, Table 3-6: what `encode` writes, the front of a list gives back, whatever follows (`encode-unique`).
-- In order: which values are scalar (`is_scalar`); the bytes by a value's size; the value at the front; UTF-16's pairs.
use mathlib.Core.Path.{◌≡◌, refl, sym, ap, ◌∙◌}
use mathlib.Core.Bool.{Bool, true, false, ◌||◌, cond}
use mathlib.Core.List.{List, [], ◌∷◌, ◌++◌}
use Prim.Native.Nat.{ℕ, suc, ◌+◌, ◌-◌, ◌*◌, ◌/◌, ◌%◌, ◌≤◌, ◌<◌}
use native.Mathlib.Omega.{arith}
use borrow.Author.Tests.{lt-ltb, le-ltb, le-leb, lt-leb, ltb-true, ltb-false, leb-true}
use lib.Dec.{leb, ltb}
use lib.ListN.{length, get_or}
use Rattle.utf.specs.declared.Step.TheVariants.{Scalar}
use Rattle.utf.specs.Utf8.{inside, is_scalar, encode}
use Rattle.utf.specs.Utf16.{pair_of}
use Rattle.utf.proofs.Tables.{both_true}

-- ---- which values are scalar

pub inside-ends : (first last n : ℕ) → inside first last n ≡ true → (first ≤ n) × (n ≤ last)
inside-ends first last n e =
    let p = both_true (leb first n) (leb n last) e in
    (leb-true first n p.0, leb-true n last p.1)

pub scalar-low : (v : ℕ) → v < 0xd800 → is_scalar v ≡ true
unfolding is_scalar
scalar-low v h = rw (le-leb v 0xd7ff (omega arith))

pub scalar-high : (v : ℕ) → 0xe000 ≤ v → v < 0x110000 → is_scalar v ≡ true
unfolding is_scalar
scalar-high v l h = rw (lt-leb v 0xd7ff (omega arith), le-leb 0xe000 v l, le-leb v 0x10ffff (omega arith))

-- a scalar value lies below the surrogates or above them
pub by_scalar : (P : Type 0) (v : ℕ) → is_scalar v ≡ true → (v < 0xd800 → P) → (0xe000 ≤ v → v < 0x110000 → P) → P
unfolding is_scalar
by_scalar P v e low high = go (leb v 0xd7ff) refl e
  where
    go : (t : Bool) → leb v 0xd7ff ≡ t → (t || inside 0xe000 0x10ffff v) ≡ true → P
    go true f g = low (let h = leb-true v 0xd7ff f in omega arith)
    go false f g = let p = inside-ends 0xe000 0x10ffff v g in high p.0 (omega arith)

pub is_scalar-lt : (v : ℕ) → is_scalar v ≡ true → v < 0x110000
is_scalar-lt v e = by_scalar (v < 0x110000) v e (λ h. omega arith) (λ l h. h)

-- ---- the bytes, by the size of the value

pub encode_one : (v : ℕ) → v < 0x80 → encode v ≡ v ∷ []
unfolding encode
encode_one v h = rw (lt-ltb v 0x80 h)

pub encode-two : (v : ℕ) → 0x80 ≤ v → v < 0x800 → encode v ≡ (0xc0 + v / 64) ∷ (0x80 + v % 64) ∷ []
unfolding encode
encode-two v l h = rw (le-ltb v 0x80 l, lt-ltb v 0x800 h)

pub encode-three : (v : ℕ) → 0x800 ≤ v → v < 0x10000 → encode v ≡ (0xe0 + v / 4096) ∷ (0x80 + v / 64 % 64) ∷ (0x80 + v % 64) ∷ []
unfolding encode
encode-three v l h = rw (le-ltb v 0x80 (omega arith), le-ltb v 0x800 l, lt-ltb v 0x10000 h)

pub encode-four : (v : ℕ) → 0x10000 ≤ v
    → encode v ≡ (0xf0 + v / 262144) ∷ (0x80 + v / 4096 % 64) ∷ (0x80 + v / 64 % 64) ∷ (0x80 + v % 64) ∷ []
unfolding encode
encode-four v l = rw (le-ltb v 0x80 (omega arith), le-ltb v 0x800 (omega arith), le-ltb v 0x10000 l)

-- a fact about a value, by its size
pub by_size : (P : Type 0) (v : ℕ) → (v < 0x80 → P) → (0x80 ≤ v → v < 0x800 → P) → (0x800 ≤ v → v < 0x10000 → P) → (0x10000 ≤ v → P) → P
by_size P v p1 p2 p3 p4 = go (ltb v 0x80) refl (ltb v 0x800) refl (ltb v 0x10000) refl
  where
    go : (a : Bool) → ltb v 0x80 ≡ a → (b : Bool) → ltb v 0x800 ≡ b → (c : Bool) → ltb v 0x10000 ≡ c → P
    go true e b f c g = p1 (ltb-true v 0x80 e)
    go false e true f c g = p2 (ltb-false v 0x80 e) (ltb-true v 0x800 f)
    go false e false f true g = p3 (ltb-false v 0x800 f) (ltb-true v 0x10000 g)
    go false e false f false g = p4 (ltb-false v 0x10000 g)

pub encode-length-le : (v : ℕ) → length (encode v) ≤ 4
encode-length-le v =
    by_size (length (encode v) ≤ 4) v
    (λ h. rw (encode_one v h) (omega arith))
    (λ l h. rw (encode-two v l h) (omega arith))
    (λ l h. rw (encode-three v l h) (omega arith))
    (λ l. rw (encode-four v l) (omega arith))

pub encode-length-lt : (v : ℕ) → 0 < length (encode v)
encode-length-lt v =
    by_size (0 < length (encode v)) v
    (λ h. rw (encode_one v h) (omega arith))
    (λ l h. rw (encode-two v l h) (omega arith))
    (λ l h. rw (encode-three v l h) (omega arith))
    (λ l. rw (encode-four v l) (omega arith))

-- where the bytes of a value go
pub add-two : (n : ℕ) → n + 2 ≡ suc (suc n)
add-two n = omega arith

pub add-three : (n : ℕ) → n + 3 ≡ suc (suc (suc n))
add-three n = omega arith

-- ---- the value at the front of a list

front_by : ℕ → ℕ → ℕ → ℕ → ℕ
front_by a b c d =
    cond (ltb a 0x80) a
    (cond (ltb a 0xe0) ((a - 0xc0) * 64 + (b - 0x80))
    (cond (ltb a 0xf0) ((a - 0xe0) * 4096 + (b - 0x80) * 64 + (c - 0x80))
    ((a - 0xf0) * 262144 + (b - 0x80) * 4096 + (c - 0x80) * 64 + (d - 0x80))))

front_of : List ℕ → ℕ
front_of s = front_by (get_or s 0 0) (get_or s 1 0) (get_or s 2 0) (get_or s 3 0)

front_of-encode : (v : ℕ) (s : List ℕ) → front_of (encode v ++ s) ≡ v
unfolding front_of front_by
front_of-encode v s =
    by_size (front_of (encode v ++ s) ≡ v) v
    (λ h. rw (encode_one v h, lt-ltb v 0x80 h))
    (λ l h. rw (encode-two v l h, le-ltb (0xc0 + v / 64) 0x80 (omega arith), lt-ltb (0xc0 + v / 64) 0xe0 (omega arith)) (omega arith))
    (λ l h.
    let a = 0xe0 + v / 4096 in
    rw (encode-three v l h, le-ltb a 0x80 (omega arith), le-ltb a 0xe0 (omega arith), lt-ltb a 0xf0 (omega arith)) (omega arith))
    (λ l.
    let a = 0xf0 + v / 262144 in
    rw (encode-four v l, le-ltb a 0x80 (omega arith), le-ltb a 0xe0 (omega arith), le-ltb a 0xf0 (omega arith)) (omega (arith, high, low)))
  where
    high : v / 262144 * 262144 + v / 4096 % 64 * 4096 + v % 4096 ≡ v
    high = omega arith

    low : v / 64 % 64 * 64 + v % 64 ≡ v % 4096
    low = omega arith

-- encoding is injective, and no value's bytes begin another's
pub encode-unique : (u v : ℕ) (x y : List ℕ) → encode u ++ x ≡ encode v ++ y → u ≡ v
encode-unique u v x y e = sym (front_of-encode u x) ∙ ap front_of e ∙ front_of-encode v y

-- ---- UTF-16: the two units of a value from 10000 on are a pair, and spell it (Table 3-5)
pub pair_of-back : (v : ℕ) → v < 0x100000 → pair_of (0xd800 + v / 1024) (0xdc00 + v % 1024) ≡ Scalar (0x10000 + v) 4
unfolding pair_of
pair_of-back v h =
    let e : 0x10000 + (0xd800 + v / 1024 - 0xd800) * 1024 + (0xdc00 + v % 1024 - 0xdc00) ≡ 0x10000 + v = omega arith in
    rw (
      le-leb 0xd800 (0xd800 + v / 1024) (omega arith),
      le-leb (0xd800 + v / 1024) 0xdbff (omega arith),
      le-leb 0xdc00 (0xdc00 + v % 1024) (omega arith),
      le-leb (0xdc00 + v % 1024) 0xdfff (omega arith),
    ) (ap (λ (n : ℕ). Scalar n 4) e)
