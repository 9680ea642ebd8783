-- What `encode` wrote of a scalar value is read again, whatever follows (`step8-encode`): the first byte says the row, and in each row the
-- value is large enough not to be overlong and is no surrogate.
use mathlib.Core.Path.{◌≡◌, ap, ◌∙◌}
use mathlib.Core.Bool.{true}
use mathlib.Core.List.{List, ◌∷◌, ◌++◌}
use Prim.Native.Nat.{ℕ, ◌+◌, ◌*◌, ◌/◌, ◌%◌, ◌≤◌, ◌<◌}
use native.Mathlib.Omega.{arith}
use borrow.Author.Tests.{le-leb}
use lib.ListN.{length, get_or}
use Rattle.utf.specs.declared.Step.TheVariants.{Scalar}
use Rattle.utf.specs.declared.utf8.Lead.{Lead}
use Rattle.utf.specs.Utf8.{is_scalar, encode, step8}
use Rattle.utf.specs.Inner.Lead.{row, step_by}
use Rattle.utf.proofs.Leads.{by-lead, step8-lead, step8-ascii}
use Rattle.utf.proofs.Scalars.{by_scalar, is_scalar-lt, by_size, encode_one, encode-two, encode-three, encode-four}

none : (P : Type 0) → ⊥ → P
none P z = absurd z

-- ---- a row whose bytes are there

by_two : (a b c d v lo hi : ℕ) → lo ≤ b → b ≤ hi → a % 32 * 64 + b % 64 ≡ v → step_by (row 1 lo hi) a b c d ≡ Scalar v 2
unfolding step_by
by_two a b c d v lo hi l h e = rw (le-leb lo b l, le-leb b hi h) (ap (λ (n : ℕ). Scalar n 2) e)

by_three : (a b c d v lo hi : ℕ) → lo ≤ b → b ≤ hi → 0x80 ≤ c → c ≤ 0xbf → a % 16 * 4096 + b % 64 * 64 + c % 64 ≡ v
    → step_by (row 2 lo hi) a b c d ≡ Scalar v 3
unfolding step_by
by_three a b c d v lo hi l h m n e = rw (le-leb lo b l, le-leb b hi h, le-leb 0x80 c m, le-leb c 0xbf n) (ap (λ (n : ℕ). Scalar n 3) e)

by-four : (a b c d v lo hi : ℕ) → lo ≤ b → b ≤ hi → 0x80 ≤ c → c ≤ 0xbf → 0x80 ≤ d → d ≤ 0xbf
    → a % 8 * 262144 + b % 64 * 4096 + c % 64 * 64 + d % 64 ≡ v → step_by (row 3 lo hi) a b c d ≡ Scalar v 4
unfolding step_by
by-four a b c d v lo hi l h m n o p e =
    rw (le-leb lo b l, le-leb b hi h, le-leb 0x80 c m, le-leb c 0xbf n, le-leb 0x80 d o, le-leb d 0xbf p) (ap (λ (n : ℕ). Scalar n 4) e)

-- ---- by the size of the value, of which each byte after the first has six bits

two-read : (x y v : ℕ) (s : List ℕ) → y < 64 → x * 64 + y ≡ v → 0x80 ≤ v → v < 0x800 → step8 ((0xc0 + x) ∷ (0x80 + y) ∷ s) ≡ Scalar v 2
two-read x y v s hy is l h =
    let a = 0xc0 + x in
    let b = 0x80 + y in
    let e : a % 32 * 64 + b % 64 ≡ v = omega arith in
    let G : Lead → Type 0 = λ r. step_by r a b (get_or s 0 0) (get_or s 1 0) ≡ Scalar v 2 in
    step8-lead a (b ∷ s)
    ∙ by-lead G a
    (λ p. none _ (omega arith))
    (λ p q. none _ (omega arith))
    (λ p q. by_two a b (get_or s 0 0) (get_or s 1 0) v 0x80 0xbf (omega arith) (omega arith) e)
    (λ p q. none _ (omega arith))
    (λ p q. none _ (omega arith))
    (λ p q. none _ (omega arith))
    (λ p q. none _ (omega arith))
    (λ p q. none _ (omega arith))
    (λ p q. none _ (omega arith))
    (λ p q. none _ (omega arith))
    (λ p. none _ (omega arith))

three-read : (x y z v : ℕ) (s : List ℕ) → y < 64 → z < 64 → x * 4096 + y * 64 + z ≡ v → 0x800 ≤ v → v < 0x10000 → is_scalar v ≡ true
    → step8 ((0xe0 + x) ∷ (0x80 + y) ∷ (0x80 + z) ∷ s) ≡ Scalar v 3
three-read x y z v s hy hz is l h k =
    let a = 0xe0 + x in
    let b = 0x80 + y in
    let c = 0x80 + z in
    let e : a % 16 * 4096 + b % 64 * 64 + c % 64 ≡ v = omega arith in
    let G : Lead → Type 0 = λ r. step_by r a b c (get_or s 0 0) ≡ Scalar v 3 in
    let low : 0xed ≤ a → a < 0xee → v < 0xd800 = λ p q. by_scalar (v < 0xd800) v k (λ h. h) (λ l h. none _ (omega arith)) in
    step8-lead a (b ∷ c ∷ s)
    ∙ by-lead G a
    (λ p. none _ (omega arith))
    (λ p q. none _ (omega arith))
    (λ p q. none _ (omega arith))
    (λ p q. by_three a b c (get_or s 0 0) v 0xa0 0xbf (omega arith) (omega arith) (omega arith) (omega arith) e)
    (λ p q. by_three a b c (get_or s 0 0) v 0x80 0xbf (omega arith) (omega arith) (omega arith) (omega arith) e)
    (λ p q. by_three a b c (get_or s 0 0) v 0x80 0x9f (omega arith) (omega (arith, low p q)) (omega arith) (omega arith) e)
    (λ p q. by_three a b c (get_or s 0 0) v 0x80 0xbf (omega arith) (omega arith) (omega arith) (omega arith) e)
    (λ p q. none _ (omega arith))
    (λ p q. none _ (omega arith))
    (λ p q. none _ (omega arith))
    (λ p. none _ (omega arith))

four-value : (x y z w v : ℕ) → y < 64 → z < 64 → w < 64 → x * 262144 + y * 4096 + z * 64 + w ≡ v → v < 0x110000
    → (0xf0 + x) % 8 * 262144 + (0x80 + y) % 64 * 4096 + (0x80 + z) % 64 * 64 + (0x80 + w) % 64 ≡ v
four-value x y z w v hy hz hw is h =
    let ex : (0xf0 + x) % 8 ≡ x = omega arith in
    let ey : (0x80 + y) % 64 ≡ y = omega arith in
    let ez : (0x80 + z) % 64 ≡ z = omega arith in
    let ew : (0x80 + w) % 64 ≡ w = omega arith in
    rw (ex, ey, ez, ew) is

four-read : (x y z w v : ℕ) (s : List ℕ) → y < 64 → z < 64 → w < 64 → x * 262144 + y * 4096 + z * 64 + w ≡ v → 0x10000 ≤ v → v < 0x110000
    → step8 ((0xf0 + x) ∷ (0x80 + y) ∷ (0x80 + z) ∷ (0x80 + w) ∷ s) ≡ Scalar v 4
four-read x y z w v s hy hz hw is l h =
    let a = 0xf0 + x in
    let b = 0x80 + y in
    let c = 0x80 + z in
    let d = 0x80 + w in
    let e = four-value x y z w v hy hz hw is h in
    let G : Lead → Type 0 = λ r. step_by r a b c d ≡ Scalar v 4 in
    step8-lead a (b ∷ c ∷ d ∷ s)
    ∙ by-lead G a
    (λ p. none _ (omega arith))
    (λ p q. none _ (omega arith))
    (λ p q. none _ (omega arith))
    (λ p q. none _ (omega arith))
    (λ p q. none _ (omega arith))
    (λ p q. none _ (omega arith))
    (λ p q. none _ (omega arith))
    (λ p q. by-four a b c d v 0x90 0xbf (omega arith) (omega arith) (omega arith) (omega arith) (omega arith) (omega arith) e)
    (λ p q. by-four a b c d v 0x80 0xbf (omega arith) (omega arith) (omega arith) (omega arith) (omega arith) (omega arith) e)
    (λ p q. by-four a b c d v 0x80 0x8f (omega arith) (omega arith) (omega arith) (omega arith) (omega arith) (omega arith) e)
    (λ p. none _ (omega arith))

high_bits : (v : ℕ) → v / 262144 * 262144 + v / 4096 % 64 * 4096 + v % 4096 ≡ v
high_bits v = omega arith

low_bits : (v : ℕ) → v / 64 % 64 * 64 + v % 64 ≡ v % 4096
low_bits v = omega arith

pub step8-encode : (v : ℕ) (s : List ℕ) → is_scalar v ≡ true → step8 (encode v ++ s) ≡ Scalar v (length (encode v))
step8-encode v s k =
    by_size (step8 (encode v ++ s) ≡ Scalar v (length (encode v))) v
    (λ h. rw (encode_one v h) (step8-ascii v s h))
    (λ l h. rw (encode-two v l h) (two-read (v / 64) (v % 64) v s (omega arith) (omega arith) l h))
    (λ l h. rw (encode-three v l h) (three-read (v / 4096) (v / 64 % 64) (v % 64) v s (omega arith) (omega arith) (omega (arith, low_bits v)) l h k))
    (λ l. rw (encode-four v l)
    (four-read (v / 262144) (v / 4096 % 64) (v / 64 % 64) (v % 64) v s (omega arith) (omega arith) (omega arith)
    (omega (arith, high_bits v, low_bits v)) l (is_scalar-lt v k)))
