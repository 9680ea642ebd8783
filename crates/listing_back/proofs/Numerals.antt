-- A number as text: what is printed is taken, whatever follows it, and what is taken is what is printed. No contract cites this file.
use Prim.Native.Nat.{ℕ, suc, ◌+◌, ◌-◌, ◌*◌, ◌^◌, ◌/◌, ◌%◌, ◌≤◌, ◌<◌}
use mathlib.Core.Path.{◌≡◌, refl, sym, ap, ◌∙◌}
use mathlib.Core.Bool.{Bool, true, false, cond, ◌&&◌}
use mathlib.Core.List.{List, [], ◌∷◌, ◌++◌, append_assoc}
use native.Mathlib.Omega.{arith}
use borrow.Author.Tests.{le-leb, leb-true, ne_eqb, eqb-true, eqb-false}
use lib.Dec.{leb, eqb}
use lib.ListN.{get_or}
use Rattle.digits.specs.Digits.{digits, decimal}
use Rattle.digits.proofs.Back.{number_from}
use Rattle.digits.proofs.Laws.{digits_lt, digits-suc}
use Rattle.digits.proofs.Decimal.{digits-ind, digits-enough, decimal-lt, decimal-back, get_d-decimal-lt}
use Rattle.listing_back.specs.Forms.{nothing, number, is_digit, digits_from, number_at_front}

pub both : (a b : Bool) → (a && b) ≡ true → (a ≡ true) × (b ≡ true)
both true b h = (refl, h)
both false b h = absurd (let z : ◌≡◌ {A = ℕ} 0 1 = cc in let y : ⊥ = omega arith in y)

-- ---- what is printed is taken

data AllDigits : List ℕ → Type 0 where
  none : AllDigits []
  one : {d : ℕ} {ds : List ℕ} → is_digit d ≡ true → AllDigits ds → AllDigits (d ∷ ds)

all_snoc : {ds : List ℕ} (d : ℕ) → AllDigits ds → is_digit d ≡ true → AllDigits (ds ++ (d ∷ []))
all_snoc d none h = one h none
all_snoc d (one p a) h = one p (all_snoc d a h)

is_digit-last : (n : ℕ) → is_digit (48 + n % 10) ≡ true
is_digit-last n =
    let p : 48 ≤ 48 + n % 10 = omega arith in
    let q : 48 + n % 10 ≤ 57 = omega arith in
    rw (le-leb 48 (48 + n % 10) p, le-leb (48 + n % 10) 57 q)

digits-all : (k n : ℕ) → n < 10 ^ suc k → AllDigits (digits k n)
digits-all =
    digits-ind (λ k n. AllDigits (digits k n))
    (λ k n s. rw (digits_lt k n s) (one (is_digit-last n) none))
    (λ k n s p. rw (digits-suc k n s) (all_snoc (48 + n % 10) p (is_digit-last n)))

digits_from-all : {ds : List ℕ} (v : ℕ) (r : List ℕ) → AllDigits ds → digits_from v (ds ++ r) ≡ digits_from (number_from v ds) r
unfolding digits_from number_from
digits_from-all v r none = refl
digits_from-all v r (one {d} e a) = rw e (digits_from-all (v * 10 + (d - 48)) r a)

digits_from-stop : (v e : ℕ) (r : List ℕ) → is_digit e ≡ false → digits_from v (e ∷ r) ≡ number v (e ∷ r)
unfolding digits_from
digits_from-stop v e r h = rw h

number-open : (d : ℕ) (s : List ℕ) → is_digit d ≡ true → eqb d 48 ≡ false → number_at_front (d ∷ s) ≡ digits_from 0 (d ∷ s)
unfolding number_at_front
number-open d s p q = rw (q, p)

number-zero : (e : ℕ) (r : List ℕ) → is_digit e ≡ false → number_at_front (48 ∷ e ∷ r) ≡ number 0 (e ∷ r)
unfolding number_at_front
number-zero e r i = rw i

taken-positive :
    (n e : ℕ) (r ds : List ℕ) → AllDigits ds → number_from 0 ds ≡ n → 48 < get_or ds 0 0 → is_digit e ≡ false → number_at_front (ds ++ (e ∷ r)) ≡ number n (e ∷ r)
taken-positive n e r [] none b h i = absurd (let z : ⊥ = omega arith in z)
taken-positive n e r (d ∷ ds) (one p a) b h i =
    let q : eqb d 48 ≡ false = ne_eqb d 48 (λ x. let z : ⊥ = omega arith in z) in
    number-open d (ds ++ (e ∷ r)) p q ∙ (digits_from-all 0 (e ∷ r) (one p a) ∙ (rw b (digits_from-stop n e r i)))

-- TAKEN BEHIND PRINTED
pub number-taken : (n e : ℕ) (r : List ℕ) → n < 10 ^ 20 → is_digit e ≡ false → number_at_front (decimal n ++ (e ∷ r)) ≡ number n (e ∷ r)
number-taken n e r h i = go (eqb n 0) refl where
  go : (t : Bool) → eqb n 0 ≡ t → number_at_front (decimal n ++ (e ∷ r)) ≡ number n (e ∷ r)
  go true z =
      let p : n ≡ 0 = eqb-true n 0 z in
      rw (p, decimal-lt 0 (omega arith)) (number-zero e r i)
  go false z = taken-positive n e r (decimal n) (digits-all 19 n h) (decimal-back n h) (get_d-decimal-lt n h (positive n (eqb-false n 0 z))) i where
    positive : (n : ℕ) → (n ≡ 0 → ⊥) → 0 < n
    positive n f = omega arith

-- ---- what is taken is what is printed

digits_from-le : (v : ℕ) (s : List ℕ) {n : ℕ} {r : List ℕ} → digits_from v s ≡ number n r → v ≤ n
unfolding digits_from
digits_from-le v [] {n} {r} e = let p : v ≡ n = cc in omega arith
digits_from-le v (b ∷ s) {n} {r} e = go (is_digit b) (λ f. digits_from-le (v * 10 + (b - 48)) s f) e where
  go :
      (t : Bool) → (digits_from (v * 10 + (b - 48)) s ≡ number n r → v * 10 + (b - 48) ≤ n) →
      cond t (digits_from (v * 10 + (b - 48)) s) (number v (b ∷ s)) ≡ number n r → v ≤ n
  go true i f = let p = i f in omega arith
  go false i f = let p : v ≡ n = cc in omega arith

decimal-more : (v b : ℕ) → 0 < v → v < 10 ^ 19 → is_digit b ≡ true → decimal (v * 10 + (b - 48)) ≡ decimal v ++ (b ∷ [])
decimal-more v b z h e =
    let p = both (leb 48 b) (leb b 57) e in
    let lo = leb-true 48 b p.0 in
    let hi = leb-true b 57 p.1 in
    let m : ℕ = v * 10 + (b - 48) in
    let q : m / 10 ≡ v = omega arith in
    let r : 48 + m % 10 ≡ b = omega arith in
    digits-suc 18 m (omega arith) ∙ rw (q, r, digits-enough 18 v h 19 (omega arith))

digits-read : (v : ℕ) (s : List ℕ) {n : ℕ} {r : List ℕ} → 0 < v → n < 10 ^ 20 → digits_from v s ≡ number n r → decimal v ++ s ≡ decimal n ++ r
unfolding digits_from
digits-read v [] {n} {r} z h e = cc
digits-read v (b ∷ s) {n} {r} z h e = go (is_digit b) refl (λ f. digits-read (v * 10 + (b - 48)) s (omega arith) h f) e where
  go :
      (t : Bool) → is_digit b ≡ t → (digits_from (v * 10 + (b - 48)) s ≡ number n r → decimal (v * 10 + (b - 48)) ++ s ≡ decimal n ++ r) →
      cond t (digits_from (v * 10 + (b - 48)) s) (number v (b ∷ s)) ≡ number n r → decimal v ++ (b ∷ s) ≡ decimal n ++ r
  go true p i f =
      let l = digits_from-le (v * 10 + (b - 48)) s f in
      sym (append_assoc (decimal v) (b ∷ []) s) ∙ (ap (λ (x : List ℕ). x ++ s) (sym (decimal-more v b z (omega arith) p)) ∙ i f)
  go false p i f = cc

digits_from-first : (b : ℕ) (s : List ℕ) → is_digit b ≡ true → digits_from 0 (b ∷ s) ≡ digits_from (b - 48) s
unfolding digits_from
digits_from-first b s h = rw h (ap (λ (v : ℕ). digits_from v s) (let e : 0 * 10 + (b - 48) ≡ b - 48 = omega arith in e))

zero-printed : (b n : ℕ) (s r : List ℕ) → b ≡ 48 → n ≡ 0 → s ≡ r → b ∷ s ≡ decimal n ++ r
zero-printed b n s r p q e = rw (p, q, e, decimal-lt 0 (omega arith))

digits-printed : (b n : ℕ) (s r : List ℕ) → is_digit b ≡ true → (b ≡ 48 → ⊥) → n < 10 ^ 20 → digits_from 0 (b ∷ s) ≡ number n r → b ∷ s ≡ decimal n ++ r
digits-printed b n s r e z h f =
    let p = both (leb 48 b) (leb b 57) e in
    let lo = leb-true 48 b p.0 in
    let hi = leb-true b 57 p.1 in
    let v : ℕ = b - 48 in
    let g : 48 + v ≡ b = omega arith in
    let i : 0 < v = positive b lo z in
    sym (ap (λ (x : List ℕ). x ++ s) (decimal-lt v (omega arith) ∙ ap (λ (x : ℕ). x ∷ []) g)) ∙
    digits-read v s i h (sym (digits_from-first b s e) ∙ f) where
      positive : (b : ℕ) → 48 ≤ b → (b ≡ 48 → ⊥) → 0 < b - 48
      positive b l n = omega arith

-- PRINTED BEHIND TAKEN
pub number-printed : (s : List ℕ) {n : ℕ} {r : List ℕ} → n < 10 ^ 20 → number_at_front s ≡ number n r → s ≡ decimal n ++ r
unfolding number_at_front
number-printed [] h e = absurd (let z : ◌≡◌ {A = ℕ} 0 1 = cc in let y : ⊥ = omega arith in y)
number-printed (b ∷ s) {n} {r} h e = go (eqb b 48) refl (is_digit (get_or s 0 0)) (is_digit b) refl e where
  go :
      (t : Bool) → eqb b 48 ≡ t → (u w : Bool) → is_digit b ≡ w →
      cond t (cond u nothing (number 0 s)) (cond w (digits_from 0 (b ∷ s)) nothing) ≡ number n r → b ∷ s ≡ decimal n ++ r
  go true p true w q f = absurd (let z : ◌≡◌ {A = ℕ} 0 1 = cc in let y : ⊥ = omega arith in y)
  go true p false w q f = zero-printed b n s r (eqb-true b 48 p) (let x : n ≡ 0 = cc in x) (let x : s ≡ r = cc in x)
  go false p u true q f = digits-printed b n s r q (eqb-false b 48 p) h f
  go false p u false q f = absurd (let z : ◌≡◌ {A = ℕ} 0 1 = cc in let y : ⊥ = omega arith in y)
