-- A step of UTF-8 and its bytes: a sound step is the bytes that `encode` writes of its value, every step has a scalar value and goes on by
-- one to four bytes and never past the end (`Step8Is`, `step8-is`).
-- For a reader of the definitions: `step8-sound` and `step8-width` are Table 3-7 and D93b in a line each.
use mathlib.Core.Path.{◌≡◌, refl, sym, ap, ◌∙◌}
use mathlib.Core.Bool.{Bool, true, false, cond, true≢false}
use mathlib.Core.List.{List, [], ◌∷◌}
use Prim.Native.Nat.{ℕ, zero, suc, ◌+◌, ◌*◌, ◌/◌, ◌%◌, ◌≤◌, ◌<◌, zero-le, suc-le-suc, max}
use native.Mathlib.Nat.{max-le, max-eq_right}
use native.Mathlib.Omega.{arith}
use lib.ListN.{length, get_or, take}
use Rattle.utf.specs.declared.Step.{Step}
use Rattle.utf.specs.declared.Step.TheVariants.{Scalar, Bad}
use Rattle.utf.specs.declared.utf8.Lead.{Lead}
use Rattle.utf.specs.Utf8.{inside, is_scalar, table37, matched, longest, any_whole, encode, step8}
use Rattle.utf.specs.Inner.Lead.{row, lead_of, step_by}
use Rattle.utf.specs.Text.{step_value, width_of, sound_of}
use Rattle.utf.proofs.Leads.{by-lead, step8-lead}
use Rattle.utf.proofs.Scalars.{inside-ends, scalar-low, scalar-high, encode_one, encode-two, encode-three, encode-four}

-- ---- the bytes of a value that was put together of bytes

two_back : (a b : ℕ) → 0xc2 ≤ a → a < 0xe0 → 0x80 ≤ b → b ≤ 0xbf → encode (a % 32 * 64 + b % 64) ≡ a ∷ b ∷ []
two_back a b l h k m =
    let v = a % 32 * 64 + b % 64 in
    let e : 0xc0 + v / 64 ≡ a = omega arith in
    let f : 0x80 + v % 64 ≡ b = omega arith in
    encode-two v (omega arith) (omega arith) ∙ (cc)

three_back : (a b c : ℕ) → 0xe0 ≤ a → a < 0xf0 → 0x80 ≤ b → b ≤ 0xbf → 0x80 ≤ c → c ≤ 0xbf → 0x800 ≤ a % 16 * 4096 + b % 64 * 64 + c % 64
    → encode (a % 16 * 4096 + b % 64 * 64 + c % 64) ≡ a ∷ b ∷ c ∷ []
three_back a b c l h k m p q big =
    let v = a % 16 * 4096 + b % 64 * 64 + c % 64 in
    let e : 0xe0 + v / 4096 ≡ a = omega arith in
    let f : 0x80 + v / 64 % 64 ≡ b = omega arith in
    let g : 0x80 + v % 64 ≡ c = omega arith in
    encode-three v big (omega arith) ∙ (cc)

four-back : (a b c d : ℕ) → 0xf0 ≤ a → a < 0xf5 → 0x80 ≤ b → b ≤ 0xbf → 0x80 ≤ c → c ≤ 0xbf → 0x80 ≤ d → d ≤ 0xbf
    → 0x10000 ≤ a % 8 * 262144 + b % 64 * 4096 + c % 64 * 64 + d % 64
    → encode (a % 8 * 262144 + b % 64 * 4096 + c % 64 * 64 + d % 64) ≡ a ∷ b ∷ c ∷ d ∷ []
four-back a b c d l h k m p q r s big =
    let v = a % 8 * 262144 + b % 64 * 4096 + c % 64 * 64 + d % 64 in
    let e : 0xf0 + v / 262144 ≡ a = omega arith in
    let f : 0x80 + v / 4096 % 64 ≡ b = omega arith in
    let g : 0x80 + v / 64 % 64 ≡ c = omega arith in
    let j : 0x80 + v % 64 ≡ d = omega arith in
    encode-four v big ∙ (cc)

-- ---- what is known of a step, by the row of its first byte

pub record Step8Is (t : Step) (s : List ℕ) : Type 0 where
  pub back : sound_of t ≡ true → encode (step_value t) ≡ take (width_of t) s
  pub scalar : is_scalar (step_value t) ≡ true
  pub least : 1 ≤ width_of t
  pub most : width_of t ≤ 4

bad : (n : ℕ) (s : List ℕ) → 1 ≤ n → n ≤ 4 → Step8Is (Bad n) s
bad n s l m = record { back = λ e. absurd (true≢false (sym e)); scalar = scalar-high 0xfffd (omega arith) (omega arith); least = l; most = m }

pick : (s : List ℕ) (b : Bool) {x y : Step} → (b ≡ true → Step8Is x s) → Step8Is y s → Step8Is (cond b x y) s
pick s true p q = p refl
pick s false p q = q

module _ (a b c d : ℕ) where
  abbrev all : List ℕ
  all = a ∷ b ∷ c ∷ d ∷ []

  bad1 : Step8Is (Bad 1) all
  bad1 = bad 1 all (omega arith) (omega arith)

  bad2 : Step8Is (Bad 2) all
  bad2 = bad 2 all (omega arith) (omega arith)

  bad3 : Step8Is (Bad 3) all
  bad3 = bad 3 all (omega arith) (omega arith)

  row0 : a < 0x80 → Step8Is (step_by (row 0 0 0) a b c d) all
  unfolding step_by
  row0 h = record { back = λ _. encode_one a h; scalar = scalar-low a (omega arith); least = omega arith; most = omega arith }

  row4 : Step8Is (step_by (row 4 0 0) a b c d) all
  unfolding step_by
  row4 = bad1

  row1 : 0xc2 ≤ a → a < 0xe0 → Step8Is (step_by (row 1 0x80 0xbf) a b c d) all
  unfolding step_by
  row1 l h =
      pick all (inside 0x80 0xbf b)
      (λ x.
      let p = inside-ends 0x80 0xbf b x in
      record { back = λ _. two_back a b l h p.0 p.1; scalar = scalar-low (a % 32 * 64 + b % 64) (omega arith); least = omega arith; most = omega arith })
      bad1

  row2 : (lo hi : ℕ) → 0xe0 ≤ a → a < 0xf0 → 0x80 ≤ lo → hi ≤ 0xbf → (lo ≤ b → b ≤ hi → 0x800 ≤ a % 16 * 4096 + b % 64 * 64 + c % 64)
      → (lo ≤ b → b ≤ hi → is_scalar (a % 16 * 4096 + b % 64 * 64 + c % 64) ≡ true) → Step8Is (step_by (row 2 lo hi) a b c d) all
  unfolding step_by
  row2 lo hi l h k m big fits =
      pick all (inside lo hi b)
      (λ x.
      let p = inside-ends lo hi b x in
      pick all (inside 0x80 0xbf c)
      (λ y.
      let q = inside-ends 0x80 0xbf c y in
      record {
        back = λ _. three_back a b c l h (omega arith) (omega arith) q.0 q.1 (big p.0 p.1);
        scalar = fits p.0 p.1;
        least = omega arith;
        most = omega arith;
      })
      bad2)
      bad1

  row3 : (lo hi : ℕ) → 0xf0 ≤ a → a < 0xf5 → 0x80 ≤ lo → hi ≤ 0xbf → (lo ≤ b → b ≤ hi → 0x10000 ≤ a % 8 * 262144 + b % 64 * 4096 + c % 64 * 64 + d % 64)
      → (lo ≤ b → b ≤ hi → is_scalar (a % 8 * 262144 + b % 64 * 4096 + c % 64 * 64 + d % 64) ≡ true) → Step8Is (step_by (row 3 lo hi) a b c d) all
  unfolding step_by
  row3 lo hi l h k m big fits =
      pick all (inside lo hi b)
      (λ x.
      let p = inside-ends lo hi b x in
      pick all (inside 0x80 0xbf c)
      (λ y.
      let q = inside-ends 0x80 0xbf c y in
      pick all (inside 0x80 0xbf d)
      (λ z.
      let r = inside-ends 0x80 0xbf d z in
      record {
        back = λ _. four-back a b c d l h (omega arith) (omega arith) q.0 q.1 r.0 r.1 (big p.0 p.1);
        scalar = fits p.0 p.1;
        least = omega arith;
        most = omega arith;
      })
      bad3)
      bad2)
      bad1

  by_row : Step8Is (step_by (lead_of a) a b c d) all
  by_row =
      let v = a % 16 * 4096 + b % 64 * 64 + c % 64 in
      let w = a % 8 * 262144 + b % 64 * 4096 + c % 64 * 64 + d % 64 in
      by-lead (λ (l : Lead). Step8Is (step_by l a b c d) all) a
      row0
      (λ _ _. row4)
      row1
      (λ l h. row2 0xa0 0xbf l (omega arith) (omega arith) (omega arith) (λ p q. omega arith) (λ p q. scalar-low v (omega arith)))
      (λ l h. row2 0x80 0xbf (omega arith) (omega arith) (omega arith) (omega arith) (λ p q. omega arith) (λ p q. scalar-low v (omega arith)))
      (λ l h. row2 0x80 0x9f (omega arith) (omega arith) (omega arith) (omega arith) (λ p q. omega arith) (λ p q. scalar-low v (omega arith)))
      (λ l h. row2 0x80 0xbf (omega arith) h (omega arith) (omega arith) (λ p q. omega arith) (λ p q. scalar-high v (omega arith) (omega arith)))
      (λ l h. row3 0x90 0xbf l (omega arith) (omega arith) (omega arith) (λ p q. omega arith) (λ p q. scalar-high w (omega arith) (omega arith)))
      (λ l h. row3 0x80 0xbf (omega arith) (omega arith) (omega arith) (omega arith) (λ p q. omega arith) (λ p q. scalar-high w (omega arith) (omega arith)))
      (λ l h. row3 0x80 0x8f (omega arith) h (omega arith) (omega arith) (λ p q. omega arith) (λ p q. scalar-high w (omega arith) (omega arith)))
      (λ _. row4)

-- ---- the first bytes of a list, read one by one; past the end they read as 0

padded : ℕ → List ℕ → List ℕ
padded zero s = []
padded (suc k) [] = 0 ∷ padded k []
padded (suc k) (a ∷ s) = a ∷ padded k s

padded-take : (k w : ℕ) (s : List ℕ) → w ≤ k → w ≤ length s → take w (padded k s) ≡ take w s
unfolding padded
padded-take k zero s h g = refl
padded-take zero (suc w) s h g = absurd (let z : ⊥ = omega arith in z)
padded-take (suc k) (suc w) [] h g = absurd (let z : ⊥ = omega arith in z)
padded-take (suc k) (suc w) (a ∷ s) h g = ap (λ (t : List ℕ). a ∷ t) (padded-take k w s (omega arith) (omega arith))

padded-four : (a : ℕ) (s : List ℕ) → padded 4 (a ∷ s) ≡ a ∷ get_or s 0 0 ∷ get_or s 1 0 ∷ get_or s 2 0 ∷ []
unfolding padded
padded-four a [] = refl
padded-four a (b ∷ []) = refl
padded-four a (b ∷ c ∷ []) = refl
padded-four a (b ∷ c ∷ d ∷ s) = refl

-- ---- a step does not run past the end

matched-le : (r s : List ℕ) → matched r s ≤ length s
unfolding matched
matched-le [] s = zero-le
matched-le (lo ∷ []) s = zero-le
matched-le (lo ∷ hi ∷ r) [] = zero-le
matched-le (lo ∷ hi ∷ r) (b ∷ s) = go (matched-le r s) (inside lo hi b)
  where
    go : matched r s ≤ length s → (x : Bool) → cond x (suc (matched r s)) 0 ≤ suc (length s)
    go h true = suc-le-suc h
    go h false = zero-le

longest-le : (rs : List (List ℕ)) (s : List ℕ) → longest rs s ≤ length s
unfolding longest
longest-le [] s = zero-le
longest-le (r ∷ rs) s = max-le (matched-le r s) (longest-le rs s)

-- ---- the step at the front of a list

by_front : (b : ℕ) (s : List ℕ) → Step8Is (step8 (b ∷ s)) (padded 4 (b ∷ s))
by_front b s = rw (step8-lead b s, padded-four b s) (by_row b (get_or s 0 0) (get_or s 1 0) (get_or s 2 0))

pub step8-sound : (b : ℕ) (s : List ℕ) → sound_of (step8 (b ∷ s)) ≡ any_whole table37 (b ∷ s)
unfolding step8
step8-sound b s = go _ _ _ (any_whole table37 (b ∷ s))
  where
    go : (v n k : ℕ) (t : Bool) → sound_of (cond t (Scalar v n) (Bad k)) ≡ t
    go v n k true = refl
    go v n k false = refl

pub step8-width : (b : ℕ) (s : List ℕ) → width_of (step8 (b ∷ s)) ≡ max 1 (longest table37 (b ∷ s))
unfolding step8
step8-width b s = go _ _ (any_whole table37 (b ∷ s)) (by_front b s).least
  where
    go : (v n : ℕ) (t : Bool) → 1 ≤ width_of (cond t (Scalar v n) (Bad (max 1 n))) → width_of (cond t (Scalar v n) (Bad (max 1 n))) ≡ max 1 n
    go v n true h = sym (max-eq_right h)
    go v n false h = refl

pub step8-width-le : (b : ℕ) (s : List ℕ) → width_of (step8 (b ∷ s)) ≤ length (b ∷ s)
step8-width-le b s = rw (step8-width b s) (max-le (omega arith) (longest-le table37 (b ∷ s)))

pub step8-is : (b : ℕ) (s : List ℕ) → Step8Is (step8 (b ∷ s)) (b ∷ s)
step8-is b s =
    let r = by_front b s in
    let e : take (width_of (step8 (b ∷ s))) (padded 4 (b ∷ s)) ≡ take (width_of (step8 (b ∷ s))) (b ∷ s) =
    padded-take 4 (width_of (step8 (b ∷ s))) (b ∷ s) r.most (step8-width-le b s) in
    record { back = λ t. r.back t ∙ e; scalar = r.scalar; least = r.least; most = r.most }
