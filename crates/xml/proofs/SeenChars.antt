-- Each char of specs/Inner/SeenChars.antt is a char of a name, and sound (`seen_low`, `seen-pair`, `seen-triple`, and of UTF-16 `seen-far`).
-- In order: a byte of ASCII; which values the ranges hold; UTF-16; the step of UTF-8 at a place, by its bytes; chars of two bytes, of three, of one.
use mathlib.Core.Path.{◌≡◌, refl, sym, ap, ◌∙◌}
use mathlib.Core.Bool.{Bool, true, false, not, ◌&&◌, ◌||◌, beq, true≢false}
use mathlib.Core.List.{List, [], ◌∷◌}
use mathlib.Core.Logic.{◌⊎◌, inl, inr, ⊎_elim}
use Prim.Native.Nat.{ℕ, zero, suc, ◌+◌, ◌*◌, ◌/◌, ◌%◌, ◌≤◌, ◌<◌}
use native.Mathlib.Omega.{arith}
use borrow.Author.Tests.{le-leb, lt-ltb, le-ltb, ltb-true, ltb-false, eqb-true, eqb-false, not-true}
use lib.Dec.{eqb, ltb}
use lib.ListN.{length, get_or, drop}
use Rattle.utf.specs.declared.Step.TheVariants.{Scalar}
use Rattle.utf.specs.Utf8.{inside, step8}
use Rattle.utf.specs.Text.{step_value, width_of, sound_of}
use Rattle.utf.specs.Inner.Lead.{lead_of, step_by}
use Rattle.utf.specs.Inner.StepRuns.{Took}
use Rattle.utf.proofs.Scalars.{inside-ends}
use Rattle.utf.proofs.Tables.{both_true, below_at}
use Rattle.utf.proofs.PlainLaws.{beq-true}
use Rattle.utf.proofs.Places.{step8-at}
use Rattle.utf.proofs.Turns.{took-ascii}
use Rattle.xml.specs.NCName.{in_ranges, name_start, name_more, is_char, char_sort}
use Rattle.xml.specs.Inner.SeenChars.{ascii_low, far_high, is_trail, pair_lead, latin_pair, is_pair, triple_lead, triple_second, is_triple}
use Rattle.xml.specs.Inner.NameRun.{Seen}
use Rattle.xml.proofs.Sorts.{char_sort-char}
use Rattle.xml.proofs.Names.{seen_step, seen-char}

-- ---- a byte of ASCII, by ranges: one test, computed once at all 256 bytes

abbrev in_low : ℕ → Bool
in_low b = (((inside 0x61 0x7a b || inside 0x41 0x5a b) || inside 0x30 0x39 b) || inside 0x2d 0x2e b) || eqb b 0x5f

same_low : ℕ → Bool
same_low b = beq (in_low b) (ascii_low b)

pub ascii_low-is : (b : ℕ) → b < 256 → in_low b ≡ ascii_low b
unfolding same_low ascii_low is_char in_ranges
ascii_low-is b h = beq-true (in_low b) (ascii_low b) (below_at same_low 256 b refl h)

-- ---- one of two tests

pub one_of : (x y : Bool) → (x || y) ≡ true → (x ≡ true) ⊎ (y ≡ true)
one_of true y e = inl refl
one_of false y e = inr e

-- ---- which values the ranges hold

-- the ranges behind the first n
abbrev behind : ℕ → List ℕ → List ℕ
behind zero rs = rs
behind (suc n) [] = []
behind (suc n) (first ∷ []) = []
behind (suc n) (first ∷ last ∷ rs) = behind n rs

in_ranges-behind : (n : ℕ) (rs : List ℕ) (v : ℕ) → in_ranges (behind n rs) v ≡ true → in_ranges rs v ≡ true
unfolding in_ranges
in_ranges-behind zero rs v e = e
in_ranges-behind (suc n) [] v e = e
in_ranges-behind (suc n) (first ∷ []) v e = e
in_ranges-behind (suc n) (first ∷ last ∷ rs) v e = go (in_ranges-behind n rs v e) (inside first last v)
  where
    go : in_ranges rs v ≡ true → (b : Bool) → (b || in_ranges rs v) ≡ true
    go f true = refl
    go f false = f

char-in : (v : ℕ) → is_char v ≡ true → char_sort v ≡ 0 → ⊥
char-in v e z = true≢false (sym e ∙ sym (char_sort-char v) ∙ ap (λ (k : ℕ). not (eqb k 0)) z)

-- a value in one of the ranges of NameStartChar, and in one of those that NameChar has besides
pub start-in : (n v : ℕ) → in_ranges (behind n name_start) v ≡ true → char_sort v ≡ 0 → ⊥
unfolding is_char
start-in n v e = char-in v (rw (in_ranges-behind n name_start v e))

pub more-in : (n v : ℕ) → in_ranges (behind n name_more) v ≡ true → char_sort v ≡ 0 → ⊥
unfolding is_char
more-in n v e = char-in v (go (in_ranges name_start v) (in_ranges-behind n name_more v e))
  where
    go : (x : Bool) → in_ranges name_more v ≡ true → (x || in_ranges name_more v) ≡ true
    go true f = refl
    go false f = f

-- U+00C0 to U+00FF, by one test at all 256 values
latin_char : ℕ → Bool
latin_char v = ((ltb v 0xc0 || eqb v 0xd7) || eqb v 0xf7) || is_char v

pub latin-char : (v : ℕ) → 0xc0 ≤ v → v < 0x100 → (v ≡ 0xd7 → ⊥) → (v ≡ 0xf7 → ⊥) → char_sort v ≡ 0 → ⊥
unfolding latin_char is_char in_ranges
latin-char v l h n m =
    char-in v (go (ltb v 0xc0) (le-ltb v 0xc0 l) (eqb v 0xd7) refl (eqb v 0xf7) refl (below_at latin_char 256 v refl h))
  where
    go : (x : Bool) → x ≡ false → (y : Bool) → eqb v 0xd7 ≡ y → (z : Bool) → eqb v 0xf7 ≡ z → (((x || y) || z) || is_char v) ≡ true → is_char v ≡ true
    go true e y f z g t = absurd (true≢false e)
    go false e true f z g t = absurd (n (eqb-true v 0xd7 f))
    go false e false f true g t = absurd (m (eqb-true v 0xf7 g))
    go false e false f false g t = t

pub char-latin : (v : ℕ) → 0xf8 ≤ v → v ≤ 0x2ff → char_sort v ≡ 0 → ⊥
unfolding in_ranges
char-latin v l h = start-in 5 v (rw (le-leb 0xf8 v l, le-leb v 0x2ff h))

pub char-mark : (v : ℕ) → 0x300 ≤ v → v ≤ 0x36f → char_sort v ≡ 0 → ⊥
unfolding in_ranges
char-mark v l h = more-in 4 v (rw (le-leb 0x300 v l, le-leb v 0x36f h))

pub char-near : (v : ℕ) → 0x37f ≤ v → v ≤ 0x1fff → char_sort v ≡ 0 → ⊥
unfolding in_ranges
char-near v l h = start-in 7 v (rw (le-leb 0x37f v l, le-leb v 0x1fff h))

pub char-far : (v : ℕ) → 0x3001 ≤ v → v ≤ 0xd7ff → char_sort v ≡ 0 → ⊥
unfolding in_ranges
char-far v l h = start-in 11 v (rw (le-leb 0x3001 v l, le-leb v 0xd7ff h))

pub char-low : (b : ℕ) → ascii_low b ≡ true → (b < 128) × (char_sort b ≡ 0 → ⊥)
unfolding ascii_low
char-low b e = let p = both_true (ltb b 128) (is_char b) e in (ltb-true b 128 p.0, char-in b p.1)

-- ---- UTF-16: a unit of ASCII, and a far unit; neither is a surrogate

pub unit-low : (b c : ℕ) → ascii_low b ≡ true → eqb c 0 ≡ true → (c / 8 ≡ 27 → ⊥) × (char_sort (b + c * 256) ≡ 0 → ⊥)
unit-low b c e f =
    let z = eqb-true c 0 f in
    let u : b + c * 256 ≡ b = omega arith in
    (λ k. omega arith, λ k. (char-low b e).1 (sym (ap char_sort u) ∙ k))

pub unit-far : (b c : ℕ) → b < 256 → far_high c ≡ true → (c / 8 ≡ 27 → ⊥) × (char_sort (b + c * 256) ≡ 0 → ⊥)
unfolding far_high
unit-far b c h e =
    let q = one_of (inside _ _ c) (inside _ _ c) e in
    ⊎_elim
    (λ f. let p = inside-ends _ _ c f in (λ k. omega arith, char-near (b + c * 256) (omega arith) (omega arith)))
    (λ f. let p = inside-ends _ _ c f in (λ k. omega arith, char-far (b + c * 256) (omega arith) (omega arith)))
    q

pub seen-far : (s : List ℕ) (at : ℕ) → at + 1 < length s → ((k : ℕ) → get_or s k 0 < 256) → far_high (get_or s (at + 1) 0) ≡ true → Seen true s at (at + 2)
seen-far s at h b e = let u = unit-far (get_or s at 0) (get_or s (at + 1) 0) (b at) e in seen-char s at h b u.0 u.1

-- ---- UTF-8: what a sequence of bytes stands for

took-scalar : (s : List ℕ) (at v width : ℕ) → step8 (drop at s) ≡ Scalar v width → v < 0x110000 → 1 ≤ width → width ≤ 4 → Took false s at v width true
took-scalar s at v width e h l m = record {
  value-is = sym (ap step_value e);
  width_is = sym (ap width_of e);
  sound-is = sym (ap sound_of e);
  small = h;
  least = l;
  most = m;
}

-- a first byte of the second row of Table 3-7
took-two : (s : List ℕ) (at b c : ℕ) → at < length s → get_or s at 0 ≡ b → get_or s (at + 1) 0 ≡ c → 0xc2 ≤ b → b ≤ 0xdf → 0x80 ≤ c → c ≤ 0xbf
    → Took false s at (b % 32 * 64 + c % 64) 2 true
unfolding lead_of step_by
took-two s at b c h eb ec lb hb lc hc =
    let e : step8 (drop at s) ≡ Scalar (b % 32 * 64 + c % 64) 2 =
    rw (
      step8-at s at h,
      eb,
      ec,
      le-ltb b 0x80 (omega arith),
      le-ltb b 0xc2 lb,
      lt-ltb b 0xe0 (omega arith),
      le-leb 0x80 c lc,
      le-leb c 0xbf hc,
    ) in
    took-scalar s at (b % 32 * 64 + c % 64) 2 e (omega arith) (omega arith) (omega arith)

-- a first byte of the fourth row
took-three : (s : List ℕ) (at b c d : ℕ) → at < length s → get_or s at 0 ≡ b → get_or s (at + 1) 0 ≡ c → get_or s (at + 2) 0 ≡ d → 0xe1 ≤ b → b ≤ 0xec
    → 0x80 ≤ c → c ≤ 0xbf → 0x80 ≤ d → d ≤ 0xbf → Took false s at (b % 16 * 4096 + c % 64 * 64 + d % 64) 3 true
unfolding lead_of step_by
took-three s at b c d h eb ec ed lb hb lc hc ld hd =
    let e : step8 (drop at s) ≡ Scalar (b % 16 * 4096 + c % 64 * 64 + d % 64) 3 =
    rw (
      step8-at s at h,
      eb,
      ec,
      ed,
      le-ltb b 0x80 (omega arith),
      le-ltb b 0xc2 (omega arith),
      le-ltb b 0xe0 (omega arith),
      le-ltb b 0xe1 lb,
      lt-ltb b 0xed (omega arith),
      le-leb 0x80 c lc,
      le-leb c 0xbf hc,
      le-leb 0x80 d ld,
      le-leb d 0xbf hd,
    ) in
    took-scalar s at (b % 16 * 4096 + c % 64 * 64 + d % 64) 3 e (omega arith) (omega arith) (omega arith)

-- ---- UTF-8: two bytes, and three

pub trail-ends : (b : ℕ) → is_trail b ≡ true → (0x80 ≤ b) × (b ≤ 0xbf)
unfolding is_trail
trail-ends b e = let p = inside-ends _ _ b e in (omega arith, omega arith)

-- U+0100 to U+033F are letters, and from U+0300 on marks, which may follow
pub char-to-033f : (v : ℕ) → 0x100 ≤ v → v ≤ 0x33f → char_sort v ≡ 0 → ⊥
char-to-033f v l h = go (ltb v 0x300) refl
  where
    go : (t : Bool) → ltb v 0x300 ≡ t → char_sort v ≡ 0 → ⊥
    go true e = let k = ltb-true v 0x300 e in char-latin v (omega arith) (omega arith)
    go false e = char-mark v (ltb-false v 0x300 e) (omega arith)

abbrev PairIs : ℕ → ℕ → Type 0
PairIs b c = (0xc2 ≤ b) × (b ≤ 0xdf) × (char_sort (b % 32 * 64 + c % 64) ≡ 0 → ⊥)

module _ (b c : ℕ) (l : 0x80 ≤ c) (h : c ≤ 0xbf) where
  pair-lead : pair_lead b ≡ true → PairIs b c
  unfolding pair_lead
  pair-lead e =
      let q = one_of (inside _ _ b) (inside _ _ b) e in
      ⊎_elim
      (λ f. let p = inside-ends _ _ b f in (omega arith, omega arith, char-to-033f (b % 32 * 64 + c % 64) (omega arith) (omega arith)))
      (λ f. let p = inside-ends _ _ b f in (omega arith, omega arith, char-near (b % 32 * 64 + c % 64) (omega arith) (omega arith)))
      q

  pair-latin : latin_pair b c ≡ true → PairIs b c
  unfolding latin_pair
  pair-latin e =
      let p = both_true _ _ e in
      let q = both_true _ _ p.0 in
      let is = eqb-true b _ q.0 in
      let n = eqb-false c _ (not-true _ q.1) in
      let m = eqb-false c _ (not-true _ p.1) in (
        omega arith,
        omega arith,
        latin-char (b % 32 * 64 + c % 64) (omega arith) (omega arith) (λ z. n (omega arith)) (λ z. m (omega arith)),
      )

pub seen-pair : (s : List ℕ) (at : ℕ) → at + 1 < length s → is_pair (get_or s at 0) (get_or s (at + 1) 0) ≡ true → Seen false s at (at + 2)
unfolding is_pair
seen-pair s at h e =
    let b = get_or s at 0 in
    let c = get_or s (at + 1) 0 in
    let p = both_true (is_trail c) (pair_lead b || latin_pair b c) e in
    let t = trail-ends c p.0 in
    let is = ⊎_elim (pair-lead b c t.0 t.1) (pair-latin b c t.0 t.1) (one_of (pair_lead b) (latin_pair b c) p.1) in
    seen_step false s at (b % 32 * 64 + c % 64) 2 (omega arith)
    (took-two s at b c (omega arith) refl refl is.0 is.1 t.0 t.1) is.2

abbrev TripleIs : ℕ → ℕ → ℕ → Type 0
TripleIs b c d = (0xe1 ≤ b) × (b ≤ 0xec) × (char_sort (b % 16 * 4096 + c % 64 * 64 + d % 64) ≡ 0 → ⊥)

triple-lead : (b c d : ℕ) → triple_lead b ≡ true → 0x81 ≤ c → c ≤ 0xbf → 0x80 ≤ d → d ≤ 0xbf → TripleIs b c d
unfolding triple_lead
triple-lead b c d e lc hc ld hd =
    let v = b % 16 * 4096 + c % 64 * 64 + d % 64 in
    let q = one_of (eqb b _) (inside _ _ b) e in
    ⊎_elim
    (λ f. let p = eqb-true b _ f in (omega arith, omega arith, char-near v (omega arith) (omega arith)))
    (λ f. let p = inside-ends _ _ b f in (omega arith, omega arith, char-far v (omega arith) (omega arith)))
    q

second-ends : (b : ℕ) → triple_second b ≡ true → (0x81 ≤ b) × (b ≤ 0xbf)
unfolding triple_second
second-ends b e = let p = inside-ends _ _ b e in (omega arith, omega arith)

pub seen-triple : (s : List ℕ) (at : ℕ) → at + 2 < length s → is_triple (get_or s at 0) (get_or s (at + 1) 0) (get_or s (at + 2) 0) ≡ true
    → Seen false s at (at + 3)
unfolding is_triple
seen-triple s at h e =
    let b = get_or s at 0 in
    let c = get_or s (at + 1) 0 in
    let d = get_or s (at + 2) 0 in
    let p = both_true (triple_lead b && triple_second c) (is_trail d) e in
    let q = both_true (triple_lead b) (triple_second c) p.0 in
    let second = second-ends c q.1 in
    let third = trail-ends d p.1 in
    let is = triple-lead b c d q.0 second.0 second.1 third.0 third.1 in
    seen_step false s at (b % 16 * 4096 + c % 64 * 64 + d % 64) 3 (omega arith)
    (took-three s at b c d (omega arith) refl refl refl is.0 is.1 (omega arith) second.1 third.0 third.1) is.2

-- ---- UTF-8: a byte of ASCII

pub seen_low : (s : List ℕ) (at : ℕ) → at < length s → ascii_low (get_or s at 0) ≡ true → Seen false s at (at + 1)
seen_low s at h e =
    let p = char-low (get_or s at 0) e in
    seen_step false s at (get_or s at 0) 1 h (took-ascii false s at refl h p.0) p.1
