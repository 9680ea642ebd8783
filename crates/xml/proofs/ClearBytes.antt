-- Which bytes are clear (specs/Inner/ClearPlaces.antt): a law for each test of src/clear.rt, by the values that the bytes stand for.
-- In order: tests; the values of each range; a first byte alone; two bytes, three, four.
use mathlib.Core.Path.{◌≡◌, refl, sym, ◌∙◌}
use mathlib.Core.Bool.{Bool, true, false, not, true≢false}
use Prim.Native.Nat.{ℕ, ◌+◌, ◌*◌, ◌%◌, ◌≤◌}
use native.Mathlib.Omega.{arith}
use borrow.Author.Tests.{le-leb, ltb-true, ltb-false, eqb-false, eqb-true, not-true}
use lib.Dec.{ltb, eqb}
use Rattle.utf.specs.Utf8.{inside}
use Rattle.xml.specs.NCName.{in_ranges, char_sort}
use Rattle.xml.specs.Inner.SeenChars.{ascii_low, is_trail}
use Rattle.xml.specs.Inner.ClearPlaces.{Clear}
use Rattle.xml.proofs.SeenChars.{start-in, more-in, latin-char, char-mark, char-near, char-far, char-low, char-to-033f}
use Rattle.xml.proofs.ClearPlaces.{clear-by}

-- ---- tests

pub outside : (first last n : ℕ) → not (inside first last n) ≡ true → first ≤ n → n ≤ last → ⊥
outside first last n e l h =
    let t : inside first last n ≡ true = rw (le-leb first n l, le-leb n last h) in
    true≢false (sym t ∙ not-true (inside first last n) e)

pub no-trail : (b : ℕ) → not (is_trail b) ≡ true → 0x80 ≤ b → b ≤ 0xbf → ⊥
unfolding is_trail
no-trail b e = outside 0x80 0xbf b e

-- ---- the values of a range

pub char-dot : char_sort 0xb7 ≡ 0 → ⊥
unfolding in_ranges
char-dot = more-in 3 0xb7 (rw (le-leb 0xb7 0xb7 (omega arith)))

pub char-greek : (v : ℕ) → 0x370 ≤ v → v ≤ 0x37d → char_sort v ≡ 0 → ⊥
unfolding in_ranges
char-greek v l h = start-in 6 v (rw (le-leb 0x370 v l, le-leb v 0x37d h))

pub char-joiner : (v : ℕ) → 0x200c ≤ v → v ≤ 0x200d → char_sort v ≡ 0 → ⊥
unfolding in_ranges
char-joiner v l h = start-in 8 v (rw (le-leb 0x200c v l, le-leb v 0x200d h))

pub char-tie : (v : ℕ) → 0x203f ≤ v → v ≤ 0x2040 → char_sort v ≡ 0 → ⊥
unfolding in_ranges
char-tie v l h = more-in 5 v (rw (le-leb 0x203f v l, le-leb v 0x2040 h))

pub char-signs : (v : ℕ) → 0x2070 ≤ v → v ≤ 0x218f → char_sort v ≡ 0 → ⊥
unfolding in_ranges
char-signs v l h = start-in 9 v (rw (le-leb 0x2070 v l, le-leb v 0x218f h))

pub char-2c00 : (v : ℕ) → 0x2c00 ≤ v → v ≤ 0x2fef → char_sort v ≡ 0 → ⊥
unfolding in_ranges
char-2c00 v l h = start-in 10 v (rw (le-leb 0x2c00 v l, le-leb v 0x2fef h))

pub char-f900 : (v : ℕ) → 0xf900 ≤ v → v ≤ 0xfdcf → char_sort v ≡ 0 → ⊥
unfolding in_ranges
char-f900 v l h = start-in 12 v (rw (le-leb 0xf900 v l, le-leb v 0xfdcf h))

pub char-fdf0 : (v : ℕ) → 0xfdf0 ≤ v → v ≤ 0xfffd → char_sort v ≡ 0 → ⊥
unfolding in_ranges
char-fdf0 v l h = start-in 13 v (rw (le-leb 0xfdf0 v l, le-leb v 0xfffd h))

char-high : (v : ℕ) → 0x10000 ≤ v → v ≤ 0xeffff → char_sort v ≡ 0 → ⊥
unfolding in_ranges
char-high v l h = start-in 14 v (rw (le-leb 0x10000 v l, le-leb v 0xeffff h))

-- U+0340 to U+037F but U+037E
char-cd : (v : ℕ) → 0x340 ≤ v → v ≤ 0x37f → (v ≡ 0x37e → ⊥) → char_sort v ≡ 0 → ⊥
char-cd v l h n = go (ltb v 0x370) refl (ltb v 0x37e) refl
  where
    go : (x : Bool) → ltb v 0x370 ≡ x → (y : Bool) → ltb v 0x37e ≡ y → char_sort v ≡ 0 → ⊥
    go true e y f = let k = ltb-true v 0x370 e in char-mark v (omega arith) (omega arith)
    go false e true f = let i = ltb-false v 0x370 e in let k = ltb-true v 0x37e f in char-greek v i (omega arith)
    go false e false f = let k = ltb-false v 0x37e f in char-near v (omega arith) (omega arith)

-- ---- a first byte alone

module _ (b c d e : ℕ) where
  pub clear-ascii : ascii_low b ≡ true → Clear b c d e
  clear-ascii t =
      let p = char-low b t in
      clear-by b c d e
      (λ _. p.1)
      (λ l h lc hc. absurd (let z : ⊥ = omega arith in z))
      (λ l h lc hc ld hd big low. absurd (let z : ⊥ = omega arith in z))
      (λ l h lc hc ld hd le he big low. absurd (let z : ⊥ = omega arith in z))

  -- a byte that begins nothing
  pub clear-trail : 0x80 ≤ b → b ≤ 0xc1 → Clear b c d e
  clear-trail p q =
      clear-by b c d e
      (λ h. absurd (let z : ⊥ = omega arith in z))
      (λ l h lc hc. absurd (let z : ⊥ = omega arith in z))
      (λ l h lc hc ld hd big low. absurd (let z : ⊥ = omega arith in z))
      (λ l h lc hc ld hd le he big low. absurd (let z : ⊥ = omega arith in z))

  pub clear-never : 0xf5 ≤ b → Clear b c d e
  clear-never p =
      clear-by b c d e
      (λ h. absurd (let z : ⊥ = omega arith in z))
      (λ l h lc hc. absurd (let z : ⊥ = omega arith in z))
      (λ l h lc hc ld hd big low. absurd (let z : ⊥ = omega arith in z))
      (λ l h lc hc ld hd le he big low. absurd (let z : ⊥ = omega arith in z))

  -- U+0100 to U+033F; U+0380 to U+1FFF; U+4000 to U+D7FF; U+10000 to U+BFFFF
  pub clear-latin : 0xc4 ≤ b → b ≤ 0xcc → Clear b c d e
  clear-latin p q =
      clear-by b c d e
      (λ h. absurd (let z : ⊥ = omega arith in z))
      (λ l h lc hc. char-to-033f (b % 32 * 64 + c % 64) (omega arith) (omega arith))
      (λ l h lc hc ld hd big low. absurd (let z : ⊥ = omega arith in z))
      (λ l h lc hc ld hd le he big low. absurd (let z : ⊥ = omega arith in z))

  pub clear-near : 0xce ≤ b → b ≤ 0xe1 → Clear b c d e
  clear-near p q =
      clear-by b c d e
      (λ h. absurd (let z : ⊥ = omega arith in z))
      (λ l h lc hc. char-near (b % 32 * 64 + c % 64) (omega arith) (omega arith))
      (λ l h lc hc ld hd big low. char-near (b % 16 * 4096 + c % 64 * 64 + d % 64) (omega arith) (omega arith))
      (λ l h lc hc ld hd le he big low. absurd (let z : ⊥ = omega arith in z))

  pub clear-far : 0xe4 ≤ b → b ≤ 0xed → Clear b c d e
  clear-far p q =
      clear-by b c d e
      (λ h. absurd (let z : ⊥ = omega arith in z))
      (λ l h lc hc. absurd (let z : ⊥ = omega arith in z))
      (λ l h lc hc ld hd big low. char-far (b % 16 * 4096 + c % 64 * 64 + d % 64) (omega arith) (low q))
      (λ l h lc hc ld hd le he big low. absurd (let z : ⊥ = omega arith in z))

  pub clear-high : 0xf0 ≤ b → b ≤ 0xf2 → Clear b c d e
  clear-high p q =
      clear-by b c d e
      (λ h. absurd (let z : ⊥ = omega arith in z))
      (λ l h lc hc. absurd (let z : ⊥ = omega arith in z))
      (λ l h lc hc ld hd big low. absurd (let z : ⊥ = omega arith in z))
      (λ l h lc hc ld hd le he big low. char-high (b % 8 * 262144 + c % 64 * 4096 + d % 64 * 64 + e % 64) big (omega arith))

  -- ---- two bytes

  -- of two bytes, or of none where the second is no byte behind a first
  clear-two : 0xc2 ≤ b → b ≤ 0xdf → (0x80 ≤ c → c ≤ 0xbf → char_sort (b % 32 * 64 + c % 64) ≡ 0 → ⊥) → Clear b c d e
  clear-two p q n =
      clear-by b c d e
      (λ h. absurd (let z : ⊥ = omega arith in z))
      (λ l h lc hc. n lc hc)
      (λ l h lc hc ld hd big low. absurd (let z : ⊥ = omega arith in z))
      (λ l h lc hc ld hd le he big low. absurd (let z : ⊥ = omega arith in z))

  pub clear-dot : b ≡ 0xc2 → c ≡ 0xb7 → Clear b c d e
  clear-dot p q = clear-two (omega arith) (omega arith) (λ l h z. char-dot (sym (let v : b % 32 * 64 + c % 64 ≡ 0xb7 = omega arith in sort v) ∙ z))
    where
      sort : {v : ℕ} → v ≡ 0xb7 → char_sort v ≡ char_sort 0xb7
      sort x = rw x

  pub clear-cut-two : 0xc2 ≤ b → b ≤ 0xdf → (0x80 ≤ c → c ≤ 0xbf → ⊥) → Clear b c d e
  clear-cut-two p q n = clear-two p q (λ l h. absurd (n l h))

  pub clear-c3 : b ≡ 0xc3 → (c ≡ 0x97 → ⊥) → (c ≡ 0xb7 → ⊥) → Clear b c d e
  clear-c3 p n m =
      clear-two (omega arith) (omega arith)
      (λ l h. latin-char (b % 32 * 64 + c % 64) (omega arith) (omega arith) (λ z. n (omega arith)) (λ z. m (omega arith)))

  pub clear-cd : b ≡ 0xcd → (c ≡ 0xbe → ⊥) → Clear b c d e
  clear-cd p n = clear-two (omega arith) (omega arith) (λ l h. char-cd (b % 32 * 64 + c % 64) (omega arith) (omega arith) (λ z. n (omega arith)))

  -- ---- three

  pub clear-three : 0xe0 ≤ b → b ≤ 0xef
      → (0x80 ≤ c → c ≤ 0xbf → 0x80 ≤ d → d ≤ 0xbf → (b ≤ 0xed → b % 16 * 4096 + c % 64 * 64 + d % 64 ≤ 0xd7ff)
      → char_sort (b % 16 * 4096 + c % 64 * 64 + d % 64) ≡ 0 → ⊥)
      → Clear b c d e
  clear-three p q n =
      clear-by b c d e
      (λ h. absurd (let z : ⊥ = omega arith in z))
      (λ l h lc hc. absurd (let z : ⊥ = omega arith in z))
      (λ l h lc hc ld hd big low. n lc hc ld hd low)
      (λ l h lc hc ld hd le he big low. absurd (let z : ⊥ = omega arith in z))

  -- U+3001 to U+3FFF
  pub clear-e3 : b ≡ 0xe3 → (c ≡ 0x80 → d ≡ 0x80 → ⊥) → Clear b c d e
  clear-e3 p n =
      clear-three (omega arith) (omega arith)
      (λ lc hc ld hd low. char-far (b % 16 * 4096 + c % 64 * 64 + d % 64) (past lc hc ld hd) (omega arith))
    where
      past : 0x80 ≤ c → c ≤ 0xbf → 0x80 ≤ d → d ≤ 0xbf → 0x3001 ≤ b % 16 * 4096 + c % 64 * 64 + d % 64
      past lc hc ld hd = go (eqb c 0x80) refl (eqb d 0x80) refl
        where
          go : (x : Bool) → eqb c 0x80 ≡ x → (y : Bool) → eqb d 0x80 ≡ y → 0x3001 ≤ b % 16 * 4096 + c % 64 * 64 + d % 64
          go true f true g = absurd (n (eqb-true c 0x80 f) (eqb-true d 0x80 g))
          go false f y g = let k = eqb-false c 0x80 f in omega arith
          go true f false g = let k = eqb-false d 0x80 g in omega arith

  -- ---- four

  clear-four : 0xf0 ≤ b → b ≤ 0xf4
      → (0x80 ≤ c → c ≤ 0xbf → 0x80 ≤ d → d ≤ 0xbf → 0x80 ≤ e → e ≤ 0xbf → 0x10000 ≤ b % 8 * 262144 + c % 64 * 4096 + d % 64 * 64 + e % 64
      → (b ≡ 0xf4 → c ≤ 0x8f) → char_sort (b % 8 * 262144 + c % 64 * 4096 + d % 64 * 64 + e % 64) ≡ 0 → ⊥)
      → Clear b c d e
  clear-four p q n =
      clear-by b c d e
      (λ h. absurd (let z : ⊥ = omega arith in z))
      (λ l h lc hc. absurd (let z : ⊥ = omega arith in z))
      (λ l h lc hc ld hd big low. absurd (let z : ⊥ = omega arith in z))
      (λ l h lc hc ld hd le he big low. n lc hc ld hd le he big low)

  pub clear-cut-four : 0xf0 ≤ b → b ≤ 0xf4 → (0x80 ≤ c → c ≤ 0xbf → 0x80 ≤ d → d ≤ 0xbf → 0x80 ≤ e → e ≤ 0xbf → ⊥) → Clear b c d e
  clear-cut-four p q n = clear-four p q (λ lc hc ld hd le he big low. absurd (n lc hc ld hd le he))

  -- up to U+EFFFF
  pub clear-f3 : b ≡ 0xf3 → c ≤ 0xaf → Clear b c d e
  clear-f3 p q =
      clear-four (omega arith) (omega arith)
      (λ lc hc ld hd le he big low. char-high (b % 8 * 262144 + c % 64 * 4096 + d % 64 * 64 + e % 64) big (omega arith))

  -- behind the last value
  pub clear-f4 : b ≡ 0xf4 → 0x90 ≤ c → Clear b c d e
  clear-f4 p q = clear-four (omega arith) (omega arith) (λ lc hc ld hd le he big low. let k = low p in absurd (let z : ⊥ = omega arith in z))

-- U+FDC0 to U+FDFF but U+FDD0 to U+FDEF
pub clear-b7 : (c d e : ℕ) → c ≡ 0xb7 → (0x90 ≤ d → d ≤ 0xaf → ⊥) → Clear 0xef c d e
clear-b7 c d e p n = go (ltb d 0x90) refl (ltb 0xaf d) refl
  where
    go : (x : Bool) → ltb d 0x90 ≡ x → (y : Bool) → ltb 0xaf d ≡ y → Clear 0xef c d e
    go true f y g =
        let k = ltb-true d 0x90 f in
        clear-three 0xef c d e (omega arith) (omega arith)
        (λ lc hc ld hd low. char-f900 (0xef % 16 * 4096 + c % 64 * 64 + d % 64) (omega arith) (omega arith))
    go false f true g =
        let k = ltb-true 0xaf d g in
        clear-three 0xef c d e (omega arith) (omega arith)
        (λ lc hc ld hd low. char-fdf0 (0xef % 16 * 4096 + c % 64 * 64 + d % 64) (omega arith) (omega arith))
    go false f false g = absurd (n (ltb-false d 0x90 f) (ltb-false 0xaf d g))
