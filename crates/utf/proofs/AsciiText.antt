-- Texts of ASCII in either encoding: the greatest low byte and the greatest high byte decide (`seen_units-..`); such a text is whole
-- (`ascii_text-sound`) and is its bytes, or the low bytes of its units (`ascii_text-utf8`, `ascii_text-utf16`); how they are written.
-- No contract cites this file.
use mathlib.Core.Path.{◌≡◌, refl, sym, ap, ◌∙◌}
use mathlib.Core.Bool.{Bool, true, false, ◌&&◌, and-true, and-false, true≢false}
use mathlib.Core.List.{List, [], ◌∷◌, ◌++◌, append-nil}
use Prim.Native.Nat.{ℕ, zero, suc, ◌+◌, ◌*◌, ◌/◌, ◌%◌, ◌≤◌, ◌<◌, max, min}
use native.Mathlib.Numerals.{add-one}
use native.Mathlib.Omega.{arith}
use borrow.Author.Tests.{ltb-true}
use lib.Dec.{ltb}
use lib.ListN.{length, get_or, set, take, drop, length-set, length-append, take-append-drop}
use lib.Seq.{drop-drop, drop-length, take-suc, take-suc-set, drop-set-lt}
use Rattle.utf.specs.declared.Step.TheVariants.{Scalar}
use Rattle.utf.specs.Utf16.{step16}
use Rattle.utf.specs.Text.{steps_after, steps_of, bytes_of, all_sound, is_sound, text_of, put_text}
use Rattle.utf.specs.Inner.StepRuns.{ascii_units, low_bytes, is_ascii_text}
use Rattle.utf.proofs.Tables.{both_true}
use Rattle.utf.proofs.Scalars.{encode_one}
use Rattle.utf.proofs.Laws.{is_sound-ascii, text_of-ascii}
use Rattle.utf.proofs.Units.{pair_of-plain, step16-two}
use Rattle.utf.proofs.Ascii.{ltb-max, is_ascii-at}

-- ---- the greatest low byte and the greatest high byte

-- `low` and `high` are ASCII, and all units of l
abbrev pub seen_units : ℕ → ℕ → List ℕ → Bool
seen_units low high l = (ltb low 0x80 && ltb high 1) && ascii_units l

regroup : (p q r s t : Bool) → (((p && q) && (r && s)) && t) ≡ ((p && r) && ((q && s) && t))
regroup true true r s t = go r
  where
    go : (r : Bool) → ((r && s) && t) ≡ (r && (s && t))
    go true = refl
    go false = refl
regroup true false true s t = refl
regroup true false false s t = refl
regroup false q r s t = refl

seen_units-more : (low high a b : ℕ) (l : List ℕ) → seen_units (max low a) (max high b) l ≡ seen_units low high (a ∷ b ∷ l)
unfolding ascii_units
seen_units-more low high a b l =
    rw (ltb-max 0x80 low a, ltb-max 1 high b) (regroup (ltb low 0x80) (ltb a 0x80) (ltb high 1) (ltb b 1) (ascii_units l))

-- a unit u, and the units behind it
pub seen_units-next : (low high : ℕ) (u l : List ℕ) → length u ≡ 2
    → seen_units (max low (get_or u 0 0)) (max high (get_or u 1 0)) l ≡ seen_units low high (u ++ l)
seen_units-next low high [] l h = absurd (let z : ⊥ = omega arith in z)
seen_units-next low high (a ∷ []) l h = absurd (let z : ⊥ = omega arith in z)
seen_units-next low high (a ∷ b ∷ []) l h = seen_units-more low high a b l
seen_units-next low high (a ∷ b ∷ c ∷ u) l h = absurd (let z : ⊥ = omega arith in z)

pub seen_units_end : (low high : ℕ) (l : List ℕ) → length l < 1 → seen_units low high l ≡ (ltb low 0x80 && ltb high 1)
unfolding ascii_units
seen_units_end low high [] h = and-true (ltb low 0x80 && ltb high 1)
seen_units_end low high (a ∷ l) h = absurd (let z : ⊥ = omega arith in z)

-- whole units are left of s, and with the greatest bytes so far they say what s says
pub record UnitsLeft (low high size : ℕ) (rest s : List ℕ) : Type 0 where
  pub two : size ≡ 2
  pub even : length rest % 2 ≡ 0
  pub seen : seen_units low high rest ≡ ascii_units s

pub units-turn : (low high size size' : ℕ) (u rest rest' s : List ℕ) → UnitsLeft low high size rest s → size' ≡ size → rest ≡ u ++ rest'
    → length u ≡ size → UnitsLeft (max low (get_or u 0 0)) (max high (get_or u 1 0)) size' rest' s
units-turn low high size size' u rest rest' s p e f h = record {
  two = e ∙ p.two;
  even = omega (arith, p.even, p.two, ap length f, length-append u rest');
  seen = seen_units-next low high u rest' (h ∙ p.two) ∙ ap (seen_units low high) (sym f) ∙ p.seen;
}

pub units_end : (low high size : ℕ) (rest s : List ℕ) → UnitsLeft low high size rest s → length rest < size
    → ascii_units s ≡ (ltb low 0x80 && ltb high 1)
units_end low high size rest s p h = sym p.seen ∙ seen_units_end low high rest (omega (arith, p.two, p.even))

-- a byte alone at the end
pub ascii_units_odd : (s : List ℕ) → length s % 2 ≡ 1 → ascii_units s ≡ false
unfolding ascii_units
ascii_units_odd [] h = absurd (let z : ⊥ = omega arith in z)
ascii_units_odd (a ∷ []) h = refl
ascii_units_odd (a ∷ b ∷ s) h = rw (ascii_units_odd s (omega arith)) (and-false (ltb a 0x80 && ltb b 1))

-- ---- such a text is whole, and what it is

module _ (a b : ℕ) (s : List ℕ) (h : a < 128) (k : b < 1) where
  unit-step : step16 (a ∷ b ∷ s) ≡ Scalar a 2
  unit-step =
      let v : a + b * 256 ≡ a = omega arith in
      step16-two a b s
      ∙ pair_of-plain (a + b * 256) (get_or s 0 0 + get_or s 1 0 * 256) (λ e. omega arith)
      ∙ ap (λ (x : ℕ). Scalar x 2) v

units-first : (a b : ℕ) (s : List ℕ) → ascii_units (a ∷ b ∷ s) ≡ true → (a < 128) × (b < 1) × (ascii_units s ≡ true)
unfolding ascii_units
units-first a b s e =
    let p = both_true (ltb a 0x80 && ltb b 1) (ascii_units s) e in
    let q = both_true (ltb a 0x80) (ltb b 1) p.0 in
    (ltb-true a 0x80 q.0, ltb-true b 1 q.1, p.1)

units-sound : (s : List ℕ) → ascii_units s ≡ true → is_sound true s ≡ true
unfolding steps_after all_sound ascii_units
units-sound [] e = refl
units-sound (a ∷ []) e = absurd (true≢false (sym e))
units-sound (a ∷ b ∷ s) e = let p = units-first a b s e in rw (unit-step a b s p.0 p.1) (units-sound s p.2)

units-bytes : (s : List ℕ) → ascii_units s ≡ true → bytes_of (steps_of true s) ≡ low_bytes s
unfolding steps_after bytes_of ascii_units low_bytes
units-bytes [] e = refl
units-bytes (a ∷ []) e = absurd (true≢false (sym e))
units-bytes (a ∷ b ∷ s) e =
    let p = units-first a b s e in
    rw (unit-step a b s p.0 p.1, encode_one a p.0, units-bytes s p.2)

pub ascii_text-sound : (utf16 : Bool) (s : List ℕ) → is_ascii_text utf16 s ≡ true → is_sound utf16 s ≡ true
ascii_text-sound true s e = units-sound s e
ascii_text-sound false s e = is_sound-ascii s (is_ascii-at s e)

pub ascii_text-utf16 : (s : List ℕ) → is_ascii_text true s ≡ true → text_of true s ≡ low_bytes s
unfolding text_of
ascii_text-utf16 s e = rw (units-sound s e) (units-bytes s e)

pub ascii_text-utf8 : (s : List ℕ) → is_ascii_text false s ≡ true → text_of false s ≡ s
ascii_text-utf8 s e = text_of-ascii s (is_ascii-at s e)

pub low_bytes_length : (s : List ℕ) → length (low_bytes s) ≡ length s / 2
unfolding low_bytes
low_bytes_length [] = omega arith
low_bytes_length (a ∷ []) = omega arith
low_bytes_length (a ∷ b ∷ s) = omega (arith, low_bytes_length s)

low_bytes-at : (s : List ℕ) (i : ℕ) → 2 * i + 1 < length s → get_or (low_bytes s) i 0 ≡ get_or s (2 * i) 0
unfolding low_bytes
low_bytes-at [] i h = absurd (let z : ⊥ = omega arith in z)
low_bytes-at (a ∷ []) i h = absurd (let z : ⊥ = omega arith in z)
low_bytes-at (a ∷ b ∷ s) zero h = refl
low_bytes-at (a ∷ b ∷ s) (suc i) h =
    let e : 2 * suc i ≡ suc (suc (2 * i)) = omega arith in
    rw e (low_bytes-at s i (omega arith))

-- ---- bytes written one by one: the first i of l stand in out, and behind them what stood there
pub record Copied (l out₀ out : List ℕ) (i : ℕ) : Type 0 where
  pub same : length out ≡ length out₀
  pub done : take i out ≡ take i l
  pub kept : drop i out ≡ drop i out₀

pub copied : (l out₀ out : List ℕ) (i v : ℕ) → Copied l out₀ out i → i < length l → i < length out → v ≡ get_or l i 0
    → Copied l out₀ (set out i v) (i + 1)
copied l out₀ out i v c h k e = record {
  same = length-set out i v ∙ c.same;
  done = rw (add-one i, take-suc-set out i v k, take-suc l i 0 h, c.done, e);
  kept =
      let past : drop (i + 1) (set out i v) ≡ drop (i + 1) out = drop-set-lt (i + 1) out i v (omega arith) in
      past ∙ sym (drop-drop 1 i out) ∙ ap (λ (r : List ℕ). drop 1 r) c.kept ∙ drop-drop 1 i out₀;
}

pub copied_low : (s out₀ out : List ℕ) (i : ℕ) → Copied (low_bytes s) out₀ out i → i < length s / 2 → i < length out
    → Copied (low_bytes s) out₀ (set out i (get_or s (2 * i) 0)) (i + 1)
copied_low s out₀ out i c h k =
    copied (low_bytes s) out₀ out i (get_or s (2 * i) 0) c (omega (arith, low_bytes_length s)) k (sym (low_bytes-at s i (omega arith)))

pub all_copied : (l out₀ out : List ℕ) (i : ℕ) → Copied l out₀ out i → i ≡ length l → out ≡ l ++ drop (length l) out₀
all_copied l out₀ out i c e =
    sym (take-append-drop i out)
    ∙ ap (λ (r : List ℕ). r ++ drop i out) (c.done ∙ take_all l i e)
    ∙ ap (λ (r : List ℕ). l ++ r) (c.kept ∙ ap (λ (n : ℕ). drop n out₀) e)
  where
    take_all : (l : List ℕ) (i : ℕ) → i ≡ length l → take i l ≡ l
    take_all l i e = rw e (sym (append-nil (take (length l) l)) ∙ ap (λ (r : List ℕ). take (length l) l ++ r) (sym (drop-length l)) ∙ take-append-drop (length l) l)

-- ---- the text in its buffer

pub into-utf16 : (s out after : List ℕ) (n : ℕ) → is_ascii_text true s ≡ true → length s ≤ 0xffffffffffffffff
    → (n ≡ length (low_bytes s)) × (after ≡ put_text (low_bytes s) out)
    → (n ≡ min (length (text_of true s)) 0xffffffffffffffff) × (after ≡ put_text (text_of true s) out)
into-utf16 s out after n e h p = rw (ascii_text-utf16 s e) (omega (arith, p.0, low_bytes_length s), p.1)

pub into-utf8 : (s out after : List ℕ) (n : ℕ) → is_ascii_text false s ≡ true → length s ≤ 0xffffffffffffffff
    → (n ≡ length s) × (after ≡ put_text s out)
    → (n ≡ min (length (text_of false s)) 0xffffffffffffffff) × (after ≡ put_text (text_of false s) out)
into-utf8 s out after n e h p = rw (ascii_text-utf8 s e) (omega (arith, p.0), p.1)
