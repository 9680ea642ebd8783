-- UTF-16 by its units: one that is no surrogate is a step of its own (`took-unit`); sound bytes are the spelling of their steps' values
-- (`whole-units`), so that of two texts with different bytes none but the empty one is the other (`differ-utf16`).
use mathlib.Core.Path.{◌≡◌, refl, sym, ap, ◌∙◌}
use mathlib.Core.Bool.{Bool, true, false, cond, true≢false}
use mathlib.Core.List.{List, [], ◌∷◌, ◌++◌}
use Prim.Native.Nat.{ℕ, zero, suc, ◌+◌, ◌-◌, ◌*◌, ◌/◌, ◌%◌, ◌≤◌, ◌<◌}
use native.Mathlib.Omega.{arith}
use borrow.Author.Tests.{lt-ltb, le-ltb, le-leb, lt-leb, ltb-true, ltb-false, not-false}
use lib.Dec.{ltb}
use lib.ListN.{length, get_or, drop}
use Rattle.utf.specs.declared.Step.{Step}
use Rattle.utf.specs.declared.Step.TheVariants.{Scalar, Bad}
use Rattle.utf.specs.Utf8.{inside}
use Rattle.utf.specs.Utf16.{unit, pair_of, step16, spell_pair, spell16, spell_all}
use Rattle.utf.specs.Text.{step_value, width_of, sound_of, steps_after, steps_of, bytes_of, values_of, all_sound, is_sound, refused, text_of, eq_bytes}
use Rattle.utf.specs.Inner.StepRuns.{Took, Ran, Halted}
use Rattle.utf.proofs.Tables.{both_true}
use Rattle.utf.proofs.Scalars.{inside-ends}
use Rattle.utf.proofs.Steps.{step_of-is}
use Rattle.utf.proofs.Equal.{eq_bytes-true, eq_bytes-refl, eq_bytes-not, eq_bytes-false}
use Rattle.utf.proofs.Places.{step16-at}
use Rattle.utf.proofs.Turns.{took-ascii, turn-sound, stops, goes, text_of-refused, text_of-kept}
use Rattle.utf.proofs.Laws.{bytes_of-values}

-- ---- a unit that is no surrogate

pub pair_of-plain : (u w : ℕ) → (u / 2048 ≡ 27 → ⊥) → pair_of u w ≡ Scalar u 2
unfolding pair_of
pair_of-plain u w n = go (ltb u 0xd800) refl
  where
    go : (t : Bool) → ltb u 0xd800 ≡ t → pair_of u w ≡ Scalar u 2
    go true e = let h = ltb-true u 0xd800 e in rw (lt-leb 0xd800 u h, lt-leb 0xdc00 u (omega arith))
    go false e =
        let h = ltb-false u 0xd800 e in
        let k : 0xdfff < u = omega (arith, n) in
        rw (le-leb 0xd800 u h, lt-leb u 0xdbff (omega arith), le-leb 0xdc00 u (omega arith), lt-leb u 0xdfff k)

pub took-unit : (s : List ℕ) (at : ℕ) → at + 1 < length s → ((i : ℕ) → get_or s i 0 < 256) → (get_or s (at + 1) 0 / 8 ≡ 27 → ⊥)
    → Took true s at (get_or s at 0 + get_or s (at + 1) 0 * 256) 2 true
unfolding unit
took-unit s at h b n =
    let u = get_or s at 0 + get_or s (at + 1) 0 * 256 in
    let low : get_or s at 0 < 256 = b at in
    let high : get_or s (at + 1) 0 < 256 = b (at + 1) in
    let m : u / 2048 ≡ 27 → ⊥ = λ e. n (omega arith) in
    let e : step16 (drop at s) ≡ Scalar u 2 = step16-at s at h ∙ pair_of-plain u (unit s (at + 2)) m in
    record {
      value-is = sym (ap step_value e);
      width_is = sym (ap width_of e);
      sound-is = sym (ap sound_of e);
      small = omega arith;
      least = omega arith;
      most = omega arith;
    }

-- ---- a run of sound steps

pub ran_none : (utf16 : Bool) (s : List ℕ) (at : ℕ) → Ran utf16 s at at
ran_none utf16 s at = record { later = omega arith; rest = refl }

pub ran-join : (utf16 : Bool) (s : List ℕ) (at i to : ℕ) → Ran utf16 s at i → Ran utf16 s i to → Ran utf16 s at to
ran-join utf16 s at i to p q = record { later = omega (arith, p.later, q.later); rest = q.rest ∙ p.rest }

pub ran-step : (utf16 : Bool) (s : List ℕ) (at i value width : ℕ) (sound : Bool) → Ran utf16 s at i → i < length s
    → Took utf16 s i value width sound → sound ≡ true → Ran utf16 s at (i + width)
ran-step utf16 s at i value width sound r h t e = record {
  later = omega (arith, r.later);
  rest = sym (goes _ _ sound (turn-sound utf16 s i value width sound h t) e) ∙ r.rest;
}

pub ran-ascii : (s : List ℕ) (at i : ℕ) → Ran false s at i → i < length s → get_or s i 0 < 128 → Ran false s at (i + 1)
ran-ascii s at i r h a = ran-step false s at i (get_or s i 0) 1 true r h (took-ascii false s i refl h a) refl

pub ran-unit : (s : List ℕ) (at i : ℕ) → Ran true s at i → i + 1 < length s → ((k : ℕ) → get_or s k 0 < 256) → (get_or s (i + 1) 0 / 8 ≡ 27 → ⊥)
    → Ran true s at (i + 2)
ran-unit s at i r h b n = ran-step true s at i (get_or s i 0 + get_or s (i + 1) 0 * 256) 2 true r (omega arith) (took-unit s i h b n) refl

-- where a run ends: at a step that is bad, or behind all that was looked at
pub halted-bad : (utf16 : Bool) (s : List ℕ) (at end i value width : ℕ) (sound : Bool) → Ran utf16 s at i → i < length s
    → Took utf16 s i value width sound → sound ≡ false → Halted utf16 s at end i
halted-bad utf16 s at end i value width sound r h t e = record {
  ran = r;
  halts = λ _. stops _ _ sound (turn-sound utf16 s i value width sound h t) e;
}

-- ---- the spelling of a value: a unit, or a pair of them, the low byte first

spell-unit : (a b : ℕ) → a < 256 → b < 256 → spell16 (a + b * 256) ≡ a ∷ b ∷ []
unfolding spell16
spell-unit a b ha hb =
    let low : (a + b * 256) % 256 ≡ a = omega arith in
    let high : (a + b * 256) / 256 ≡ b = omega arith in
    rw (lt-ltb (a + b * 256) 0x10000 (omega arith), low, high)

bytes-two : (u a b : ℕ) → a < 256 → u ≡ a + b * 256 → (u % 256 ≡ a) × (u / 256 ≡ b)
bytes-two u a b h e = (omega arith, omega arith)

spell-pair : (a b c d : ℕ) → a < 256 → c < 256 → 0xd800 ≤ a + b * 256 → 0xdc00 ≤ c + d * 256 → c + d * 256 ≤ 0xdfff
    → spell16 (0x10000 + (a + b * 256 - 0xd800) * 1024 + (c + d * 256 - 0xdc00)) ≡ a ∷ b ∷ c ∷ d ∷ []
unfolding spell16 spell_pair
spell-pair a b c d ha hc lu lw hw =
    let v = 0x10000 + (a + b * 256 - 0xd800) * 1024 + (c + d * 256 - 0xdc00) in
    let u = bytes-two (0xd800 + (v - 0x10000) / 1024) a b ha (omega arith) in
    let w = bytes-two (0xdc00 + (v - 0x10000) % 1024) c d hc (omega arith) in
    rw (le-ltb v 0x10000 (omega arith), u.0, u.1, w.0, w.1)

-- what a sound step spells, and what follows it, is what stands there
abbrev Spelt : List ℕ → Step → Type 0
Spelt s t = spell16 (step_value t) ++ drop (width_of t) s ≡ s

by-pair : (s : List ℕ) (x y z : Bool) (p q r t : Step) → (x ≡ true → y ≡ true → Spelt s p) → (x ≡ false → z ≡ false → Spelt s t)
    → sound_of q ≡ false → sound_of r ≡ false → sound_of (cond x (cond y p q) (cond z r t)) ≡ true → Spelt s (cond x (cond y p q) (cond z r t))
by-pair s true true z p q r t f g i j e = f refl refl
by-pair s true false z p q r t f g i j e = absurd (true≢false (sym e ∙ i))
by-pair s false y true p q r t f g i j e = absurd (true≢false (sym e ∙ j))
by-pair s false y false p q r t f g i j e = g refl refl

spelt-pair : (a b : ℕ) (s : List ℕ) → a < 256 → b < 256 → ((i : ℕ) → get_or s i 0 < 256) → 0xd800 ≤ a + b * 256
    → 0xdc00 ≤ get_or s 0 0 + get_or s 1 0 * 256 → get_or s 0 0 + get_or s 1 0 * 256 ≤ 0xdfff
    → spell16 (0x10000 + (a + b * 256 - 0xd800) * 1024 + (get_or s 0 0 + get_or s 1 0 * 256 - 0xdc00)) ++ drop 2 s ≡ a ∷ b ∷ s
spelt-pair a b [] ha hb h lu lw hw = absurd (let z : ⊥ = omega arith in z)
spelt-pair a b (c ∷ []) ha hb h lu lw hw = absurd (let z : ⊥ = omega (arith, h 0) in z)
spelt-pair a b (c ∷ d ∷ s) ha hb h lu lw hw = ap (λ (l : List ℕ). l ++ s) (spell-pair a b c d ha (h 0) lu lw hw)

spelt-two : (a b : ℕ) (s : List ℕ) → a < 256 → b < 256 → ((i : ℕ) → get_or s i 0 < 256)
    → sound_of (pair_of (a + b * 256) (get_or s 0 0 + get_or s 1 0 * 256)) ≡ true
    → Spelt (a ∷ b ∷ s) (pair_of (a + b * 256) (get_or s 0 0 + get_or s 1 0 * 256))
unfolding pair_of
spelt-two a b s ha hb h e =
    let u = a + b * 256 in
    let w = get_or s 0 0 + get_or s 1 0 * 256 in
    by-pair (a ∷ b ∷ s) (inside 0xd800 0xdbff u) (inside 0xdc00 0xdfff w) (inside 0xdc00 0xdfff u)
    (Scalar (0x10000 + (u - 0xd800) * 1024 + (w - 0xdc00)) 4) (Bad 2) (Bad 2) (Scalar u 2)
    (λ x y.
    let p = inside-ends 0xd800 0xdbff u x in
    let q = inside-ends 0xdc00 0xdfff w y in
    spelt-pair a b s ha hb h p.0 q.0 q.1)
    (λ x y. ap (λ (l : List ℕ). l ++ s) (spell-unit a b ha hb))
    refl refl e

pub step16-two : (a b : ℕ) (s : List ℕ) → step16 (a ∷ b ∷ s) ≡ pair_of (a + b * 256) (get_or s 0 0 + get_or s 1 0 * 256)
unfolding step16 unit
step16-two a b s = rw (lt-ltb 1 (suc (suc (length s))) (omega arith))

spelt-step : (s : List ℕ) → ((i : ℕ) → get_or s i 0 < 256) → sound_of (step16 s) ≡ true → Spelt s (step16 s)
unfolding step16
spelt-step [] h e = absurd (true≢false (sym e))
spelt-step (a ∷ []) h e = absurd (true≢false (sym e))
spelt-step (a ∷ b ∷ s) h e =
    rw (step16-two a b s) (spelt-two a b s (h 0) (h 1) (λ i. h (suc (suc i))) (sym (ap sound_of (step16-two a b s)) ∙ e))

-- ---- sound bytes are the spelling of their values

whole-after : (k : ℕ) (s : List ℕ) → ((i : ℕ) → get_or s i 0 < 256) → all_sound (steps_after true k s) ≡ true
    → spell_all (values_of (steps_after true k s)) ≡ drop k s
unfolding steps_after all_sound values_of spell_all
whole-after zero [] h e = refl
whole-after (suc k) [] h e = refl
whole-after (suc k) (b ∷ s) h e = whole-after k s (λ i. h (suc i)) e
whole-after zero (b ∷ s) h e =
    let t = step16 (b ∷ s) in
    let n = width_of t in
    let p = both_true (sound_of t) (all_sound (steps_after true (n - 1) s)) e in
    let least = (step_of-is true (b ∷ s) (omega arith) h).least in
    let m : suc (n - 1) ≡ n = omega (arith, least) in
    let f : drop (n - 1) s ≡ drop n (b ∷ s) = ap (λ (k : ℕ). drop k (b ∷ s)) m in
    rw (whole-after (n - 1) s (λ i. h (suc i)) p.1, f) (spelt-step (b ∷ s) h p.0)

pub whole-units : (s : List ℕ) → ((i : ℕ) → get_or s i 0 < 256) → refused true s ≡ false → spell_all (values_of (steps_of true s)) ≡ s
whole-units s h r = whole-after 0 s h (not-false (is_sound true s) r)

-- ---- two texts in UTF-16

same_units : (a b : List ℕ) → ((i : ℕ) → get_or a i 0 < 256) → ((i : ℕ) → get_or b i 0 < 256) → refused true a ≡ false → refused true b ≡ false
    → text_of true a ≡ text_of true b → a ≡ b
same_units a b ha hb ra rb e =
    let f : bytes_of (steps_of true a) ≡ bytes_of (steps_of true b) = sym (text_of-kept true a ra) ∙ e ∙ text_of-kept true b rb in
    let t : eq_bytes (bytes_of (steps_of true a)) (bytes_of (steps_of true b)) ≡ true = rw f (eq_bytes-refl (bytes_of (steps_of true b))) in
    let v = eq_bytes-true (values_of (steps_of true a)) (values_of (steps_of true b)) (sym (bytes_of-values (steps_of true a) (steps_of true b)) ∙ t) in
    sym (whole-units a ha ra) ∙ ap spell_all v ∙ whole-units b hb rb

-- where a text is not empty, another is the same by its bytes alone
pub differ-utf16 : (a b : List ℕ) → ((i : ℕ) → get_or a i 0 < 256) → ((i : ℕ) → get_or b i 0 < 256) → eq_bytes a b ≡ false
    → eq_bytes [] (text_of true a) ≡ false → eq_bytes (text_of true a) (text_of true b) ≡ false
differ-utf16 a b ha hb n some = eq_bytes-not (text_of true a) (text_of true b) (λ e. go e (refused true a) refl (refused true b) refl)
  where
    go : text_of true a ≡ text_of true b → (x : Bool) → refused true a ≡ x → (y : Bool) → refused true b ≡ y → ⊥
    go e true f y g = eq_bytes-false [] (text_of true a) some (sym (text_of-refused true a f))
    go e false f true g = eq_bytes-false [] (text_of true a) some (sym (e ∙ text_of-refused true b g))
    go e false f false g = eq_bytes-false a b n (same_units a b ha hb f g e)

pub same_bytes : (utf16 : Bool) (a b : List ℕ) → eq_bytes a b ≡ true → eq_bytes (text_of utf16 a) (text_of utf16 b) ≡ true
same_bytes utf16 a b e = rw (eq_bytes-true a b e) (eq_bytes-refl (text_of utf16 b))

pub sound-utf16 : (a b : List ℕ) → ((i : ℕ) → get_or a i 0 < 256) → ((i : ℕ) → get_or b i 0 < 256) → eq_bytes [] (text_of true a) ≡ false
    → eq_bytes a b ≡ eq_bytes (text_of true a) (text_of true b)
sound-utf16 a b ha hb some = go (eq_bytes a b) refl
  where
    go : (t : Bool) → eq_bytes a b ≡ t → eq_bytes a b ≡ eq_bytes (text_of true a) (text_of true b)
    go true e = e ∙ sym (same_bytes true a b e)
    go false e = e ∙ sym (differ-utf16 a b ha hb e some)
