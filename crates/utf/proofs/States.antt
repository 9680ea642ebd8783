-- What the state of a text means, for readers of specs/Text.antt. In order: state 0 by the bytes, in UTF-8 (`whole-utf8`) and in UTF-16
-- (`whole-utf16`); the count by Table 3-7 (`replaced-front`) and for a character of the file's own (`replaced-own`); which states have a count.
use mathlib.Core.Path.{◌≡◌, refl, sym, ap, ◌∙◌}
use mathlib.Core.Bool.{Bool, true, false, cond, true≢false}
use mathlib.Core.List.{List, [], ◌∷◌, ◌++◌}
use Prim.Native.Nat.{ℕ, suc, ◌+◌, ◌<◌, max}
use native.Mathlib.Omega.{arith}
use lib.ListN.{get_or, drop}
use Rattle.utf.specs.Utf8.{is_scalar, table37, longest, any_whole, encode, step8}
use Rattle.utf.specs.Utf16.{spell_all}
use Rattle.utf.specs.Text.{width_of, steps_after, steps_of, values_of, all_sound, bad_count, is_sound, refused, text_of, utf16_of}
use Rattle.utf.specs.Text.{Damage, whole, replaced, unpaired, cut, damage_of, state_number, replaced_count}
use Rattle.utf.proofs.Sound8.{step8-is, step8-sound, step8-width}
use Rattle.utf.proofs.Steps.{steps_of-step, steps_of-encode}
use Rattle.utf.proofs.Turns.{text_of-refused}
use Rattle.utf.proofs.Laws.{text_of-whole, text_of-sound, text_of-values, damage_of-replaced}
use Rattle.utf.proofs.Units.{whole-units}
use Rattle.utf.proofs.BadSteps.{state-whole, state-utf16, state-utf8, replaced-utf8}

-- ---- state 0

sound-of : (utf16 : Bool) (s : List ℕ) → state_number (damage_of utf16 s) ≡ 0 → is_sound utf16 s ≡ true
sound-of utf16 s e = go utf16 refl (is_sound utf16 s) refl
  where
    go : (w : Bool) → utf16 ≡ w → (t : Bool) → is_sound utf16 s ≡ t → is_sound utf16 s ≡ true
    go w f true g = g
    go true f false g = absurd (let z : ⊥ = omega (arith, e, state-utf16 utf16 s f g) in z)
    go false f false g = absurd (let z : ⊥ = omega (arith, e, state-utf8 utf16 s f g) in z)

-- in UTF-8 the text is the bytes themselves
pub whole-utf8 : (s : List ℕ) → state_number (damage_of false s) ≡ 0 → text_of false s ≡ s
whole-utf8 s e = text_of-whole s (sound-of false s e)

pub utf8-whole : (s : List ℕ) → ((i : ℕ) → get_or s i 0 < 256) → text_of false s ≡ s → state_number (damage_of false s) ≡ 0
utf8-whole s b e = sym (state-whole false s (ap (is_sound false) (sym e) ∙ text_of-sound false s b))

-- in UTF-16 the text, written as UTF-16, is the bytes
pub whole-utf16 : (s : List ℕ) → ((i : ℕ) → get_or s i 0 < 256) → state_number (damage_of true s) ≡ 0 → utf16_of (text_of true s) ≡ s
whole-utf16 s b e =
    let r : refused true s ≡ false = rw (sound-of true s e) in
    ap spell_all (text_of-values true s b r) ∙ whole-units s b r

blank-sound : (s : List ℕ) → [] ≡ s → is_sound true s ≡ true
unfolding all_sound steps_after
blank-sound [] e = refl
blank-sound (a ∷ s) e = let z : ◌≡◌ {A = ℕ} 0 1 = cc in absurd (let y : ⊥ = omega arith in y)

pub utf16-whole : (s : List ℕ) → ((i : ℕ) → get_or s i 0 < 256) → utf16_of (text_of true s) ≡ s → state_number (damage_of true s) ≡ 0
unfolding steps_after values_of spell_all
utf16-whole s b e = go (is_sound true s) refl
  where
    go : (t : Bool) → is_sound true s ≡ t → state_number (damage_of true s) ≡ 0
    go true f = sym (state-whole true s f)
    go false f =
        let r : refused true s ≡ true = rw f in
        let q : [] ≡ s = sym (ap utf16_of (text_of-refused true s r)) ∙ e in
        absurd (true≢false (sym (blank-sound s q) ∙ f))

-- ---- how many were replaced

count-is : (s : List ℕ) → replaced_count (damage_of false s) ≡ bad_count (steps_of false s)
count-is s = sym (replaced-utf8 false s (bad_count (steps_of false s)) refl refl)

pub replaced-nil : replaced_count (damage_of false []) ≡ 0
unfolding bad_count steps_after
replaced-nil = count-is []

one_more : (b : Bool) (m : ℕ) → cond b m (suc m) ≡ cond b 0 1 + m
one_more true m = omega arith
one_more false m = omega arith

-- by Table 3-7: nothing where some row is whole at the front, and one where none is; then behind the longest part of a row, a byte at least
pub replaced-front : (b : ℕ) (s : List ℕ) → replaced_count (damage_of false (b ∷ s))
    ≡ cond (any_whole table37 (b ∷ s)) 0 1 + replaced_count (damage_of false (drop (max 1 (longest table37 (b ∷ s))) (b ∷ s)))
unfolding bad_count
replaced-front b s =
    let t = step8 (b ∷ s) in
    let n = width_of t in
    let rest = drop (max 1 (longest table37 (b ∷ s))) (b ∷ s) in
    let m = bad_count (steps_of false rest) in
    count-is (b ∷ s)
    ∙ ap bad_count (steps_of-step false (b ∷ s) n (omega arith) refl (step8-is b s).least)
    ∙ ap (λ (k : ℕ). bad_count (t ∷ steps_of false (drop k (b ∷ s)))) (step8-width b s)
    ∙ ap (λ (x : Bool). cond x m (suc m)) (step8-sound b s)
    ∙ one_more (any_whole table37 (b ∷ s)) m
    ∙ ap (λ (k : ℕ). cond (any_whole table37 (b ∷ s)) 0 1 + k) (sym (count-is rest))

-- a character that stands in the file is none that was put in, U+FFFD neither
pub replaced-own : (v : ℕ) (s : List ℕ) → is_scalar v ≡ true → replaced_count (damage_of false (encode v ++ s)) ≡ replaced_count (damage_of false s)
unfolding bad_count
replaced-own v s k = count-is (encode v ++ s) ∙ ap bad_count (steps_of-encode v s k) ∙ sym (count-is s)

-- ---- which states have a count

pub replaced-some : (utf16 : Bool) (s : List ℕ) → state_number (damage_of utf16 s) ≡ 1 → (0 < replaced_count (damage_of utf16 s))
replaced-some utf16 s e = go utf16 refl (is_sound utf16 s) refl
  where
    utf8 : utf16 ≡ false → is_sound utf16 s ≡ false → 0 < replaced_count (damage_of utf16 s)
    utf8 f g = let h = rw f at g in rw f (omega (arith, (damage_of-replaced s h).1, count-is s))

    go : (w : Bool) → utf16 ≡ w → (t : Bool) → is_sound utf16 s ≡ t → 0 < replaced_count (damage_of utf16 s)
    go w f true g = absurd (let z : ⊥ = omega (arith, e, state-whole utf16 s g) in z)
    go true f false g = absurd (let z : ⊥ = omega (arith, e, state-utf16 utf16 s f g) in z)
    go false f false g = utf8 f g

pub replaced-none : (d : Damage) → (state_number d ≡ 1 → ⊥) → replaced_count d ≡ 0
replaced-none whole e = refl
replaced-none (replaced n) e = absurd (e refl)
replaced-none unpaired e = refl
replaced-none cut e = refl
