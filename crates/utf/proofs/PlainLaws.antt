-- A plain text is told by its bytes (`plain-same`): in UTF-8 since what is damaged holds U+FFFD, which is not ASCII (`ascii-sound`).
use mathlib.Core.Path.{◌≡◌, refl, sym, ap, ◌∙◌}
use mathlib.Core.Bool.{Bool, true, false, cond, beq, true≢false}
use mathlib.Core.List.{List, [], ◌∷◌, ◌++◌}
use Prim.Native.Nat.{ℕ, zero, suc, ◌-◌, max, ◌<◌}
use borrow.Author.Tests.{not-true}
use lib.ListN.{get_or, take}
use Rattle.utf.specs.declared.Step.TheVariants.{Scalar, Bad}
use Rattle.utf.specs.Utf8.{table37, longest, any_whole, spelt, encode, step8}
use Rattle.utf.specs.Text.{step_value, width_of, sound_of, steps_after, bytes_of, all_sound, is_sound, text_of, eq_bytes}
use Rattle.utf.specs.Plain.{is_ascii, is_plain}
use Rattle.utf.proofs.Equal.{eq_bytes-true, eq_bytes-not}
use Rattle.utf.proofs.Laws.{is_sound-ascii, text_of-ascii, text_of-whole}
use Rattle.utf.proofs.Units.{sound-utf16}
use Rattle.utf.proofs.Ascii.{is_ascii-at, is_ascii-rest}

-- ---- a text of ASCII has no bad step

sound-by : (b : Bool) (v n m : ℕ) (r : List ℕ) → is_ascii (encode (step_value (cond b (Scalar v n) (Bad m))) ++ r) ≡ true
    → sound_of (cond b (Scalar v n) (Bad m)) ≡ true
unfolding is_ascii encode
sound-by true v n m r e = refl
sound-by false v n m r e = absurd (true≢false (sym e))

sound-step : (b : ℕ) (s r : List ℕ) → is_ascii (encode (step_value (step8 (b ∷ s))) ++ r) ≡ true → sound_of (step8 (b ∷ s)) ≡ true
unfolding step8
sound-step b s r e =
    let n = longest table37 (b ∷ s) in
    sound-by (any_whole table37 (b ∷ s)) (spelt (take n (b ∷ s))) n (max 1 n) r e

ascii-sound : (k : ℕ) (s : List ℕ) → is_ascii (bytes_of (steps_after false k s)) ≡ true → all_sound (steps_after false k s) ≡ true
unfolding steps_after bytes_of all_sound
ascii-sound zero [] e = refl
ascii-sound (suc k) [] e = refl
ascii-sound (suc k) (b ∷ s) e = ascii-sound k s e
ascii-sound zero (b ∷ s) e =
    let t = step8 (b ∷ s) in
    let rest = bytes_of (steps_after false (width_of t - 1) s) in
    rw (sound-step b s rest e) (ascii-sound (width_of t - 1) s (is_ascii-rest (encode (step_value t)) rest e))

-- ---- the same text

utf8-same : (a b : List ℕ) → is_ascii b ≡ true → eq_bytes a b ≡ eq_bytes (text_of false a) (text_of false b)
unfolding text_of
utf8-same a b e = ap (eq_bytes a) (sym (text_of-ascii b (is_ascii-at b e))) ∙ go (is_sound false a) refl
  where
    go : (t : Bool) → is_sound false a ≡ t → eq_bytes a (text_of false b) ≡ eq_bytes (text_of false a) (text_of false b)
    go true f = ap (λ (l : List ℕ). eq_bytes l (text_of false b)) (sym (text_of-whole a f))
    go false f =
        let is = text_of-ascii b (is_ascii-at b e) in
        let sound = is_sound-ascii b (is_ascii-at b e) in
        let bytes = eq_bytes-not a (text_of false b) (λ g. true≢false (sym sound ∙ sym (ap (is_sound false) (g ∙ is)) ∙ f)) in
        let text = eq_bytes-not (text_of false a) (text_of false b) (λ g. true≢false (sym (ascii-sound 0 a (ap is_ascii (g ∙ is) ∙ e)) ∙ f)) in
        bytes ∙ sym text

eq_bytes-swap : (x y : List ℕ) → eq_bytes x y ≡ eq_bytes y x
eq_bytes-swap x y = go (eq_bytes x y) refl (eq_bytes y x) refl
  where
    go : (s : Bool) → eq_bytes x y ≡ s → (t : Bool) → eq_bytes y x ≡ t → eq_bytes x y ≡ eq_bytes y x
    go true e t f = ap (λ (l : List ℕ). eq_bytes l y) (eq_bytes-true x y e) ∙ ap (eq_bytes y) (sym (eq_bytes-true x y e))
    go false e true f = ap (λ (l : List ℕ). eq_bytes x l) (eq_bytes-true y x f) ∙ ap (λ (l : List ℕ). eq_bytes l x) (sym (eq_bytes-true y x f))
    go false e false f = e ∙ sym f

pub plain-same : (utf16 : Bool) (a b : List ℕ) → ((i : ℕ) → get_or a i 0 < 256) → ((i : ℕ) → get_or b i 0 < 256) → is_plain utf16 b ≡ true
    → eq_bytes a b ≡ eq_bytes (text_of utf16 a) (text_of utf16 b)
plain-same false a b ha hb p = utf8-same a b p
plain-same true a b ha hb p =
    eq_bytes-swap a b ∙ sound-utf16 b a hb ha (not-true (eq_bytes [] (text_of true b)) p) ∙ eq_bytes-swap (text_of true b) (text_of true a)

pub beq-true : (x y : Bool) → beq x y ≡ true → x ≡ y
beq-true true true e = refl
beq-true true false e = sym e
beq-true false true e = e
beq-true false false e = refl
