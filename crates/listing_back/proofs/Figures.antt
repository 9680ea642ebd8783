-- A number at a place of a text, digit by digit, as the code takes it. No contract cites this file.
use Rattle.std.specs.Prelude.{Option, Some, None}
use Prim.Native.Nat.{ℕ, ◌+◌, ◌-◌, ◌*◌, ◌≤◌, ◌<◌, min}
use mathlib.Core.Path.{◌≡◌, refl, sym, ap, subst, ◌∙◌}
use mathlib.Core.Bool.{true, false, cond}
use mathlib.Core.List.{List}
use native.Mathlib.Omega.{arith}
use native.Mathlib.Nat.{add-zero}
use native.Mathlib.Numerals.{add-one}
use borrow.Author.Tests.{ne_eqb}
use lib.ListN.{length, drop, get_or, drop_of_length-le}
use lib.Seq.{drop-cons, drop-drop, get_or-drop}
use Rattle.listing_back.specs.Forms.{nothing, number, is_digit, digits_from, number_at_front}
use Rattle.listing_back.specs.Inner.Stands.{FigureAt, IsFigure}
use Rattle.listing_back.specs.declared.taking.Figure.{Figure}

figure-made :
    (text : List ℕ) (v p whole : ℕ) → v ≡ min whole 4294967296 → p ≤ length text → FigureAt text (record { value = v; end = p }) whole (drop p text)
figure-made text v p whole e h = record { value = e; rest = refl; inside = h }

-- ---- digits

pub record DigitsSoFar (text : List ℕ) (from v p : ℕ) : Type 0 where
  pub whole : ℕ
  pub same : digits_from 0 (drop from text) ≡ digits_from whole (drop p text)
  pub value : v ≡ min whole 4294967296
  pub inside : p ≤ length text

pub digits-first : (text : List ℕ) (from : ℕ) → from ≤ length text → DigitsSoFar text from 0 from
digits-first text from h = record { whole = 0; same = refl; value = refl; inside = h }

digits_from-more :
    (v : ℕ) (text : List ℕ) (p : ℕ) → p < length text → is_digit (get_or text p 0) ≡ true →
    digits_from v (drop p text) ≡ digits_from (v * 10 + (get_or text p 0 - 48)) (drop (p + 1) text)
unfolding digits_from
digits_from-more v text p h e = rw (drop-cons text p 0 h, e, add-one p)

digits_from-here : (v : ℕ) (text : List ℕ) (p : ℕ) → p < length text → is_digit (get_or text p 0) ≡ false → digits_from v (drop p text) ≡ number v (drop p text)
unfolding digits_from
digits_from-here v text p h e = rw (drop-cons text p 0 h, e)

digits_from-end : (v : ℕ) (text : List ℕ) (p : ℕ) → length text ≤ p → digits_from v (drop p text) ≡ number v (drop p text)
unfolding digits_from
digits_from-end v text p h = rw (drop_of_length-le text h)

pub digits_more :
    (text : List ℕ) {from v p : ℕ} {r : ℕ} → DigitsSoFar text from v p → p < length text → is_digit (get_or text p 0) ≡ true →
    r ≡ min (v * 10 + (get_or text p 0 - 48)) 4294967296 → DigitsSoFar text from r (p + 1)
digits_more text {from} {v} {p} {r} s h e q =
    record {
      whole = s.whole * 10 + (get_or text p 0 - 48);
      same = s.same ∙ digits_from-more s.whole text p h e;
      value = let a = s.value in omega arith;
      inside = omega arith;
    }

module _ (text : List ℕ) {from v p : ℕ} (s : DigitsSoFar text from v p) where
  pub digits-stop : p < length text → is_digit (get_or text p 0) ≡ false → IsFigure text (Some (record { value = v; end = p })) (digits_from 0 (drop from text))
  digits-stop h e =
      subst (IsFigure text (Some (record { value = v; end = p }))) (sym (s.same ∙ digits_from-here s.whole text p h e)) (figure-made text v p s.whole s.value s.inside)

  pub digits-end : length text ≤ p → IsFigure text (Some (record { value = v; end = p })) (digits_from 0 (drop from text))
  digits-end h =
      subst (IsFigure text (Some (record { value = v; end = p }))) (sym (s.same ∙ digits_from-end s.whole text p h)) (figure-made text v p s.whole s.value s.inside)

-- ---- a number

front-drop : (text : List ℕ) (p : ℕ) → get_or (drop p text) 0 0 ≡ get_or text p 0
front-drop text p = get_or-drop p text 0 0 ∙ ap (λ (x : ℕ). get_or text x 0) (add-zero p)

module _ (text : List ℕ) (p : ℕ) where
  pub number-end : length text ≤ p → number_at_front (drop p text) ≡ nothing
  unfolding number_at_front
  number-end h = rw (drop_of_length-le text h)

  pub number-zero-at : get_or text p 0 ≡ 48 → number_at_front (drop p text) ≡ cond (is_digit (get_or text (p + 1) 0)) nothing (number 0 (drop (p + 1) text))
  unfolding number_at_front
  number-zero-at e = rw (front-drop text p, e, get_or-drop p text 1 0, drop-drop 1 p text)

  pub number-none-at : (get_or text p 0 ≡ 48 → ⊥) → is_digit (get_or text p 0) ≡ false → number_at_front (drop p text) ≡ nothing
  unfolding number_at_front
  number-none-at n e = rw (front-drop text p, ne_eqb (get_or text p 0) 48 n, e)

  pub number-digits-at : (get_or text p 0 ≡ 48 → ⊥) → is_digit (get_or text p 0) ≡ true → number_at_front (drop p text) ≡ digits_from 0 (drop p text)
  unfolding number_at_front
  number-digits-at n e = rw (front-drop text p, ne_eqb (get_or text p 0) 48 n, e)

-- a 0 first, as `number_at` hands it on
pub zero_first :
    (text : List ℕ) (p : ℕ) (r : Option Figure) → get_or text p 0 ≡ 48 →
    IsFigure text r (cond (is_digit (get_or text (p + 1) 0)) nothing (number 0 (drop (p + 1) text))) → IsFigure text r (number_at_front (drop p text))
zero_first text p r e h = rw (number-zero-at text p e) h

pub zero-alone :
    (text : List ℕ) (p : ℕ) → p < length text → is_digit (get_or text (p + 1) 0) ≡ false →
    IsFigure text (Some (record { value = 0; end = p + 1 })) (cond (is_digit (get_or text (p + 1) 0)) nothing (number 0 (drop (p + 1) text)))
zero-alone text p h e = rw e (figure-made text 0 (p + 1) 0 refl (omega arith))

pub zero-padded :
    (text : List ℕ) (p : ℕ) → is_digit (get_or text (p + 1) 0) ≡ true →
    IsFigure text None (cond (is_digit (get_or text (p + 1) 0)) nothing (number 0 (drop (p + 1) text)))
zero-padded text p e = rw e tt
