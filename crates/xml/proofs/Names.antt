-- One turn of the loop over a name, and where it starts and ends.
use mathlib.Core.Path.{◌≡◌, refl, sym, ap, ◌∙◌}
use mathlib.Core.Bool.{Bool, true, false, not, ◌&&◌, cond, true≢false}
use mathlib.Core.List.{List}
use Prim.Native.Nat.{ℕ, suc, ◌+◌, ◌*◌, ◌/◌, ◌≤◌, ◌<◌}
use native.Mathlib.Omega.{arith}
use borrow.Author.Tests.{eq-eqb, ne_eqb, eqb-true}
use denote.Enum.Bare.{sameb}
use lib.Dec.{eqb}
use lib.ListN.{length, get_or, drop}
use Rattle.utf.specs.Text.{step_of, step_value, width_of, sound_of, steps_of, all_sound, is_sound}
use Rattle.utf.specs.Inner.StepRuns.{Took}
use Rattle.utf.proofs.Steps.{step_of-is, steps_of-next, steps_of-end}
use Rattle.utf.proofs.Turns.{took-ascii, turn-sound, end-sound, stops, goes}
use Rattle.utf.proofs.Units.{took-unit}
use Rattle.xml.specs.declared.Sort.{Sort}
use Rattle.xml.specs.declared.Sort.TheVariants.{Outside, Start, Later}
use Rattle.xml.specs.contracts.Sort.{the_type}
use Rattle.xml.specs.NCName.{is_start, is_char, char_sort, all_char, is_nc_name, valid_name}
use Rattle.xml.specs.Inner.NameRun.{sort_number, sort_by, sort_at, begins, chars_in, Told, Passed, Seen, Went, Reached}
use Rattle.xml.proofs.Chains.{chain_of}
use Rattle.xml.proofs.Sorts.{char_sort-start, char_sort-char}

-- ---- a sort that is compared with the one of what is in no name

pub outside-sort : (k : Sort) → sameb the_type k Outside ≡ true → sort_number k ≡ 0
outside-sort Outside e = refl
outside-sort Start e = absurd (true≢false (sym e))
outside-sort Later e = absurd (true≢false (sym e))

pub inside-sort : (k : Sort) → sameb the_type k Outside ≡ false → sort_number k ≡ 0 → ⊥
inside-sort Outside e z = true≢false e
inside-sort Start e z = omega arith
inside-sort Later e z = omega arith

-- ---- what is told of a step

pub told : (utf16 : Bool) (s : List ℕ) (at value width sort : ℕ) (sound : Bool) → Took utf16 s at value width sound → sort ≡ sort_by utf16 sound value
    → Told utf16 s at sort width
told utf16 s at value width sort sound t e = record {
  sort-is = e ∙ ap (λ (v : ℕ). sort_by utf16 sound v) t.value-is ∙ ap (λ (b : Bool). sort_by utf16 b (step_value (step_of utf16 (drop at s)))) t.sound-is;
  width_is = t.width_is;
  least = t.least;
  most = t.most;
}

pub told-ascii : (s : List ℕ) (at sort : ℕ) → at < length s → get_or s at 0 < 128 → sort ≡ char_sort (get_or s at 0) → Told false s at sort 1
told-ascii s at sort h a e = told false s at (get_or s at 0) 1 sort true (took-ascii false s at refl h a) e

pub told-unit : (s : List ℕ) (at sort : ℕ) → at + 1 < length s → ((i : ℕ) → get_or s i 0 < 256) → get_or s (at + 1) 0 ≡ 0
    → sort ≡ char_sort (get_or s at 0) → Told true s at sort 2
told-unit s at sort h b z e =
    let u = get_or s at 0 + get_or s (at + 1) 0 * 256 in
    let i : get_or s at 0 ≡ u = omega arith in
    told true s at u 2 sort true (took-unit s at h b (λ f. omega arith)) (e ∙ ap char_sort i)

-- ---- a turn

turn_by : (w x y c d : Bool) (k : ℕ) (f : ℕ → Bool) → f 0 ≡ false → f k ≡ c
    → cond (w && not (x && y)) false (c && d) ≡ (f (cond (w && not x) 0 k) && cond (w && not y) false d)
turn_by false x y c d k f z e = ap (λ (b : Bool). b && d) (sym e)
turn_by true true true c d k f z e = ap (λ (b : Bool). b && d) (sym e)
turn_by true true false true d k f z e = ap (λ (b : Bool). b && false) (sym e)
turn_by true true false false d k f z e = ap (λ (b : Bool). b && false) (sym e)
turn_by true false y c d k f z e = ap (λ (b : Bool). b && cond (not y) false d) (sym z)

module _ (utf16 : Bool) (s : List ℕ) (at sort width : ℕ) (h : at < length s) (t : Told utf16 s at sort width) where
  pub turn-char : chars_in utf16 (drop at s) ≡ (not (eqb sort 0) && chars_in utf16 (drop (at + width) s))
  unfolding all_char all_sound
  turn-char =
      let here = step_of utf16 (drop at s) in
      let rest = steps_of utf16 (drop (at + width) s) in
      rw (steps_of-next utf16 s at width h t.width_is t.least, t.sort-is)
      (turn_by utf16 (sound_of here) (all_sound rest) (is_char (step_value here)) (all_char rest) (char_sort (step_value here)) (λ k. not (eqb k 0)) refl
      (char_sort-char (step_value here)))

  pub turn-name : valid_name utf16 (drop at s) ≡ (eqb sort 1 && chars_in utf16 (drop (at + width) s))
  unfolding valid_name is_nc_name all_sound
  turn-name =
      let here = step_of utf16 (drop at s) in
      let rest = steps_of utf16 (drop (at + width) s) in
      rw (steps_of-next utf16 s at width h t.width_is t.least, t.sort-is)
      (turn_by utf16 (sound_of here) (all_sound rest) (is_start (step_value here)) (all_char rest) (char_sort (step_value here)) (λ k. eqb k 1) refl
      (char_sort-start (step_value here)))

-- ---- the first char

begins-by : (k : ℕ) (x : Bool) → (eqb k 1 && x) ≡ (eqb k 1 && (not (eqb k 0) && x))
begins-by k x = go (eqb k 1) refl
  where
    go : (b : Bool) → eqb k 1 ≡ b → (b && x) ≡ (b && (not (eqb k 0) && x))
    go false e = refl
    go true e = let z = eqb-true k 1 e in rw (ne_eqb k 0 (λ f. omega arith))

-- a text is a name where it begins with a start and holds chars alone
pub valid_name-begins : (utf16 : Bool) (s : List ℕ) → 0 < length s → ((i : ℕ) → get_or s i 0 < 256) → valid_name utf16 s ≡ (begins utf16 s && chars_in utf16 s)
valid_name-begins utf16 s h b =
    let is = step_of-is utf16 s h b in
    let n = width_of (step_of utf16 s) in
    let k = sort_at utf16 (step_of utf16 s) in
    let t : Told utf16 s 0 k n = record { sort-is = refl; width_is = refl; least = is.least; most = is.most } in
    turn-name utf16 s 0 k n h t
    ∙ begins-by k (chars_in utf16 (drop (0 + n) s))
    ∙ ap (λ (x : Bool). eqb k 1 && x) (sym (turn-char utf16 s 0 k n h t))

-- ---- a run of chars

pub passed_on : (utf16 : Bool) (s : List ℕ) (at i to : ℕ) → Passed utf16 s at i → Passed utf16 s i to → Passed utf16 s at to
passed_on utf16 s at i to p q = record { later = omega (arith, p.later, q.later); rest = q.rest ∙ p.rest }

pub passed-more : (utf16 : Bool) (s : List ℕ) (at i sort width : ℕ) → Passed utf16 s at i → i < length s → Told utf16 s i sort width → (sort ≡ 0 → ⊥)
    → Passed utf16 s at (i + width)
passed-more utf16 s at i sort width p h t n = record {
  later = omega (arith, p.later);
  rest = sym (goes _ _ (not (eqb sort 0)) (turn-char utf16 s i sort width h t) (ap not (ne_eqb sort 0 n))) ∙ p.rest;
}

pub passed-chain : (s : List ℕ) (f : ℕ → ℕ) (n at to : ℕ) → f 0 ≡ at → f n ≡ to → ((k j : ℕ) → k < n → j ≡ f (suc k) → Passed false s (f k) j)
    → Passed false s at to
passed-chain s = chain_of (λ (i j : ℕ). Passed false s i j) (λ i. record { later = omega arith; rest = refl }) (λ i j k. passed_on false s i j k)

-- ---- a run of chars that are sound

pub seen_none : (utf16 : Bool) (s : List ℕ) (at : ℕ) → Seen utf16 s at at
seen_none utf16 s at = record { passed = record { later = omega arith; rest = refl }; sound = refl }

pub seen-on : (utf16 : Bool) (s : List ℕ) (at i to : ℕ) → Seen utf16 s at i → Seen utf16 s i to → Seen utf16 s at to
seen-on utf16 s at i to p q = record { passed = passed_on utf16 s at i to p.passed q.passed; sound = q.sound ∙ p.sound }

pub seen-chain : (utf16 : Bool) (s : List ℕ) (f : ℕ → ℕ) (n at to : ℕ) → f 0 ≡ at → f n ≡ to → ((k j : ℕ) → k < n → j ≡ f (suc k) → Seen utf16 s (f k) j)
    → Seen utf16 s at to
seen-chain utf16 s = chain_of (λ (i j : ℕ). Seen utf16 s i j) (seen_none utf16 s) (λ i j k. seen-on utf16 s i j k)

sort-sound : (utf16 : Bool) (v : ℕ) → char_sort v ≡ sort_by utf16 true v
sort-sound true v = refl
sort-sound false v = refl

-- one step, whose value is a char of a name
pub seen_step : (utf16 : Bool) (s : List ℕ) (at value width : ℕ) → at < length s → Took utf16 s at value width true → (char_sort value ≡ 0 → ⊥)
    → Seen utf16 s at (at + width)
seen_step utf16 s at value width h t n =
    let here = told utf16 s at value width (char_sort value) true t (sort-sound utf16 value) in
    record {
      passed = passed-more utf16 s at at (char_sort value) width (seen_none utf16 s at).passed h here n;
      sound = sym (goes _ _ true (turn-sound utf16 s at value width true h t) refl);
    }

pub seen-ascii : (s : List ℕ) (at : ℕ) → at < length s → get_or s at 0 < 128 → (char_sort (get_or s at 0) ≡ 0 → ⊥) → Seen false s at (at + 1)
seen-ascii s at h a n = seen_step false s at (get_or s at 0) 1 h (took-ascii false s at refl h a) n

-- a unit that is no surrogate
pub seen-char : (s : List ℕ) (at : ℕ) → at + 1 < length s → ((k : ℕ) → get_or s k 0 < 256) → (get_or s (at + 1) 0 / 8 ≡ 27 → ⊥)
    → (char_sort (get_or s at 0 + get_or s (at + 1) 0 * 256) ≡ 0 → ⊥) → Seen true s at (at + 2)
seen-char s at h b n c = seen_step true s at (get_or s at 0 + get_or s (at + 1) 0 * 256) 2 (omega arith) (took-unit s at h b n) c

-- ---- as far as a place: no char stands before it, or it is reached

pub reached-none : (utf16 : Bool) (s : List ℕ) (at i to : ℕ) → Passed utf16 s at i → (sort width : ℕ) → i < length s → Told utf16 s i sort width → sort ≡ 0
    → Reached utf16 s at to i
reached-none utf16 s at i to p sort width h t e = record {
  passed = p;
  stuck = λ k. stops _ _ (not (eqb sort 0)) (turn-char utf16 s i sort width h t) (ap not (eq-eqb sort 0 e));
}

-- ---- so far from a place in UTF-8

module _ (s : List ℕ) (at sort width : ℕ) (h : at < length s) (t : Told false s at sort width) where
  pub stuck-told : sort ≡ 0 → chars_in false (drop at s) ≡ false
  stuck-told e = stops _ _ (not (eqb sort 0)) (turn-char false s at sort width h t) (ap not (eq-eqb sort 0 e))

  pub went-told : (sort ≡ 0 → ⊥) → Went false s at width
  went-told n = record {
    passed = passed-more false s at at sort width (seen_none false s at).passed h t n;
    least = t.least;
    most = omega (arith, t.most);
  }

pub went-one : (s : List ℕ) (at : ℕ) → at < length s → Passed false s at (at + 1) → Went false s at 1
went-one s at h p = record { passed = p; least = omega arith; most = omega arith }

-- ---- the ends

end_by : (w : Bool) → cond (w && not true) false true ≡ true
end_by true = refl
end_by false = refl

none-by : (w : Bool) → cond (w && not true) false false ≡ false
none-by true = refl
none-by false = refl

pub end-char : (utf16 : Bool) (s : List ℕ) (at : ℕ) → length s ≤ at → chars_in utf16 (drop at s) ≡ true
unfolding all_char all_sound
end-char utf16 s at h = rw (steps_of-end utf16 s at h) (end_by utf16)

pub valid_name-none : (utf16 : Bool) (s : List ℕ) → length s ≡ 0 → valid_name utf16 s ≡ false
unfolding valid_name is_nc_name all_sound
valid_name-none utf16 s e = rw (steps_of-end utf16 s 0 (omega arith)) (none-by utf16)

-- ---- a name that is whole

-- one that begins well, and was seen to its end
pub whole-seen : (s : List ℕ) (to : ℕ) → 0 < length s → ((i : ℕ) → get_or s i 0 < 256) → begins false s ≡ true → Seen false s 0 to → length s ≤ to
    → (valid_name false s ≡ true) × (is_sound false s ≡ true)
whole-seen s to h b e p f =
    let chars : chars_in false s ≡ true = sym p.passed.rest ∙ end-char false s to f in
    (goes _ _ (begins false s) (valid_name-begins false s h b) e ∙ chars, sym p.sound ∙ end-sound false s to f)

utf16-by : (x n : Bool) → cond (true && not x) false n ≡ (cond (true && not x) false n && x)
utf16-by true true = refl
utf16-by true false = refl
utf16-by false n = refl

-- a name in UTF-16 is sound, since the text is else refused
pub valid-utf16 : (s : List ℕ) → valid_name true s ≡ (valid_name true s && is_sound true s)
unfolding valid_name
valid-utf16 s = utf16-by (is_sound true s) (is_nc_name (steps_of true s))

-- what was told of either encoding
pub whole-utf16 : (utf16 : Bool) (s : List ℕ) (r : Bool) → utf16 ≡ true → r ≡ valid_name true s → r ≡ (valid_name utf16 s && is_sound utf16 s)
whole-utf16 true s r w e = e ∙ valid-utf16 s
whole-utf16 false s r w e = absurd (true≢false (sym w))

pub whole-utf8 : (utf16 : Bool) (s : List ℕ) (r : Bool) → utf16 ≡ false → r ≡ (valid_name false s && is_sound false s) → r ≡ (valid_name utf16 s && is_sound utf16 s)
whole-utf8 true s r w e = absurd (true≢false w)
whole-utf8 false s r w e = e

pub not_first : (x y : Bool) → x ≡ false → false ≡ (x && y)
not_first x y e = rw e
