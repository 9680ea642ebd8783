-- Laws of specs/Inner/ClearPlaces.antt: a clear place is passed by one byte, whether a char begins there or not (`clear-passes`).
-- In order: the values of four bytes that are clear; a place. Which bytes are clear: proofs/ClearBytes.antt.
use mathlib.Core.Path.{◌≡◌, refl, sym, subst, ap, ◌∙◌}
use mathlib.Core.Bool.{Bool, true, false}
use mathlib.Core.List.{List}
use Prim.Native.Nat.{ℕ, ◌+◌, ◌*◌, ◌%◌, ◌≤◌, ◌<◌}
use native.Mathlib.Omega.{arith}
use borrow.Author.Tests.{le-leb, lt-ltb, le-ltb, ltb-true, ltb-false}
use lib.Dec.{ltb}
use lib.ListN.{length, get_or, drop}
use Rattle.utf.specs.declared.Step.{Step}
use Rattle.utf.specs.declared.Step.TheVariants.{Bad}
use Rattle.utf.specs.Utf8.{step8}
use Rattle.utf.specs.Text.{step_of, step_value, width_of}
use Rattle.utf.specs.Inner.Lead.{lead_of, step_by}
use Rattle.utf.specs.Inner.StepRuns.{IsInner}
use Rattle.utf.proofs.Forms.{by_form, Inner, inner_of, some-inside}
use Rattle.utf.proofs.Places.{step8-at}
use Rattle.utf.proofs.Steps.{step_of-is-drop}
use Rattle.xml.specs.NCName.{in_ranges, char_sort}
use Rattle.xml.specs.Inner.NameRun.{sort_at, Told, Passed}
use Rattle.xml.specs.Inner.ClearPlaces.{Clear}
use Rattle.xml.proofs.Names.{passed_on, passed-more}
use Rattle.xml.proofs.SeenChars.{start-in}

-- ---- the values of the bytes, where the first and those behind it are clear

-- U+FFFD, which stands for what is damaged, is a start
pub replaced-char : char_sort 0xfffd ≡ 0 → ⊥
unfolding in_ranges
replaced-char = start-in 13 0xfffd (rw (le-leb 0xfdf0 0xfffd (omega arith), le-leb 0xfffd 0xfffd (omega arith)))

abbrev Char : Step → Type 0
Char t = char_sort (step_value t) ≡ 0 → ⊥

pub clear-by : (b c d e : ℕ)
    → (b < 0x80 → char_sort b ≡ 0 → ⊥)
    → (0xc2 ≤ b → b ≤ 0xdf → 0x80 ≤ c → c ≤ 0xbf → char_sort (b % 32 * 64 + c % 64) ≡ 0 → ⊥)
    → (0xe0 ≤ b → b ≤ 0xef → 0x80 ≤ c → c ≤ 0xbf → 0x80 ≤ d → d ≤ 0xbf → 0x800 ≤ b % 16 * 4096 + c % 64 * 64 + d % 64
    → (b ≤ 0xed → b % 16 * 4096 + c % 64 * 64 + d % 64 ≤ 0xd7ff) → char_sort (b % 16 * 4096 + c % 64 * 64 + d % 64) ≡ 0 → ⊥)
    → (0xf0 ≤ b → b ≤ 0xf4 → 0x80 ≤ c → c ≤ 0xbf → 0x80 ≤ d → d ≤ 0xbf → 0x80 ≤ e → e ≤ 0xbf
    → 0x10000 ≤ b % 8 * 262144 + c % 64 * 4096 + d % 64 * 64 + e % 64 → (b ≡ 0xf4 → c ≤ 0x8f)
    → char_sort (b % 8 * 262144 + c % 64 * 4096 + d % 64 * 64 + e % 64) ≡ 0 → ⊥)
    → Clear b c d e
clear-by b c d e p1 p2 p3 p4 = record {
  char =
      by_form Char b c d e
      (record { ascii = p1; two = p2; three = p3; four = p4; bad1 = replaced-char; bad2 = λ _ _. replaced-char; bad3 = λ _ _ _ _. replaced-char });
}

-- ---- a place: one step further, though it may lie inside a char

pub none_passed : (s : List ℕ) (at : ℕ) → Passed false s at at
none_passed s at = record { later = omega arith; rest = refl }

module _ (s : List ℕ) (bytes : (k : ℕ) → get_or s k 0 < 256) where
  -- what is told of the step at a place
  here : (at : ℕ) → at < length s → Told false s at (sort_at false (step_of false (drop at s))) (width_of (step_of false (drop at s)))
  here at h = let is = step_of-is-drop false s at h bytes in record { sort-is = refl; width_is = refl; least = is.least; most = is.most }

  step-passed : (at : ℕ) → at < length s → Char (step8 (drop at s)) → Passed false s at (at + width_of (step8 (drop at s)))
  step-passed at h n = passed-more false s at at _ _ (none_passed s at) h (here at h) n

  -- a byte inside a char, where no char begins
  pub trail-passes : (at : ℕ) → IsInner (get_or s at 0) → Passed false s at (at + 1)
  unfolding lead_of step_by
  trail-passes at p =
      let b = get_or s at 0 in
      let h = some-inside s at (omega arith) in
      let e : step8 (drop at s) ≡ Bad 1 = rw (step8-at s at h, le-ltb b 0x80 p.0, lt-ltb b 0xc2 (omega arith)) in
      subst (λ (j : ℕ). Passed false s at (at + j)) (ap width_of e) (step-passed at h (λ z. replaced-char (sym (ap (λ (t : Step). char_sort (step_value t)) e) ∙ z)))

  inner-passed : (at w : ℕ) → 1 ≤ w → w ≤ 4 → (1 < w → IsInner (get_or s (at + 1) 0)) → (2 < w → IsInner (get_or s (at + 2) 0)) → (3 < w → IsInner (get_or s (at + 3) 0))
      → Passed false s (at + 1) (at + w)
  inner-passed at w l m p q r = go (ltb 1 w) refl (ltb 2 w) refl (ltb 3 w) refl
    where
      to : (i j : ℕ) → i ≡ j → Passed false s (at + 1) i → Passed false s (at + 1) j
      to i j e k = subst (λ (x : ℕ). Passed false s (at + 1) x) e k

      one : 1 < w → Passed false s (at + 1) (at + 2)
      one h = to (at + 1 + 1) (at + 2) (omega arith) (trail-passes (at + 1) (p h))

      two : 2 < w → Passed false s (at + 1) (at + 3)
      two h = passed_on false s (at + 1) (at + 2) (at + 3) (one (omega arith)) (subst (λ (x : ℕ). Passed false s (at + 2) x) (let e : at + 2 + 1 ≡ at + 3 = omega arith in e) (trail-passes (at + 2) (q h)))

      three : 3 < w → Passed false s (at + 1) (at + 4)
      three h = passed_on false s (at + 1) (at + 3) (at + 4) (two (omega arith)) (subst (λ (x : ℕ). Passed false s (at + 3) x) (let e : at + 3 + 1 ≡ at + 4 = omega arith in e) (trail-passes (at + 3) (r h)))

      go : (x : Bool) → ltb 1 w ≡ x → (y : Bool) → ltb 2 w ≡ y → (z : Bool) → ltb 3 w ≡ z → Passed false s (at + 1) (at + w)
      go false e y f z g = let k = ltb-false 1 w e in to (at + 1) (at + w) (omega arith) (none_passed s (at + 1))
      go true e false f z g = let k = ltb-false 2 w f in let i = ltb-true 1 w e in to (at + 2) (at + w) (omega arith) (one i)
      go true e true f false g = let k = ltb-false 3 w g in let i = ltb-true 2 w f in to (at + 3) (at + w) (omega arith) (two i)
      go true e true f true g = let i = ltb-true 3 w g in to (at + 4) (at + w) (omega arith) (three i)

  pub clear-passes : (at : ℕ) → at < length s → Clear (get_or s at 0) (get_or s (at + 1) 0) (get_or s (at + 2) 0) (get_or s (at + 3) 0) → Passed false s at (at + 1)
  clear-passes at h c =
      let e = step8-at s at h in
      let whole = step-passed at h (λ z. c.char (sym (ap (λ (t : Step). char_sort (step_value t)) e) ∙ z)) in
      let w = width_of (step8 (drop at s)) in
      let i = subst (λ (t : Step). Inner (get_or s (at + 1) 0) (get_or s (at + 2) 0) (get_or s (at + 3) 0) t) (sym e) (inner_of (get_or s at 0) (get_or s (at + 1) 0) (get_or s (at + 2) 0) (get_or s (at + 3) 0)) in
      let t = here at h in
      let inner = inner-passed at w t.least t.most i.second i.third i.fourth in
      record { later = omega arith; rest = sym inner.rest ∙ whole.rest }
