-- Laws of specs/Inner/Others.antt: none at first (`others-none`), one more (`others-more`), and what is told by it (`tells-..`). No contract cites this file.
use Prim.Native.Nat.{ℕ, zero, suc, ◌+◌, ◌<◌}
use native.Mathlib.Omega.{arith}
use mathlib.Core.Path.{◌≡◌, refl, sym, ◌∙◌, ap}
use mathlib.Core.Bool.{Bool, true, false}
use mathlib.Core.List.{List}
use borrow.Author.Tests.{eqb-true, eqb-false, ne_eqb}
use lib.ListN.{length, get_or, set, replicate}
use lib.Seq.{get_or-set_same, get_or-set_other}
use lib.Dec.{eqb}
use Rattle.text.specs.declared.Head.{Head}
use Rattle.system_types.specs.Names.{Lent}
use Rattle.first_value.specs.Question.{text_is, tag_is}
use Rattle.first_value.specs.Inner.Others.{Others, Tells}

get_d-zeros : (n j : ℕ) → ◌≡◌ {A = ℕ} (get_or (replicate n 0) j 0) 0
get_d-zeros zero j = refl
get_d-zeros (suc n) zero = refl
get_d-zeros (suc n) (suc j) = get_d-zeros n j

module _ (h : Head) (t : List ℕ) (lent : Lent) (tag : List ℕ) where
  pub others-none : (n : ℕ) → Others h t lent tag (replicate n 0)
  others-none n = record { other = λ j i e. absurd (let z : ⊥ = omega (arith, sym (get_d-zeros n j) ∙ e) in z) }

  others-more : (known : List ℕ) (place i : ℕ) → place < length known → text_is h t lent i tag ≡ false → Others h t lent tag known
      → Others h t lent tag (set known place (i + 1))
  others-more known place i p f o = record { other = λ j k e. go j k (eqb j place) refl e }
    where
      go : (j k : ℕ) (b : Bool) → eqb j place ≡ b → get_or (set known place (i + 1)) j 0 ≡ k + 1 → text_is h t lent k tag ≡ false
      go j k true q e =
          let a : j ≡ place = eqb-true j place q in
          let d : i + 1 ≡ k + 1 = sym (get_or-set_same known place (i + 1) 0 p) ∙ ap (λ (x : ℕ). get_or (set known place (i + 1)) x 0) (sym a) ∙ e in
          let s : i ≡ k = omega (arith, d) in
          ap (λ (x : ℕ). text_is h t lent x tag) (sym s) ∙ f
      go j k false q e = o.other j k (sym (get_or-set_other known place j (i + 1) 0 (eqb-false j place q)) ∙ e)

  -- by the fixed word, by what is known, and by the text
  pub tells-known : (known : List ℕ) (place fixed i : ℕ) → (fixed ≡ 1 → ⊥) → get_or known place 0 ≡ i + 1 → Others h t lent tag known
      → Tells h t lent tag fixed i false known
  tells-known known place fixed i n e o = record { same = rw (ne_eqb fixed 1 n) (sym (o.other place i e)); others = o }

  pub tells-same : (known : List ℕ) (fixed i : ℕ) {r : Bool} → r ≡ tag_is h t lent tag fixed i → Others h t lent tag known → Tells h t lent tag fixed i r known
  tells-same known fixed i e o = record { same = e; others = o }

  pub tells_more : (known : List ℕ) (place fixed i : ℕ) {b : Bool} → (fixed ≡ 1 → ⊥) → place < length known → b ≡ tag_is h t lent tag fixed i → b ≡ false
      → Others h t lent tag known → Tells h t lent tag fixed i false (set known place (i + 1))
  tells_more known place fixed i n p e q o =
      let f : text_is h t lent i tag ≡ false = rw (ne_eqb fixed 1 n) at (sym e ∙ q) in
      record { same = sym (sym e ∙ q); others = others-more known place i p f o }
