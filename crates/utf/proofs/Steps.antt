-- The steps through a text: one step at a place and then those after it (`steps_of-next`), and what is known of any step (`StepIs`).
-- In order: UTF-16's steps; either encoding's; the steps from a place on, and from the bytes of a value on.
use mathlib.Core.Path.{◌≡◌, refl, sym, ap, ◌∙◌}
use mathlib.Core.Bool.{Bool, true, false, cond}
use mathlib.Core.List.{List, [], ◌∷◌, ◌++◌}
use Prim.Native.Nat.{ℕ, zero, suc, ◌+◌, ◌-◌, ◌*◌, ◌≤◌, ◌<◌}
use native.Mathlib.Omega.{arith}
use borrow.Author.Tests.{lt-ltb, le-leb, ltb-true, ltb-false, leb-false}
use lib.Dec.{ltb}
use lib.ListN.{length, get_or, drop, length-append, length-drop}
use lib.Seq.{drop-nil, drop-drop, get_or-drop, drop_at}
use Rattle.utf.specs.declared.Step.{Step}
use Rattle.utf.specs.declared.Step.TheVariants.{Scalar, Bad}
use Rattle.utf.specs.Utf8.{inside, is_scalar, encode, step8}
use Rattle.utf.specs.Utf16.{unit, pair_of, step16}
use Rattle.utf.specs.Text.{step_of, step_value, width_of, steps_after, steps_of}
use Rattle.utf.proofs.Scalars.{inside-ends, scalar-low, scalar-high, encode-length-lt}
use Rattle.utf.proofs.Sound8.{step8-is}
use Rattle.utf.proofs.Decode.{step8-encode}

pub record StepIs (t : Step) : Type 0 where
  pub scalar : is_scalar (step_value t) ≡ true
  pub least : 1 ≤ width_of t
  pub most : width_of t ≤ 4

-- ---- UTF-16

bad : (n : ℕ) → 1 ≤ n → n ≤ 4 → StepIs (Bad n)
bad n l m = record { scalar = scalar-high 0xfffd (omega arith) (omega arith); least = l; most = m }

by-test : (b : Bool) {x y : Step} → (b ≡ true → StepIs x) → (b ≡ false → StepIs y) → StepIs (cond b x y)
by-test true p q = p refl
by-test false p q = q refl

outside : (first last n : ℕ) → inside first last n ≡ false → first ≤ n → last < n
outside first last n e l = leb-false n last (rw (le-leb first n l) at e)

alone : (u : ℕ) → inside 0xd800 0xdbff u ≡ false → inside 0xdc00 0xdfff u ≡ false → u < 65536 → is_scalar u ≡ true
alone u e f h = go (ltb u 0xd800) refl
  where
    go : (t : Bool) → ltb u 0xd800 ≡ t → is_scalar u ≡ true
    go true t = scalar-low u (ltb-true u 0xd800 t)
    go false t =
        let a : 0xdbff < u = outside 0xd800 0xdbff u e (ltb-false u 0xd800 t) in
        let b : 0xdfff < u = outside 0xdc00 0xdfff u f (omega arith) in
        scalar-high u (omega arith) (omega arith)

pair_of-is : (u w : ℕ) → u < 65536 → w < 65536 → StepIs (pair_of u w)
unfolding pair_of
pair_of-is u w hu hw =
    by-test (inside 0xd800 0xdbff u)
    (λ x.
    by-test (inside 0xdc00 0xdfff w)
    (λ y.
    let p = inside-ends 0xd800 0xdbff u x in
    let q = inside-ends 0xdc00 0xdfff w y in
    record { scalar = scalar-high (0x10000 + (u - 0xd800) * 1024 + (w - 0xdc00)) (omega arith) (omega arith); least = omega arith; most = omega arith })
    (λ y. bad 2 (omega arith) (omega arith)))
    (λ x.
    by-test (inside 0xdc00 0xdfff u)
    (λ y. bad 2 (omega arith) (omega arith))
    (λ y. record { scalar = alone u x y hu; least = omega arith; most = omega arith }))

step16-is : (s : List ℕ) → 0 < length s → ((i : ℕ) → get_or s i 0 < 256) → StepIs (step16 s)
unfolding step16 unit
step16-is s h b =
    rw (lt-ltb 0 (length s) h)
    (by-test (ltb 1 (length s))
    (λ _. pair_of-is (get_or s 0 0 + get_or s 1 0 * 256) (get_or s 2 0 + get_or s 3 0 * 256) (omega (arith, b 0, b 1)) (omega (arith, b 2, b 3)))
    (λ _. bad 1 (omega arith) (omega arith)))

-- ---- either encoding

step8-okay : (s : List ℕ) → 0 < length s → StepIs (step8 s)
step8-okay [] h = absurd (let z : ⊥ = omega arith in z)
step8-okay (b ∷ s) h = let r = step8-is b s in record { scalar = r.scalar; least = r.least; most = r.most }

pub step_of-is : (utf16 : Bool) (s : List ℕ) → 0 < length s → ((i : ℕ) → get_or s i 0 < 256) → StepIs (step_of utf16 s)
step_of-is false s h b = step8-okay s h
step_of-is true s h b = step16-is s h b

pub step_of-is-drop : (utf16 : Bool) (s : List ℕ) (at : ℕ) → at < length s → ((i : ℕ) → get_or s i 0 < 256) → StepIs (step_of utf16 (drop at s))
step_of-is-drop utf16 s at h b = step_of-is utf16 (drop at s) (omega (arith, length-drop at s)) (λ i. rw (get_or-drop at s i 0) (b (at + i)))

-- ---- the steps from a place on

skip : (utf16 : Bool) (k : ℕ) (s : List ℕ) → steps_after utf16 k s ≡ steps_of utf16 (drop k s)
unfolding steps_after
skip utf16 zero s = refl
skip utf16 (suc k) [] = refl
skip utf16 (suc k) (b ∷ s) = skip utf16 k s

pub steps_of-nil : (utf16 : Bool) → steps_of utf16 [] ≡ []
unfolding steps_after
steps_of-nil utf16 = refl

pub steps_of-step : (utf16 : Bool) (s : List ℕ) (width : ℕ) → 0 < length s → width ≡ width_of (step_of utf16 s) → 1 ≤ width
    → steps_of utf16 s ≡ step_of utf16 s ∷ steps_of utf16 (drop width s)
unfolding steps_after
steps_of-step utf16 [] width h e l = absurd (let z : ⊥ = omega arith in z)
steps_of-step utf16 (b ∷ s) zero h e l = absurd (let z : ⊥ = omega arith in z)
steps_of-step utf16 (b ∷ s) (suc width) h e l =
    let f : width ≡ width_of (step_of utf16 (b ∷ s)) - 1 = omega (arith, e) in
    ap (λ (n : ℕ). step_of utf16 (b ∷ s) ∷ steps_after utf16 n s) (sym f) ∙ ap (λ (r : List Step). step_of utf16 (b ∷ s) ∷ r) (skip utf16 width s)

pub steps_of-next : (utf16 : Bool) (s : List ℕ) (at width : ℕ) → at < length s → width ≡ width_of (step_of utf16 (drop at s)) → 1 ≤ width
    → steps_of utf16 (drop at s) ≡ step_of utf16 (drop at s) ∷ steps_of utf16 (drop (at + width) s)
steps_of-next utf16 s at width h e l =
    steps_of-step utf16 (drop at s) width (omega (arith, length-drop at s)) e l
    ∙ ap (λ (r : List ℕ). step_of utf16 (drop at s) ∷ steps_of utf16 r) (drop-drop width at s)

pub steps_of-end : (utf16 : Bool) (s : List ℕ) (at : ℕ) → length s ≤ at → steps_of utf16 (drop at s) ≡ []
unfolding steps_after
steps_of-end utf16 [] at h = rw (drop-nil at)
steps_of-end utf16 (b ∷ s) zero h = absurd (let z : ⊥ = omega arith in z)
steps_of-end utf16 (b ∷ s) (suc at) h = steps_of-end utf16 s at (omega arith)

-- the bytes of a scalar value are one step of UTF-8
pub steps_of-encode : (v : ℕ) (s : List ℕ) → is_scalar v ≡ true → steps_of false (encode v ++ s) ≡ Scalar v (length (encode v)) ∷ steps_of false s
steps_of-encode v s k =
    let e = step8-encode v s k in
    let some : 0 < length (encode v ++ s) = omega (arith, length-append (encode v) s, encode-length-lt v) in
    steps_of-step false (encode v ++ s) (length (encode v)) some (sym (ap width_of e)) (encode-length-lt v)
    ∙ ap (λ (t : Step). t ∷ steps_of false (drop (length (encode v)) (encode v ++ s))) e
    ∙ ap (λ (r : List ℕ). Scalar v (length (encode v)) ∷ steps_of false r) (drop_at (encode v) s (length (encode v)) refl)
