-- The rows of Table 3-7 that have a first byte, without it (`rests`): they are the row of `lead_of`, by one test at each of the 256 bytes
-- (`rests-are`), and `step8` looks at them alone (`step8-rests`). What the bytes after the first do is in proofs/Leads.antt.
use mathlib.Core.Path.{◌≡◌, refl, sym, ap, ◌∙◌}
use mathlib.Core.Bool.{Bool, true, false, ◌&&◌, ◌||◌, cond, true≢false}
use mathlib.Core.List.{List, [], ◌∷◌}
use Prim.Native.Nat.{ℕ, suc, ◌≤◌, ◌<◌, max}
use native.Mathlib.Nat.{zero-max}
use native.Mathlib.Omega.{arith}
use borrow.Author.Tests.{lt-leb, le-ltb, ltb-true, ltb-false, eqb-true}
use lib.Dec.{leb, ltb, eqb}
use lib.ListN.{take}
use Rattle.utf.specs.declared.Step.{Step}
use Rattle.utf.specs.declared.Step.TheVariants.{Scalar, Bad}
use Rattle.utf.specs.declared.utf8.Lead.{Lead}
use Rattle.utf.specs.Utf8.{inside, table37, matched, is_whole_form, longest, any_whole, spelt, step8}
use Rattle.utf.specs.Inner.Lead.{row, lead_of}
use Rattle.utf.proofs.Tables.{both_true, below_at}

-- ---- the rows that have a first byte, without it

pub rests : List (List ℕ) → ℕ → List (List ℕ)
rests [] b = []
rests ([] ∷ rs) b = rests rs b
rests ((first ∷ []) ∷ rs) b = rests rs b
rests ((first ∷ last ∷ r) ∷ rs) b = cond (inside first last b) (r ∷ rests rs b) (rests rs b)

unfoldable pub longest_rest : List (List ℕ) → List ℕ → ℕ
longest_rest [] s = 0
longest_rest (r ∷ rs) s = max (suc (matched r s)) (longest_rest rs s)

unfoldable pub any_rest : List (List ℕ) → List ℕ → Bool
any_rest [] s = false
any_rest (r ∷ rs) s = is_whole_form r s || any_rest rs s

-- each row has a first byte
formed : List (List ℕ) → Bool
formed [] = true
formed ([] ∷ rs) = false
formed ((first ∷ []) ∷ rs) = false
formed ((first ∷ last ∷ r) ∷ rs) = formed rs

longest-rests : (rs : List (List ℕ)) (b : ℕ) (s : List ℕ) → formed rs ≡ true → longest rs (b ∷ s) ≡ longest_rest (rests rs b) s
unfolding longest matched rests longest_rest formed
longest-rests [] b s f = refl
longest-rests ([] ∷ rs) b s f = absurd (true≢false (sym f))
longest-rests ((first ∷ []) ∷ rs) b s f = absurd (true≢false (sym f))
longest-rests ((first ∷ last ∷ r) ∷ rs) b s f = go (longest-rests rs b s f) (inside first last b)
  where
    go : longest rs (b ∷ s) ≡ longest_rest (rests rs b) s → (x : Bool)
        → max (cond x (suc (matched r s)) 0) (longest rs (b ∷ s)) ≡ longest_rest (cond x (r ∷ rests rs b) (rests rs b)) s
    go e true = ap (max (suc (matched r s))) e
    go e false = zero-max (longest rs (b ∷ s)) ∙ e

any-rests : (rs : List (List ℕ)) (b : ℕ) (s : List ℕ) → formed rs ≡ true → any_whole rs (b ∷ s) ≡ any_rest (rests rs b) s
unfolding any_whole is_whole_form rests any_rest formed
any-rests [] b s f = refl
any-rests ([] ∷ rs) b s f = absurd (true≢false (sym f))
any-rests ((first ∷ []) ∷ rs) b s f = absurd (true≢false (sym f))
any-rests ((first ∷ last ∷ r) ∷ rs) b s f = go (any-rests rs b s f) (inside first last b)
  where
    go : any_whole rs (b ∷ s) ≡ any_rest (rests rs b) s → (x : Bool)
        → (x && is_whole_form r s) || any_whole rs (b ∷ s) ≡ any_rest (cond x (r ∷ rests rs b) (rests rs b)) s
    go e true = ap (λ (y : Bool). is_whole_form r s || y) e
    go e false = e

-- ---- they are the row of `lead_of`

unfoldable pub rests_of : Lead → List (List ℕ)
rests_of l =
    cond (eqb l.more 0) ([] ∷ [])
    (cond (eqb l.more 4) []
    (cond (eqb l.more 1) ((l.low ∷ l.high ∷ []) ∷ [])
    (cond (eqb l.more 2) ((l.low ∷ l.high ∷ 0x80 ∷ 0xbf ∷ []) ∷ [])
    ((l.low ∷ l.high ∷ 0x80 ∷ 0xbf ∷ 0x80 ∷ 0xbf ∷ []) ∷ []))))

same : List ℕ → List ℕ → Bool
same [] [] = true
same [] (y ∷ ys) = false
same (x ∷ xs) [] = false
same (x ∷ xs) (y ∷ ys) = eqb x y && same xs ys

sames : List (List ℕ) → List (List ℕ) → Bool
sames [] [] = true
sames [] (y ∷ ys) = false
sames (x ∷ xs) [] = false
sames (x ∷ xs) (y ∷ ys) = same x y && sames xs ys

same_true : (xs ys : List ℕ) → same xs ys ≡ true → xs ≡ ys
unfolding same
same_true [] [] t = refl
same_true [] (y ∷ ys) t = absurd (true≢false (sym t))
same_true (x ∷ xs) [] t = absurd (true≢false (sym t))
same_true (x ∷ xs) (y ∷ ys) t =
    let p = both_true (eqb x y) (same xs ys) t in
    let e : x ≡ y = eqb-true x y p.0 in
    let f : xs ≡ ys = same_true xs ys p.1 in
    cc

sames-true : (xs ys : List (List ℕ)) → sames xs ys ≡ true → xs ≡ ys
unfolding sames
sames-true [] [] t = refl
sames-true [] (y ∷ ys) t = absurd (true≢false (sym t))
sames-true (x ∷ xs) [] t = absurd (true≢false (sym t))
sames-true (x ∷ xs) (y ∷ ys) t =
    let p = both_true (same x y) (sames xs ys) t in
    let e : x ≡ y = same_true x y p.0 in
    let f : xs ≡ ys = sames-true xs ys p.1 in
    cc

right_row : ℕ → Bool
right_row b = sames (rests table37 b) (rests_of (lead_of b))

rests-lead : (b : ℕ) → b < 256 → rests table37 b ≡ rests_of (lead_of b)
unfolding right_row sames same rests rests_of lead_of
rests-lead b h = sames-true (rests table37 b) (rests_of (lead_of b)) (below_at right_row 256 b refl h)

inside_past : (first last b : ℕ) → last < b → inside first last b ≡ false
inside_past first last b h = rw (lt-leb b last h) (go (leb first b))
  where
    go : (x : Bool) → (x && false) ≡ false
    go true = refl
    go false = refl

rests-beyond : (b : ℕ) → 256 ≤ b → rests table37 b ≡ []
unfolding rests
rests-beyond b h =
    rw (
      inside_past 0x00 0x7f b (omega arith),
      inside_past 0xc2 0xdf b (omega arith),
      inside_past 0xe0 0xe0 b (omega arith),
      inside_past 0xe1 0xec b (omega arith),
      inside_past 0xed 0xed b (omega arith),
      inside_past 0xee 0xef b (omega arith),
      inside_past 0xf0 0xf0 b (omega arith),
      inside_past 0xf1 0xf3 b (omega arith),
      inside_past 0xf4 0xf4 b (omega arith),
    )

lead-beyond : (b : ℕ) → 256 ≤ b → lead_of b ≡ row 4 0 0
unfolding lead_of
lead-beyond b h =
    rw (
      le-ltb b 0x80 (omega arith),
      le-ltb b 0xc2 (omega arith),
      le-ltb b 0xe0 (omega arith),
      le-ltb b 0xe1 (omega arith),
      le-ltb b 0xed (omega arith),
      le-ltb b 0xee (omega arith),
      le-ltb b 0xf0 (omega arith),
      le-ltb b 0xf1 (omega arith),
      le-ltb b 0xf4 (omega arith),
      le-ltb b 0xf5 (omega arith),
    )

pub rests-are : (b : ℕ) → rests table37 b ≡ rests_of (lead_of b)
unfolding rests_of
rests-are b = go (ltb b 256) refl
  where
    go : (t : Bool) → ltb b 256 ≡ t → rests table37 b ≡ rests_of (lead_of b)
    go true e = rests-lead b (ltb-true b 256 e)
    go false e = let h = ltb-false b 256 e in rests-beyond b h ∙ ap rests_of (sym (lead-beyond b h))

-- ---- the step by them

unfoldable pub step_rests : List (List ℕ) → ℕ → List ℕ → Step
step_rests rs b s =
    let n = longest_rest rs s in
    cond (any_rest rs s) (Scalar (spelt (take n (b ∷ s))) n) (Bad (max 1 n))

pub step8-rests : (b : ℕ) (s : List ℕ) → step8 (b ∷ s) ≡ step_rests (rests table37 b) b s
unfolding step8 step_rests formed
step8-rests b s = rw (longest-rests table37 b s refl, any-rests table37 b s refl)
