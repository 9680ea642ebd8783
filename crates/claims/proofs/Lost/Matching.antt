-- Starts and ends by counting, and by a stack of open elements: two ways to tell the same. docs/FORMAT.md, W25, W26, W29. For proofs/Lost/Theorem.antt.
--
--   spare         how many ends are the end of no start among some marks; gets_end-spare: they tell whether a start before them gets its end
--   depth_behind   the depth behind some marks; depth-open, open_above: it is the number of starts that never get their end
--   kept_by        how many are kept in the end, told from the open elements and the marks to come
--   kept-end, kept-start   it stays the same where an end closes the innermost, and where a start goes on top
use Prim.Native.Nat.{ℕ, suc, ◌+◌, ◌-◌, ◌≤◌, ◌<◌}
use native.Mathlib.Omega.{arith}
use mathlib.Core.Path.{◌≡◌, refl, sym, ap, ◌∙◌}
use mathlib.Core.List.{List, [], ◌∷◌}
use mathlib.Core.Bool.{Bool, true, false, cond}
use borrow.Author.Tests.{lt-ltb, le-ltb, le-leb, lt-leb, ltb-true, ltb-false, leb-true, leb-false}
use lib.ListN.{length}
use lib.Dec.{ltb, leb}
use Rattle.walk.specs.Settle.{closed_in}
use Rattle.walk.specs.Reading.{dropped_in}
use Rattle.walk.specs.Inner.Tree.{above_root_of}
use Rattle.claims.specs.Lost.{Mark, start, end, comes_end, gets_end, start_names, still_open, behind_first, before_lost, kept_of}

-- how many ends of these marks are the end of no start among them
abbrev pub spare : List Mark → ℕ
spare [] = 0
spare (start name line ∷ ms) = spare ms - 1
spare (end ∷ ms) = spare ms + 1

-- two tests that agree
same_test : (a b c d : ℕ) → (a < b → c < d) → (c < d → a < b) → ltb a b ≡ ltb c d
same_test a b c d f g = go (ltb a b) refl
  where
    go : (t : Bool) → ltb a b ≡ t → ltb a b ≡ ltb c d
    go true e = e ∙ sym (lt-ltb c d (f (ltb-true a b e)))
    go false e =
        let n = ltb-false a b e in
        e ∙ sym (le-ltb c d (other (ltb c d) refl n))
      where
        other : (t : Bool) → ltb c d ≡ t → b ≤ a → d ≤ c
        other true q n = absurd (let y : ⊥ = omega (arith, g (ltb-true c d q)) in y)
        other false q n = ltb-false c d q

comes_end-spare : (s e : ℕ) → e ≤ s → (ms : List Mark) → comes_end s e ms ≡ ltb (s - e) (spare ms)
unfolding comes_end
comes_end-spare s e h [] = sym (le-ltb (s - e) 0 (omega arith))
comes_end-spare s e h (start name line ∷ ms) =
    comes_end-spare (s + 1) e (omega arith) ms ∙ same_test (s + 1 - e) (spare ms) (s - e) (spare ms - 1) (λ x. omega arith) (λ x. omega arith)
comes_end-spare s e h (end ∷ ms) = go (ltb s (e + 1)) refl (λ l. comes_end-spare s (e + 1) l ms)
  where
    go : (t : Bool) → ltb s (e + 1) ≡ t → (e + 1 ≤ s → comes_end s (e + 1) ms ≡ ltb (s - (e + 1)) (spare ms))
        → cond t true (comes_end s (e + 1) ms) ≡ ltb (s - e) (spare ms + 1)
    go true q rest = let l = ltb-true s (e + 1) q in sym (lt-ltb (s - e) (spare ms + 1) (omega arith))
    go false q rest =
        let l = ltb-false s (e + 1) q in
        rest l ∙ same_test (s - (e + 1)) (spare ms) (s - e) (spare ms + 1) (λ x. omega arith) (λ x. omega arith)

pub gets_end-spare : (ms : List Mark) → gets_end ms ≡ ltb 0 (spare ms)
gets_end-spare ms = comes_end-spare 0 0 (omega arith) ms

-- ---- the depth

-- behind these marks: a start adds one, an end takes one away, not below 0
abbrev pub depth_behind : ℕ → List Mark → ℕ
depth_behind d [] = d
depth_behind d (start name line ∷ ms) = depth_behind (d + 1) ms
depth_behind d (end ∷ ms) = depth_behind (d - 1) ms

open_by : (d o n k : ℕ) (t : Bool) → ltb 0 o ≡ t → n ≡ (d + 1 - o) + k → n ≡ (d - (o - 1)) + (cond t 0 1 + k)
open_by d o n k true q e = let l = ltb-true 0 o q in omega (arith, e)
open_by d o n k false q e = let l = ltb-false 0 o q in omega (arith, e)

pub depth-open : (d : ℕ) (ms : List Mark) → depth_behind d ms ≡ (d - spare ms) + still_open ms
unfolding still_open
depth-open d [] = omega arith
depth-open d (start name line ∷ ms) = rw (gets_end-spare ms) (open_by d (spare ms) _ (still_open ms) (ltb 0 (spare ms)) refl (depth-open (d + 1) ms))
depth-open d (end ∷ ms) = depth-open (d - 1) ms ∙ omega arith

-- those above the first, and the first
pub open_above : (ms : List Mark) → 0 < length (start_names ms) → still_open ms ≡ still_open (behind_first ms) + cond (gets_end (behind_first ms)) 0 1
unfolding start_names still_open behind_first
open_above [] h = absurd (let y : ⊥ = omega arith in y)
open_above (start name line ∷ ms) h = omega arith
open_above (end ∷ ms) h = open_above ms h

-- ---- the open elements

-- how many are kept in the end, where n starts came, these elements are open, the innermost first, and these marks follow
abbrev pub kept_by : List ℕ → ℕ → List Mark → ℕ
kept_by [] n ms = n + kept_of ms
kept_by (k ∷ s) n ms = cond (leb (length s) (spare ms)) (n + before_lost ms) (above_root_of (dropped_in (k ∷ s)))

le_test : (a b c d : ℕ) → (a ≤ b → c ≤ d) → (c ≤ d → a ≤ b) → leb a b ≡ leb c d
le_test a b c d f g = go (leb a b) refl
  where
    other : (t : Bool) → leb c d ≡ t → b < a → d < c
    other true q n = absurd (let y : ⊥ = omega (arith, g (leb-true c d q)) in y)
    other false q n = leb-false c d q

    go : (t : Bool) → leb a b ≡ t → leb a b ≡ leb c d
    go true e = e ∙ sym (le-leb c d (f (leb-true a b e)))
    go false e = e ∙ sym (lt-leb c d (other (leb c d) refl (leb-false a b e)))

-- an end closes the innermost
pub kept-end : (s : List ℕ) (n : ℕ) (ms : List Mark) → kept_by s n (end ∷ ms) ≡ kept_by (closed_in s) n ms
unfolding kept_of before_lost
kept-end [] n ms = refl
kept-end (k ∷ []) n ms = rw (le-leb 0 (spare ms + 1) (omega arith), le-leb 0 (spare ms) (omega arith))
kept-end (k ∷ j ∷ []) n ms = rw (le-leb 1 (spare ms + 1) (omega arith), le-leb 0 (spare ms) (omega arith))
kept-end (k ∷ j ∷ i ∷ r) n ms =
    ap (λ (t : Bool). cond t (n + before_lost ms) (above_root_of (dropped_in (j ∷ i ∷ r))))
    (le_test (suc (suc (length r))) (spare ms + 1) (suc (length r)) (spare ms) (λ x. omega arith) (λ x. omega arith))

first_by : (n o b : ℕ) (t : Bool) → ltb 0 o ≡ t → n + cond t (1 + b) 0 ≡ cond (leb 1 o) (n + 1 + b) n
first_by n o b true q = let l = ltb-true 0 o q in rw (le-leb 1 o (omega arith)) (omega arith)
first_by n o b false q = let l = ltb-false 0 o q in rw (lt-leb 1 o (omega arith)) (omega arith)

above-by : (h n o b x : ℕ) (t u : Bool) → ltb 0 o ≡ t → leb (suc (suc h)) o ≡ u → leb (suc h) (o - 1) ≡ u
    → cond (leb (suc h) (o - 1)) (n + cond t (1 + b) 0) x ≡ cond (leb (suc (suc h)) o) (n + 1 + b) x
above-by h n o b x true true q r z = rw (z, r) (omega arith)
above-by h n o b x true false q r z = rw (z, r)
above-by h n o b x false true q r z = absurd (let y : ⊥ = omega (arith, leb-true (suc (suc h)) o r, ltb-false 0 o q) in y)
above-by h n o b x false false q r z = rw (z, r)

-- a start goes on top, with the number of the starts before it
pub kept-start : (s : List ℕ) (n name line : ℕ) (ms : List Mark) → kept_by s n (start name line ∷ ms) ≡ kept_by (n ∷ s) (n + 1) ms
unfolding kept_of before_lost
kept-start [] n name line ms = rw (le-leb 0 (spare ms) (omega arith)) (omega arith)
kept-start (k ∷ []) n name line ms =
    rw (le-leb 0 (spare ms - 1) (omega arith), gets_end-spare ms) (first_by n (spare ms) (before_lost ms) (ltb 0 (spare ms)) refl)
kept-start (k ∷ j ∷ r) n name line ms =
    rw (gets_end-spare ms)
    (above-by (length r) n (spare ms) (before_lost ms) (above_root_of (dropped_in (k ∷ j ∷ r))) (ltb 0 (spare ms)) (leb (suc (suc (length r))) (spare ms)) refl refl
    (le_test (suc (length r)) (spare ms - 1) (suc (suc (length r))) (spare ms) (λ x. omega arith) (λ x. omega arith)))
