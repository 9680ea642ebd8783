-- Laws of specs/Kinds.antt: the kinds of one note more, and the tally of a list with one number more. No contract cites this file.
use Prim.Native.Nat.{ℕ, zero, suc, ◌+◌, ◌*◌, ◌≤◌, ◌<◌}
use native.Mathlib.Omega.{arith}
use native.Mathlib.Numerals.{add-one}
use mathlib.Core.Path.{◌≡◌, refl, sym, ◌∙◌, ap}
use mathlib.Core.List.{List, [], ◌∷◌, ◌++◌}
use mathlib.Core.Bool.{Bool, true, false, cond}
use borrow.Author.Tests.{eq-eqb, ne_eqb, ltb-true, ltb-false}
use lib.ListN.{length, get_or, set, drop}
use lib.Seq.{get_or-drop}
use lib.Dec.{ltb, eqb}
use Rattle.records.specs.Words.{note_width}
use Rattle.round_up.specs.RoundUp.{kinds}
use Rattle.round_up.specs.Kinds.{kinds_from, how_many, tally, in_grid}
use Rattle.round_up.specs.History.{total}
use Rattle.round_up.specs.Inner.Turns.{counted_in}

-- ---- the kinds of a table

pub kinds_from-length : (n : ℕ) (words : List ℕ) → length (kinds_from n words) ≡ n
unfolding kinds_from
kinds_from-length zero words = refl
kinds_from-length (suc n) words = ap suc (kinds_from-length n (drop note_width words))

pub kinds_from-more : (n : ℕ) (words : List ℕ) → kinds_from (suc n) words ≡ kinds_from n words ++ (get_or words (note_width * n) 0 ∷ [])
unfolding kinds_from
kinds_from-more zero words = refl
kinds_from-more (suc n) words =
    ap (λ (l : List ℕ). get_or words 0 0 ∷ l)
    (kinds_from-more n (drop note_width words)
    ∙ ap (λ (x : ℕ). kinds_from n (drop note_width words) ++ (x ∷ []))
    (get_or-drop note_width words (note_width * n) 0
    ∙ ap (λ (i : ℕ). get_or words i 0) (let z : note_width + note_width * n ≡ note_width * suc n = omega arith in z)))

-- ---- how often

one : (x k : ℕ) → cond (eqb x k) 1 0 ≤ 1
one x k = go (eqb x k)
  where
    go : (b : Bool) → cond b 1 0 ≤ 1
    go true = omega arith
    go false = omega arith

pub how_many-le : (k : ℕ) (xs : List ℕ) → how_many k xs ≤ length xs
unfolding how_many
how_many-le k [] = omega arith
how_many-le k (x ∷ xs) = omega (arith, one x k, how_many-le k xs)

pub how_many-append : (k : ℕ) (xs ys : List ℕ) → how_many k (xs ++ ys) ≡ how_many k xs + how_many k ys
unfolding how_many
how_many-append k [] ys = omega arith
how_many-append k (x ∷ xs) ys = omega (arith, how_many-append k xs ys)

pub how_many-same : (k x : ℕ) (xs : List ℕ) → x ≡ k → how_many k (xs ++ (x ∷ [])) ≡ how_many k xs + 1
unfolding how_many
how_many-same k x xs e = how_many-append k xs (x ∷ []) ∙ rw (eq-eqb x k e)

pub how_many-other : (k x : ℕ) (xs : List ℕ) → (x ≡ k → ⊥) → how_many k (xs ++ (x ∷ [])) ≡ how_many k xs
unfolding how_many
how_many-other k x xs e =
    how_many-append k xs (x ∷ []) ∙ (let z : ◌≡◌ {A = ℕ} (how_many k (x ∷ [])) 0 = rw (ne_eqb x k e) in omega arith)

pub tally-length : (n k : ℕ) (xs : List ℕ) → length (tally n k xs) ≡ n
unfolding tally
tally-length zero k xs = refl
tally-length (suc n) k xs = ap suc (tally-length n (suc k) xs)

-- the place of a number is how far it is from the first
pub tally-at : (n k j : ℕ) (xs : List ℕ) → j < n → get_or (tally n k xs) j 0 ≡ how_many (k + j) xs
unfolding tally
tally-at zero k j xs h = absurd (let z : ⊥ = omega arith in z)
tally-at (suc n) k zero xs h = ap (λ (i : ℕ). how_many i xs) (let z : k ≡ k + 0 = omega arith in z)
tally-at (suc n) k (suc j) xs h =
    tally-at n (suc k) j xs (omega arith) ∙ ap (λ (i : ℕ). how_many i xs) (let z : suc k + j ≡ k + suc j = omega arith in z)

pub tally-le : (n k j : ℕ) (xs : List ℕ) → get_or (tally n k xs) j 0 ≤ length xs
unfolding tally
tally-le zero k j xs = omega arith
tally-le (suc n) k zero xs = how_many-le k xs
tally-le (suc n) k (suc j) xs = tally-le n (suc k) j xs

pub tally-below : (n k x : ℕ) (xs : List ℕ) → x < k → tally n k (xs ++ (x ∷ [])) ≡ tally n k xs
unfolding tally
tally-below zero k x xs h = refl
tally-below (suc n) k x xs h =
    rw (how_many-other k x xs (λ e. omega arith), tally-below n (suc k) x xs (omega arith))

pub tally-above : (n k x : ℕ) (xs : List ℕ) → k + n ≤ x → tally n k (xs ++ (x ∷ [])) ≡ tally n k xs
unfolding tally
tally-above zero k x xs h = refl
tally-above (suc n) k x xs h =
    rw (how_many-other k x xs (λ e. omega arith), tally-above n (suc k) x xs (omega arith))

pub tally-in : (n k j x : ℕ) (xs : List ℕ) → x ≡ k + j → j < n → tally n k (xs ++ (x ∷ [])) ≡ set (tally n k xs) j (get_or (tally n k xs) j 0 + 1)
unfolding tally
tally-in zero k j x xs e h = absurd (let z : ⊥ = omega arith in z)
tally-in (suc n) k zero x xs e h =
    rw (how_many-same k x xs (omega arith), tally-below n (suc k) x xs (omega arith))
tally-in (suc n) k (suc j) x xs e h =
    rw (how_many-other k x xs (λ q. omega arith), tally-in n (suc k) j x xs (omega arith) (omega arith))

-- ---- the sum of a tally

total-below : (n k x : ℕ) (xs : List ℕ) → x < k → total (tally n k (x ∷ xs)) ≡ total (tally n k xs)
unfolding tally how_many total
total-below zero k x xs h = refl
total-below (suc n) k x xs h = rw (ne_eqb x k (λ e. omega arith)) (omega (arith, total-below n (suc k) x xs (omega arith)))

total-above : (n k x : ℕ) (xs : List ℕ) → k + n ≤ x → total (tally n k (x ∷ xs)) ≡ total (tally n k xs)
unfolding tally how_many total
total-above zero k x xs h = refl
total-above (suc n) k x xs h = rw (ne_eqb x k (λ e. omega arith)) (omega (arith, total-above n (suc k) x xs (omega arith)))

total-in : (n k j x : ℕ) (xs : List ℕ) → x ≡ k + j → j < n → total (tally n k (x ∷ xs)) ≡ total (tally n k xs) + 1
unfolding tally how_many total
total-in zero k j x xs e h = absurd (let z : ⊥ = omega arith in z)
total-in (suc n) k zero x xs e h = rw (eq-eqb x k (omega arith)) (omega (arith, total-below n (suc k) x xs (omega arith)))
total-in (suc n) k (suc j) x xs e h = rw (ne_eqb x k (λ q. omega arith)) (omega (arith, total-in n (suc k) j x xs (omega arith) (omega arith)))

total-none : (n k : ℕ) → ◌≡◌ {A = ℕ} (total (tally n k [])) 0
unfolding tally how_many total
total-none zero k = refl
total-none (suc n) k = omega (arith, total-none n (suc k))

-- the sum of the counts of kinds 0 to 12 is how many of the kinds are among them
pub total-tally : (xs : List ℕ) → total (tally kinds 0 xs) ≡ in_grid xs
unfolding in_grid
total-tally [] = total-none kinds 0
total-tally (x ∷ xs) = go (total-tally xs) (ltb x kinds) refl
  where
    go : total (tally kinds 0 xs) ≡ in_grid xs → (b : Bool) → ltb x kinds ≡ b → total (tally kinds 0 (x ∷ xs)) ≡ cond b 1 0 + in_grid xs
    go rest true e = omega (arith, rest, total-in kinds 0 x x xs (omega arith) (ltb-true x kinds e))
    go rest false e = omega (arith, rest, total-above kinds 0 x xs (omega (arith, ltb-false x kinds e)))

-- ---- a turn of `kinds_in`

pub tally-turn : (xs : List ℕ) (x : ℕ) → counted_in (tally kinds 0 xs) x ≡ tally kinds 0 (xs ++ (x ∷ []))
tally-turn xs x = go (ltb x kinds) refl
  where
    go : (b : Bool) → ltb x kinds ≡ b → counted_in (tally kinds 0 xs) x ≡ tally kinds 0 (xs ++ (x ∷ []))
    go true e = rw e (sym (tally-in kinds 0 x x xs (omega arith) (ltb-true x kinds e)))
    go false e = rw e (sym (tally-above kinds 0 x xs (omega (arith, ltb-false x kinds e))))

pub kinds-turn : (words : List ℕ) (i : ℕ)
    → counted_in (tally kinds 0 (kinds_from i words)) (get_or words (note_width * i) 0) ≡ tally kinds 0 (kinds_from (i + 1) words)
kinds-turn words i =
    tally-turn (kinds_from i words) (get_or words (note_width * i) 0)
    ∙ ap (tally kinds 0) (sym (kinds_from-more i words) ∙ ap (λ (n : ℕ). kinds_from n words) (sym (add-one i)))
