-- The stores of a record's words, one behind the other, are its words put at a place. No contract cites this file.
--
--   put_from      the words ws stored at the places i + k, i + (k + 1) and so on
--   put-words    from i + 0 on: they stand at the place i, and no other word is changed
use Prim.Native.Nat.{ℕ, suc, ◌+◌, ◌≤◌}
use native.Mathlib.Omega.{arith}
use native.Mathlib.Nat.{add-zero}
use mathlib.Core.Path.{◌≡◌, refl, ◌∙◌, ap}
use mathlib.Core.List.{List, [], ◌∷◌, ◌++◌}
use lib.ListN.{length, take, drop, set}
use lib.Seq.{sets, sets-eq}

abbrev pub put_from : List ℕ → ℕ → ℕ → List ℕ → List ℕ
put_from l i k [] = l
put_from l i k (a ∷ ws) = put_from (set l (i + k) a) i (k + 1) ws

put_from-sets : (ws l : List ℕ) (i k : ℕ) → put_from l i k ws ≡ sets l (i + k) ws
put_from-sets [] l i k = refl
put_from-sets (a ∷ ws) l i k =
    let e : i + (k + 1) ≡ suc (i + k) = omega arith in
    put_from-sets ws (set l (i + k) a) i (k + 1) ∙ ap (λ (j : ℕ). sets (set l (i + k) a) j ws) e

pub put-words : (ws l : List ℕ) (i : ℕ) → i + length ws ≤ length l → put_from l i 0 ws ≡ take i l ++ ws ++ drop (i + length ws) l
put-words ws l i h = put_from-sets ws l i 0 ∙ ap (λ (j : ℕ). sets l j ws) (add-zero i) ∙ sets-eq ws l i h
