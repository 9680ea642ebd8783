-- The chunks that the walk takes, and what it leaves: laws of `chunks_of` and `rest_of` (docs/FORMAT.md, W1 to W4, P3). No contract cites this file.
--
--   fits, nil-stop, stop-of          how many bytes a turn takes, and where the walk stops
--   chunks_of-stop, chunks_of-step, rest_of-stop, rest_of-step   the two equations of each
--   chunks_of-front                   a chunk at the front
--   inserted-none                    a body put together again
--   rest_of-few                       what is left is no chunk
use Prim.Native.Nat.{ℕ, zero, suc, ◌≤◌, ◌<◌}
use native.Mathlib.Omega.{arith}
use mathlib.Core.Path.{◌≡◌, refl, sym, ◌∙◌, ap}
use mathlib.Core.List.{List, [], ◌∷◌, ◌++◌, append_assoc, append-nil}
use lib.ListN.{length, take, drop, length-append, take-append-drop}
use lib.Seq.{drop-append_seam, take-append_seam}
use Rattle.chunk.specs.Walk.{walk}
use Rattle.chunk.proofs.Walk.{walk-stop, walk_step, walk-ind}
use Rattle.common.proofs.Laws.{header_of-short}
use Rattle.xml_elements.specs.declared.Turn.{Turn}
use Rattle.xml_elements.specs.declared.Turn.TheVariants.{Stop, Foreign, Met, Cut}
use Rattle.xml_elements.specs.Chunk.{turn_of, used_of}
use Rattle.xml_elements.proofs.Laws.{told, turn_of-told, turn_of-stop, used_of-le}
use Rattle.claims.specs.Insertion.{taken, chunks_of, rest_of, woven, inserted}

pub fits : {S : Type 0} (l : List ℕ) (s : S) → taken l s ≤ length l
fits l s = used_of-le l (turn_of l) (turn_of-told l)

pub nil-stop : turn_of [] ≡ Stop
nil-stop = turn_of-stop [] (header_of-short [] (omega arith))

pub stop-of : (l : List ℕ) → used_of (length l) (turn_of l) ≡ 0 → turn_of l ≡ Stop
stop-of l z = go (turn_of l) refl
  where
    none : {A : Type 0} {n : ℕ} → n ≡ 0 → 8 ≤ n → A
    none e h = absurd (let y : ⊥ = omega arith in y)

    go : (T : Turn) → turn_of l ≡ T → turn_of l ≡ Stop
    go Stop e = e
    go (Foreign k a u) e = none (rw e at z) (told l e).1
    go (Met x) e = none (rw e at z) (omega (arith, (told l e).0))
    go (Cut x) e = let t = told l e in none (rw e at z) (omega (arith, t.0, t.1))

-- ---- the chunks

abbrev add_chunk : List ℕ → List (List ℕ) → List (List ℕ)
add_chunk l cs = cs ++ (take (used_of (length l) (turn_of l)) l ∷ [])

-- those before stay in front
chunks-more : (l : List ℕ) (ds cs : List (List ℕ)) → walk taken add_chunk l cs ≡ cs ++ walk taken add_chunk l []
chunks-more =
    walk-ind taken add_chunk fits (λ l _. (cs : List (List ℕ)) → walk taken add_chunk l cs ≡ cs ++ walk taken add_chunk l [])
    (λ l ds z cs. rw (walk-stop taken add_chunk l cs z, walk-stop taken add_chunk l [] z) (sym (append-nil cs)))
    (λ l ds m u f ih cs.
    rw (walk_step taken add_chunk l cs m u f, walk_step taken add_chunk l [] m u f, ih (add_chunk l cs), ih (add_chunk l []))
    (append_assoc cs (take (used_of (length l) (turn_of l)) l ∷ []) (walk taken add_chunk (drop (suc m) l) [])))

pub chunks_of-stop : (l : List ℕ) → turn_of l ≡ Stop → chunks_of l ≡ []
unfolding chunks_of
chunks_of-stop l e = walk-stop taken add_chunk l [] (ap (used_of (length l)) e)

pub chunks_of-step : (l : List ℕ) (m : ℕ) → used_of (length l) (turn_of l) ≡ suc m → suc m ≤ length l
    → chunks_of l ≡ take (suc m) l ∷ chunks_of (drop (suc m) l)
unfolding chunks_of
chunks_of-step l m u f = walk_step taken add_chunk l [] m u f ∙ chunks-more (drop (suc m) l) [] (add_chunk l []) ∙ rw u

-- ---- what is left

abbrev leave : List ℕ → List ℕ → List ℕ
leave l r = drop (used_of (length l) (turn_of l)) l

pub rest_of-stop : (l : List ℕ) → turn_of l ≡ Stop → rest_of l ≡ l
unfolding rest_of
rest_of-stop l e = walk-stop taken leave l l (ap (used_of (length l)) e)

pub rest_of-step : (l : List ℕ) (m : ℕ) → used_of (length l) (turn_of l) ≡ suc m → suc m ≤ length l → rest_of l ≡ rest_of (drop (suc m) l)
unfolding rest_of
rest_of-step l m u f = walk_step taken leave l l m u f ∙ rw u

-- ---- a chunk c at the front

module _ (c d : List ℕ) {T : Turn} (e : turn_of (c ++ d) ≡ T) (q : used_of (length (c ++ d)) T ≡ length c) (h : 0 < length c) where
  pub chunks_of-front : (chunks_of (c ++ d) ≡ c ∷ chunks_of d) × (rest_of (c ++ d) ≡ rest_of d)
  chunks_of-front = go (length c) refl
    where
      go : (n : ℕ) → length c ≡ n → (chunks_of (c ++ d) ≡ c ∷ chunks_of d) × (rest_of (c ++ d) ≡ rest_of d)
      go zero z = absurd (let y : ⊥ = omega arith in y)
      go (suc n) z =
          let u : used_of (length (c ++ d)) (turn_of (c ++ d)) ≡ suc n = ap (used_of (length (c ++ d))) e ∙ q ∙ z in
          let f : suc n ≤ length (c ++ d) = rw length-append (omega arith) in
          (chunks_of-step (c ++ d) n u f ∙ rw (← z, take-append_seam, drop-append_seam), rest_of-step (c ++ d) n u f ∙ rw (← z, drop-append_seam))

-- ---- the chunks and what is left are the body

-- with nothing put in it is the same
pub inserted-none : (body : List ℕ) → inserted [] body ≡ body
unfolding inserted
inserted-none body =
    walk-ind {S = List ℕ} taken (λ l s. s) fits (λ l s. woven [] (chunks_of l) (rest_of l) ≡ l)
    (λ l s z. rw (chunks_of-stop l (stop-of l z), rest_of-stop l (stop-of l z)))
    (λ l s m u f ih. rw (chunks_of-step l m u f, rest_of-step l m u f, ih) (take-append-drop (suc m) l))
    body []

-- fewer than 8 bytes are left: a place before what is left would be a place at the end
pub rest_of-few : (body : List ℕ) → length (rest_of body) < 8
rest_of-few body =
    walk-ind {S = List ℕ} taken (λ l s. s) fits (λ l s. length (rest_of l) < 8)
    (λ l s z. rw (rest_of-stop l (stop-of l z)) (told l (stop-of l z)))
    (λ l s m u f ih. rw (rest_of-step l m u f) ih)
    body []
