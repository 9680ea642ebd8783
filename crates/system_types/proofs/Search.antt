-- Laws of looking a name up: specs/Names.antt, `name_by_id`, `system_name`. No contract cites this file.
-- In order: the entry with the id, where none before it has it (`name_of-at`); no entry has it (`name_by_id-missing`); of a table whose
-- ids rise, how far an entry's id is from the first (`rises_by`), an entry with the id (`rising-found`), and the two parts that a
-- search by halves knows (`Between`).
use Rattle.std.specs.Prelude.{Some, None}
use Rattle.std.proofs.Common.{◌≡◌, ℕ, zero, suc, ◌+◌, ◌*◌, ◌/◌, ◌<◌, ◌≤◌, Bool, true, false, ltb, List, [], ◌∷◌, length, get_or, sym, refl}
use Rattle.std.proofs.Common.{◌∙◌, arith, ltb-false, ltb-true, eq-eqb, ne_eqb}
use Rattle.system_types.specs.Names.{top_byte, Rising, name_by_id, system_name}
use Rattle.system_types.proofs.Laws.{get_d-behind}

-- ---- one entry after the other

pub name_by_id-missing : (id : ℕ) (w : List ℕ) → ((i : ℕ) → 3 * i + 3 ≤ length w → get_or w (3 * i) 0 ≡ id → ⊥) → name_by_id id w ≡ None
unfolding name_by_id
name_by_id-missing id [] h = refl
name_by_id-missing id (x ∷ []) h = refl
name_by_id-missing id (x ∷ y ∷ []) h = refl
name_by_id-missing id (x ∷ y ∷ z ∷ w) h =
    rw (ne_eqb x id (λ e. h 0 (omega arith) e)) (name_by_id-missing id w (λ i p e. h (suc i) (omega arith) (get_d-behind x y z w i ∙ e)))

pub name_of-at
    : (id : ℕ) (w : List ℕ) (i : ℕ)
    → 3 * i + 3 ≤ length w
    → get_or w (3 * i) 0 ≡ id
    → ((j : ℕ) → j < i → get_or w (3 * j) 0 ≡ id → ⊥)
    → name_by_id id w ≡ Some ((get_or w (3 * i + 1) 0), (get_or w (3 * i + 2) 0))
unfolding name_by_id
name_of-at id [] i p e h = absurd (let y : ⊥ = omega arith in y)
name_of-at id (x ∷ []) i p e h = absurd (let y : ⊥ = omega arith in y)
name_of-at id (x ∷ y ∷ []) i p e h = absurd (let a : ⊥ = omega arith in a)
name_of-at id (x ∷ y ∷ z ∷ w) zero p e h = rw (eq-eqb x id e)
name_of-at id (x ∷ y ∷ z ∷ w) (suc i) p e h =
    let a : 3 * suc i + 1 ≡ suc (suc (suc (3 * i + 1))) = omega arith in
    let b : 3 * suc i + 2 ≡ suc (suc (suc (3 * i + 2))) = omega arith in
    rw (ne_eqb x id (λ f. h 0 (omega arith) f), a, b)
    (name_of-at id w i (omega arith) (sym (get_d-behind x y z w i) ∙ e) (λ j q f. h (suc j) (omega arith) (get_d-behind x y z w j ∙ f)))

pub system_name-top : (id : ℕ) (w : List ℕ) → top_byte id ≡ 1 → system_name id w ≡ name_by_id id w
system_name-top id w e = rw (eq-eqb (top_byte id) 1 e)

-- ---- ids that rise

-- ids that rise are at least as far from each other as their entries
pub rises_by : (w : List ℕ) → Rising w → (i : ℕ) → 3 * i + 3 ≤ length w → get_or w 0 0 + i ≤ get_or w (3 * i) 0
rises_by w r zero h = omega arith
rises_by w r (suc i) h =
    let p = rises_by w r i (omega arith) in
    let q = r.rises i (suc i) (omega arith) h in
    omega arith

-- an entry with the id, wherever it was looked for
pub rising-found
    : (id : ℕ) (w : List ℕ) (i : ℕ)
    → Rising w
    → i < length w / 3
    → get_or w (3 * i) 0 ≡ id
    → name_by_id id w ≡ Some ((get_or w (3 * i + 1) 0), (get_or w (3 * i + 2) 0))
rising-found id w i r p e = name_of-at id w i (omega arith) e (λ j k g. let s = r.rises j i k (omega arith) in omega arith)

-- ---- by halves

-- the ids before entry `low` are below `id`, and those from entry `high` on above it
pub record Between (w : List ℕ) (id low high : ℕ) : Type 0 where
  pub fits : 3 * high ≤ length w
  pub order : low ≤ high
  pub below : (j : ℕ) → j < low → get_or w (3 * j) 0 < id
  pub above : (j : ℕ) → high ≤ j → 3 * j + 3 ≤ length w → id < get_or w (3 * j) 0

pub between-missing : (w : List ℕ) (id low high : ℕ) → Between w id low high → high ≤ low → name_by_id id w ≡ None
between-missing w id low high b p = name_by_id-missing id w go
  where
    go : (i : ℕ) → 3 * i + 3 ≤ length w → get_or w (3 * i) 0 ≡ id → ⊥
    go i q e = at (ltb i low) refl
      where
        at : (d : Bool) → ltb i low ≡ d → ⊥
        at true f = let s = b.below i (ltb-true i low f) in omega arith
        at false f = let s = b.above i (let g = ltb-false i low f in omega arith) q in omega arith
