-- Notes of kind 32, the damaged name of an element, beside all others: docs/FORMAT.md, B12 to B14, W30, P3.
--
--   damage_place   the place of kind 32 in the counts
--   besides       those anomalies of a list that are not of the kind with the place k, in order; those that are: `count_of_kind` of anomaly/Kept
--   OnlyDamage    none of these notes is of another kind than 32
--
-- The theorems: `insertion-damaged` and `kinds-apart` of proofs/Claims.antt.
use Rattle.std.specs.Prelude.{ℕ, ◌≡◌, List, [], ◌∷◌, ◌++◌, cond, eqb}
use Rattle.anomaly.specs.Note.{kind_index}
use Rattle.anomaly.specs.declared.Note.{Note}
use Rattle.anomaly.specs.declared.ResAnomaly.{ResAnomaly}
use Rattle.claims.specs.Shape.{count_of_kind}

abbrev pub damage_place : ℕ
damage_place = 13

abbrev pub besides : ℕ → List ResAnomaly → List ResAnomaly
besides k [] = []
besides k (x ∷ xs) = cond (eqb (kind_index x) k) [] (x ∷ []) ++ besides k xs

abbrev pub OnlyDamage : List Note → Type 0
OnlyDamage os = (k : ℕ) → (k ≡ 32 → ⊥) → ◌≡◌ {A = ℕ} (count_of_kind k os) 0
