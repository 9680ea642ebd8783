-- Which notes are kept: of each kind its first, as many as the cap says, in the order of the file: docs/FORMAT.md, B13, B14.
--
--   is_due       whether one more note is kept of the kind with the place k: its count is below the cap; with cap 0 never
--   counted     the counts with one more of that kind
--   none        the counts before the first note
--   of_kind      those anomalies of a list that are of the kind with the place k, in order
--   kept_from    of the anomalies to come, those that are kept where the counts are these
--   kept_notes   of all anomalies of a file, those that are kept
--   no_notes     the note state before the first note
--   stored_in    the note state with one more note of the kind with the place k
--
-- `kept_notes-of-kind` (proofs/Laws.antt) says it as one equation: of each kind, the first `cap`.
use Rattle.std.specs.Prelude.{ℕ, ◌+◌, List, [], ◌∷◌, ◌++◌, Bool, cond, get_or, set, replicate, ltb, eqb}
use Rattle.anomaly.specs.Note.{kinds, kind_index}
use Rattle.anomaly.specs.declared.Notes.{Notes}
use Rattle.anomaly.specs.declared.ResAnomaly.{ResAnomaly}

abbrev pub is_due : ℕ → List ℕ → ℕ → Bool
is_due cap counts k = ltb (get_or counts k 0) cap

abbrev pub counted : List ℕ → ℕ → List ℕ
counted counts k = set counts k (get_or counts k 0 + 1)

abbrev pub none : List ℕ
none = replicate kinds 0

unfoldable pub of_kind : ℕ → List ResAnomaly → List ResAnomaly
of_kind k [] = []
of_kind k (x ∷ xs) = cond (eqb (kind_index x) k) (x ∷ []) [] ++ of_kind k xs

unfoldable pub kept_from : ℕ → List ℕ → List ResAnomaly → List ResAnomaly
kept_from cap counts [] = []
kept_from cap counts (x ∷ xs) =
    let due = is_due cap counts (kind_index x) in
    cond due (x ∷ []) [] ++ kept_from cap (cond due (counted counts (kind_index x)) counts) xs

abbrev pub kept_notes : ℕ → List ResAnomaly → List ResAnomaly
kept_notes cap l = kept_from cap none l

abbrev pub no_notes : Notes
no_notes = record { counts = none; used = 0 }

abbrev pub stored_in : Notes → ℕ → Notes
stored_in n k = record { counts = counted n.counts k; used = n.used + 1 }
