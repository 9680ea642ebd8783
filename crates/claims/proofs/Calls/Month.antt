-- The claims about a round-up that speak of readings: docs/FORMAT.md, R4, R7. No contract cites this file.
--
--   words-kinds   the kinds in the words of notes are those of the notes
--   month-kinds   for every reading that succeeds, what `kinds_in` counts in its note table is how many of the kept notes are of each kind from 0 to 12
--   month-kept    their sum is how many of the kept notes are of these kinds
--   month-grid    over any month of calls of which none meets 29, the grid's sum is the kept notes of kinds 0 to 12 of the files that were read
use Rattle.std.specs.Prelude.{Result, Ok, Err}
use Prim.Native.Nat.{ℕ, zero, suc, ◌/◌, ◌≤◌, min}
use native.Mathlib.Omega.{arith}
use native.Mathlib.Nat.{min-eq_left}
use mathlib.Core.Path.{◌≡◌, refl, sym, ◌∙◌, ap}
use mathlib.Core.List.{List, [], ◌∷◌, ◌++◌, map}
use lib.ListN.{length, take}
use Rattle.anomaly.specs.Note.{note_of, kind_number}
use Rattle.anomaly.specs.Kept.{kept_notes}
use Rattle.anomaly.specs.declared.Note.{Note}
use Rattle.anomaly.specs.declared.ResAnomaly.{ResAnomaly}
use Rattle.errors.specs.Refusal.{numbers_of}
use Rattle.errors.specs.declared.ReadCounts.{ReadCounts}
use Rattle.records.specs.Words.{note_width}
use Rattle.system_types.specs.Names.{Lent}
use Rattle.walk.specs.Reading.{reading, Reads}
use Rattle.round_up.specs.RoundUp.{kinds, empty_round_up, grid_of}
use Rattle.round_up.specs.Kinds.{kinds_from, tally, kinds_in, in_grid}
use Rattle.round_up.specs.History.{File, after, NoneFull, total}
use Rattle.round_up.specs.History as history
use Rattle.round_up.proofs.Tallies.{total-tally}
use Rattle.round_up.proofs.Sums.{grid-sum}
use Rattle.round_up.proofs.AnswerLaws.{none-added}
use Rattle.c_api.specs.Words.{words_of, answer_of, ReadsWords}
use Rattle.c_api.specs.declared.AxmlAnswer.{AxmlAnswer}
use Rattle.claims.specs.Month.{Called, Told, AllTold, kept_by, kept_of, kept_in}
use Rattle.claims.specs.Readers.{events_of}
use Rattle.claims.specs.Counts.{event_notes}
use Rattle.claims.proofs.Calls.InC.{room, places, as-reads, done-of, done-zeros}
use Rattle.claims.proofs.Calls.Zeros as zeros
use Rattle.claims.proofs.Structure.Theorem as tree
use Rattle.errors.specs.declared.Refusal.{Refusal}

pub words-kinds : (n : ℕ) (os : List Note) (t : List ℕ) → n ≤ length os → kinds_from n (words_of os ++ t) ≡ map (λ (o : Note). o.kind) (take n os)
unfolding kinds_from words_of
words-kinds zero os t h = refl
words-kinds (suc n) [] t h = absurd (let z : ⊥ = omega arith in z)
words-kinds (suc n) (o ∷ os) t h = ap (λ (l : List ℕ). o.kind ∷ l) (words-kinds n os t (omega arith))

map-note_of : (xs : List ResAnomaly) → map (λ (o : Note). o.kind) (map note_of xs) ≡ map kind_number xs
map-note_of [] = refl
map-note_of (x ∷ xs) = ap (λ (l : List ℕ). kind_number x ∷ l) (map-note_of xs)

module _ (f : List ℕ) (lent : Lent) (ns ats ws : List ℕ) (cap mode : ℕ) (a : AxmlAnswer) (ns' ats' ws' : List ℕ) (h : ReadsWords f lent ns ats ws cap mode a ns' ats' ws') where
  abbrev pub ks : List ResAnomaly
  ks = kept_notes cap (event_notes (events_of mode f lent))

  module _ (none : a.refusal ≡ 0) where
    counted : (c : ReadCounts) × ((reading (room f lent ns ats ws cap mode) f lent).answer ≡ Ok c)
    counted = done-of _ (sym (ap (λ (x : AxmlAnswer). x.refusal) h.answer) ∙ none)

    abbrev c : ReadCounts
    c = counted.0

    abbrev os : List Note
    os = (reading (room f lent ns ats ws cap mode) f lent).notes

    many-notes : a.notes ≡ c.notes
    unfolding numbers_of
    many-notes = ap (λ (x : AxmlAnswer). x.notes) (h.answer ∙ ap (λ (b : Result ReadCounts Refusal). answer_of (numbers_of b)) counted.1)

    reads : Reads f lent ns ats (places f lent ns ats ws cap mode) cap mode (Ok c)
        (reading (room f lent ns ats ws cap mode) f lent).nodes (reading (room f lent ns ats ws cap mode) f lent).attributes os
    reads = as-reads f lent ns ats ws cap mode (Ok c) counted.1

    all_there : min a.notes (length ws' / note_width) ≡ a.notes
    all_there =
        let z = (done-zeros f lent ns ats ws cap mode a ns' ats' ws' h none).note_words in
        min-eq_left (omega (arith, z.long, z.there))

    within : c.notes ≤ length os
    unfolding numbers_of
    within = let z = (zeros.done-zeros f lent ns ats (places f lent ns ats ws cap mode) cap mode c _ _ _ reads).note_records in omega (arith, z.long, z.there)

    pub month-kinds : kinds_in ws' a.notes ≡ tally kinds 0 (map kind_number ks)
    month-kinds =
        ap (λ (n : ℕ). tally kinds 0 (kinds_from n ws')) (all_there ∙ many-notes)
        ∙ ap (λ (l : List ℕ). tally kinds 0 (kinds_from c.notes l)) h.notes
        ∙ ap (tally kinds 0)
        (words-kinds c.notes os _ within
        ∙ ap (map (λ (o : Note). o.kind)) (tree.notes-kept f lent ns ats (places f lent ns ats ws cap mode) cap mode c _ _ os reads) ∙ map-note_of ks)

    pub month-kept : total (kinds_in ws' a.notes) ≡ in_grid (map kind_number ks)
    month-kept = ap total month-kinds ∙ total-tally (map kind_number ks)

-- ---- a month of readings

done-kept : (x : Called) (c : ReadCounts) → ReadsWords x.file x.lent x.nodes x.attributes x.notes x.cap x.mode (answer_of (numbers_of (Ok c)))
    x.nodes' x.attributes' x.notes'
    → total (kinds_in x.notes' (numbers_of (Ok c)).notes) ≡ in_grid (map kind_number (kept_notes x.cap (event_notes (events_of x.mode x.file x.lent))))
unfolding numbers_of
done-kept x c h =
    month-kept x.file x.lent x.nodes x.attributes x.notes x.cap x.mode (answer_of (numbers_of (Ok c))) x.nodes' x.attributes'
    x.notes' h refl

told-kept : (x : Called) (f : File) → Told x f → history.kept_of f ≡ kept_of x
told-kept x f t = rw (t.answer, t.kinds) (go x.answer x.reads)
  where
    go : (b : Result ReadCounts Refusal) → ReadsWords x.file x.lent x.nodes x.attributes x.notes x.cap x.mode (answer_of (numbers_of b)) x.nodes'
        x.attributes' x.notes'
        → history.kept_by b (kinds_in x.notes' (numbers_of b).notes) ≡ kept_by b (kept_notes x.cap (event_notes (events_of x.mode x.file x.lent)))
    go (Ok c) h = done-kept x c h
    go (Err e) h = refl

told-all : (xs : List Called) (fs : List File) → AllTold xs fs → history.kept_in fs ≡ kept_in xs
unfolding history.kept_in
told-all [] [] t = refl
told-all [] (f ∷ fs) t = absurd t
told-all (x ∷ xs) [] t = absurd t
told-all (x ∷ xs) (f ∷ fs) t = omega (arith, told-kept x f t.0, told-all xs fs t.1)

-- where none meets 29, the grid's sum is the kept notes of kinds 0 to 12 of all the files that were read
pub month-grid : (xs : List Called) (fs : List File) → AllTold xs fs → NoneFull empty_round_up fs → total (grid_of (after empty_round_up fs)) ≡ kept_in xs
month-grid xs fs t h = grid-sum fs ∙ ap history.kept_in (none-added empty_round_up fs h) ∙ told-all xs fs t
