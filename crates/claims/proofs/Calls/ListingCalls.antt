-- A listing read back, of calls: docs/FORMAT.md, L9, B7, B8. No contract cites this file.
--
--   calls_back       what one call printed, another reads back: the answer, the cap, and every word of the three tables
--   relisted-by      answers with the same answer and cap are the same
--   relist-refused   a text that is refused leaves zeros alone; relist-done: behind what was read stand zeros
use Rattle.std.specs.Prelude.{Result, Ok}
use Prim.Native.Nat.{ℕ, ◌-◌, ◌*◌, ◌≤◌}
use native.Mathlib.Omega.{arith}
use native.Mathlib.Nat.{sub-zero}
use mathlib.Core.Path.{◌≡◌, refl, sym, ◌∙◌, ap}
use mathlib.Core.List.{List, [], ◌++◌, append-nil}
use mathlib.Core.Bool.{true}
use borrow.Author.Tests.{le-leb}
use lib.ListN.{length, take, replicate, length-replicate, length-take, take-append-drop}
use lib.Seq.{take-append_seam}
use Rattle.anomaly.specs.declared.Note.{Note}
use Rattle.digits.specs.Written.{fitted}
use Rattle.errors.specs.Refusal.{numbers_of, lines_numbers_of}
use Rattle.errors.proofs.Laws.{numbers_of-unique}
use Rattle.records.specs.Words.{node_width, attribute_width, note_width}
use Rattle.records.specs.Limits.{listed_notes, listed_cap}
use Rattle.walk.specs.Reading.{Reading, zero_note}
use Rattle.walk.specs.Inner.Outcome.{cleared}
use Rattle.listed.specs.Lists.{listed, listed_text, Lists}
use Rattle.listed.specs.Roomy.{Roomy}
use Rattle.listed.proofs.Fits.{lists-text, lists-answer, lists-le}
use Rattle.c_api.specs.Words.{words_of}
use Rattle.c_api.proofs.Noting.{length-words, words-cleared}
use Rattle.listing_back.specs.Back.{Words, Relisting, fault, found, told, relisting, relisted_in, Relists}
use Rattle.listing_back.specs.declared.Relisted.{Relisted}
use Rattle.listing_back.proofs.Whole.{filled-le, relisting-said}
use Rattle.claims.specs.Cleared.{ZeroBehind}
use Rattle.claims.specs.Readers.{all_below}
use Rattle.claims.specs.Relisted.{said_by}
use Rattle.claims.proofs.Calls.Zeros.{behind}
use Rattle.claims.proofs.Calls.ListingBack.{listed_back, all-behind}
use Rattle.errors.specs.declared.ReadCounts.{ReadCounts}
use Rattle.errors.specs.declared.Refusal.{Refusal}

-- ---- from call to call

-- a list with zeros behind its front is that front over as many places
fitted-front : (k n : ℕ) (l : List ℕ) → length l ≡ n → k ≤ n → take k l ++ replicate (n - k) 0 ≡ l → fitted (take k l) n ≡ l
unfolding fitted
fitted-front k n l e h q = let m : length (take k l) ≡ k = omega (arith, length-take k l, e, h) in rw (m, le-leb k n h) q

words-front : (k : ℕ) (before after : List ℕ) → ZeroBehind 0 k before after → fitted (take k after) (length before) ≡ after
words-front k before after z =
    fitted-front k (length before) after z.long z.there (ap (λ (x : List ℕ). take k after ++ x) (sym z.zeros) ∙ take-append-drop k after)

notes-front :
    (k : ℕ) (before after : List Note) → ZeroBehind zero_note k before after → fitted (take (note_width * k) (words_of after)) (note_width * length before) ≡ words_of after
notes-front k before after z =
    let w = words_of after in
    let same : cleared after k (length after) ≡ after =
    ap (λ (x : List Note). take k after ++ x) (ap (λ (n : ℕ). replicate (n - k) zero_note) z.long ∙ sym z.zeros) ∙ take-append-drop k after in
    let l : length w ≡ note_width * length before = length-words after ∙ ap (λ (n : ℕ). note_width * n) z.long in
    fitted-front (note_width * k) (note_width * length before) w l (omega (arith, z.there))
    (ap (λ (n : ℕ). take (note_width * k) w ++ replicate (n - note_width * k) 0) (sym l) ∙
    (words-cleared after [] w k (note_width * k) (omega (arith, z.there, z.long)) refl (sym (append-nil w)) ∙
    (ap (λ (x : List Note). words_of x ++ []) same ∙ append-nil w)))

fitted-text : (t : List ℕ) (n : ℕ) → length t ≤ n → fitted t n ≡ t ++ replicate (n - length t) 0
unfolding fitted
fitted-text t n h = rw (le-leb (length t) n h)

same-words : {n m o n' m' o' : ℕ} → n ≡ n' → m ≡ m' → o ≡ o' →
    ◌≡◌ {A = Words} (record { nodes = n; attributes = m; notes = o }) (record { nodes = n'; attributes = m'; notes = o' })
same-words p q r = rw (p, q, r)

module _
    (f ns ats before : List ℕ) (bytes : all_below 256 f ≡ true) (room : Roomy (length ns) (length ats) (length before)) (a : Result ℕ Refusal) (ns₁ ats₁ after : List ℕ)
    (first : Lists f ns ats before a ns₁ ats₁ after) where
  -- the bytes that the first call printed
  printed-text : take (lines_numbers_of a).length after ≡ listed_text f (length ns) (length ats)
  unfolding lines_numbers_of
  printed-text =
      let t = listed_text f (length ns) (length ats) in
      let e : a ≡ Ok (length t) = lists-answer f ns ats before ns₁ ats₁ after room a first in
      let h : length t ≤ length before =
      lists-le f ns ats before ns₁ ats₁ after room (length t) (lists-text f ns ats before ns₁ ats₁ after a (length t) e first) in
      ap (λ (x : Result ℕ Refusal). take (lines_numbers_of x).length after) e ∙
      (ap (take (length t)) (first.printed.out ∙ fitted-text t (length before) h) ∙ take-append_seam t (replicate (length before - length t) 0))

  module _
      (ns₂ ats₂ os : List ℕ) (l₁ : length ns₂ ≡ length ns) (l₂ : length ats₂ ≡ length ats) (l₃ : length os ≡ note_width * listed_notes) (r : Relisted)
      (ns₃ ats₃ os₃ : List ℕ) (second : Relists (take (lines_numbers_of a).length after) ns₂ ats₂ os r ns₃ ats₃ os₃) where
    abbrev read : Reading
    read = listed f (length ns) (length ats)

    said : relisted_in (take (lines_numbers_of a).length after) ns₂ ats₂ os ≡ said_by read
    said =
        ap (λ (x : List ℕ). relisted_in x ns₂ ats₂ os) printed-text ∙
        (ap (λ (w : Words). told (relisting w (listed_text f (length ns) (length ats)))) (same-words l₁ l₂ l₃) ∙
        ap told (listed_back f ns ats bytes room.nodes room.attributes))

    fitted-said : (pick : Relisting → List ℕ) (n m : ℕ) → n ≡ m → fitted (pick (relisted_in (take (lines_numbers_of a).length after) ns₂ ats₂ os)) n ≡ fitted (pick (said_by read)) m
    fitted-said pick n m e = ap (λ (x : Relisting). fitted (pick x) n) said ∙ ap (fitted (pick (said_by read))) e

    pub calls_back :
        (r.answer ≡ read.answer) × (r.cap ≡ listed_cap) × (ns₃ ≡ ns₁) × (ats₃ ≡ ats₁) × (os₃ ≡ words_of read.notes)
    calls_back =
        let n = numbers_of read.answer in
        let z = all-behind f ns ats read.answer refl in
        let places : note_width * listed_notes ≡ note_width * length (replicate listed_notes zero_note) = ap (λ (k : ℕ). note_width * k) (sym (length-replicate listed_notes zero_note)) in (
          numbers_of-unique r.answer read.answer (second.answer ∙ ap (λ (x : Relisting). x.numbers) said),
          second.capped ∙ ap (λ (x : Relisting). x.cap) said,
          second.nodes ∙ (fitted-said (λ x. x.nodes) (length ns₂) (length ns) l₁ ∙ (words-front (node_width * n.nodes) ns read.nodes z.nodes ∙ sym first.nodes)),
          second.attributes ∙ (fitted-said (λ x. x.attributes) (length ats₂) (length ats) l₂ ∙
              (words-front (attribute_width * n.attributes) ats read.attributes z.attributes ∙ sym first.attributes)),
          second.notes ∙ (fitted-said (λ x. x.notes) (length os) (note_width * length (replicate listed_notes zero_note)) (l₃ ∙ places) ∙
              notes-front n.notes (replicate listed_notes zero_note) read.notes z.notes),
        )

-- ---- one answer, zeros

abbrev with-cap : Result ReadCounts Refusal → ℕ → Relisted
with-cap a c = record { answer = a; cap = c }

pub relisted-by : (r r' : Relisted) → r.answer ≡ r'.answer → r.cap ≡ r'.cap → r ≡ r'
relisted-by r r' p q = ap (λ (a : Result ReadCounts Refusal). with-cap a r.cap) p ∙ ap (λ (c : ℕ). with-cap r'.answer c) q

fitted_none : (n : ℕ) → fitted [] n ≡ replicate n 0
unfolding fitted
fitted_none n = rw (le-leb 0 n (omega arith), sub-zero n)

fitted-behind : (w before after : List ℕ) → after ≡ fitted w (length before) → length w ≤ length before → ZeroBehind 0 (length w) before after
unfolding fitted
fitted-behind w before after e h = behind 0 (length w) (length before) w before after refl refl h (e ∙ rw (le-leb (length w) (length before) h))

module _ (text ns ats os : List ℕ) (r : Relisted) (ns' ats' os' : List ℕ) (h : Relists text ns ats os r ns' ats' os') where
  pub relist-refused :
      (n v : ℕ) → relisting (record { nodes = length ns; attributes = length ats; notes = length os }) text ≡ fault n v →
      (r.cap ≡ 0) × (ns' ≡ replicate (length ns) 0) × (ats' ≡ replicate (length ats) 0) × (os' ≡ replicate (length os) 0)
  relist-refused n v e = (
    rw e at h.capped,
    (rw e at h.nodes) ∙ fitted_none (length ns),
    (rw e at h.attributes) ∙ fitted_none (length ats),
    (rw e at h.notes) ∙ fitted_none (length os),
  )

  pub relist-done :
      (x : Relisting) → relisting (record { nodes = length ns; attributes = length ats; notes = length os }) text ≡ found x →
      ZeroBehind 0 (length x.nodes) ns ns' × ZeroBehind 0 (length x.attributes) ats ats' × ZeroBehind 0 (length x.notes) os os'
  relist-done x e =
      let s = relisting-said (record { nodes = length ns; attributes = length ats; notes = length os }) text x e in (
        fitted-behind x.nodes ns ns' (rw e at h.nodes) (filled-le node_width x.numbers.nodes (length ns) x.nodes s.nodes),
        fitted-behind x.attributes ats ats' (rw e at h.attributes) (filled-le attribute_width x.numbers.attributes (length ats) x.attributes s.attributes),
        fitted-behind x.notes os os' (rw e at h.notes) (filled-le note_width x.numbers.notes (length os) x.notes s.notes),
      )
