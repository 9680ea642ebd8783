-- The questions asked of a file with foreign chunks put in are answered as of the file: docs/FORMAT.md, P3. No contract cites this file.
-- Of any two results that their promises allow; the head is opened as that of the file (`open-same`).
--
--   insertion-text, insertion-content, insertion-first, insertion-many   text, content, first value, and many of them
use Rattle.std.specs.Prelude.{Result, Ok, Err}
use Prim.Native.Nat.{ℕ, ◌/◌, ◌≤◌}
use mathlib.Core.Path.{◌≡◌, refl, sym, ◌∙◌, ap}
use mathlib.Core.List.{List}
use borrow.Author.Tests.{le-ltb}
use lib.ListN.{length}
use Rattle.errors.specs.declared.ReadCounts.{ReadCounts}
use Rattle.errors.specs.Refusal.{text_numbers_of, first_numbers_of, pair_numbers_of}
use Rattle.errors.proofs.Laws.{text_numbers_of-unique, first_numbers_of-unique, pair_numbers_of-unique}
use Rattle.records.specs.Limits.{file_limit}
use Rattle.records.specs.Words.{pair_width}
use Rattle.system_types.specs.Names.{Lent}
use Rattle.head.specs.declared.HeadEnd.TheVariants.{Whole}
use Rattle.head.specs.Head.{opened_of, tables_in}
use Rattle.head.specs.Entry.{question, Check, passes, fails, first_of, length_check, entry_checks}
use Rattle.head.specs.Ask.{open_by, open_of, content_asked_by}
use Rattle.head.specs.Ask.{text_answer, text_buffer, content_answer, TextReads}
use Rattle.first_value.specs.Question as first
use Rattle.first_value.specs.Question.{fit_of, shared_of, first_answer, FirstReads}
use Rattle.first_values.specs.Pairs.{asks, answers_from, many_answer, answers_after, ManyReads}
use Rattle.first_values.proofs.Laws.{answers_from-same}
use Rattle.walk.specs.Settle.{Room}
use Rattle.walk.specs.Reading.{reading}
use Rattle.claims.specs.Insertion.{ForeignChunk, inserted_file}
use Rattle.claims.proofs.Settle.Success.{success}
use Rattle.claims.proofs.Insertion.Theorem.{head-whole, insertion-head}
use Rattle.claims.proofs.Insertion.InsertedFile.{longer-tables}
use Rattle.errors.specs.declared.FirstValue.{FirstValue}
use Rattle.errors.specs.declared.Refusal.{Refusal}
use Rattle.errors.specs.declared.TextWritten.{TextWritten}
use Rattle.text.specs.declared.Head.{Head}

module _ (r : Room) (f : List ℕ) (lent : Lent) (c : ReadCounts) (done : (reading r f lent).answer ≡ Ok c) (none : c.notes ≡ 0)
    (places : List (List ForeignChunk)) (limit : length (inserted_file places f) ≤ file_limit) where
  abbrev g : List ℕ
  g = inserted_file places f

  short : length f ≤ file_limit
  short = (success r f lent c done).short

  whole : (opened_of f).end ≡ Whole
  whole = head-whole r f lent c done none

  opened-same : opened_of g ≡ opened_of f
  opened-same = (insertion-head r f lent c done none places).0

  tables-same : tables_in g (opened_of f).head ≡ tables_in f (opened_of f).head
  tables-same = longer-tables f short whole places

  -- the head is opened as that of f, and it is that of f
  open-same : open_of g lent ≡ open_of f lent
  unfolding open_of length_check
  open-same = rw (le-ltb file_limit (length g) limit, le-ltb file_limit (length f) short, opened-same)

  asked-same : (i : ℕ) → content_asked_by g lent i (open_of g lent) ≡ content_asked_by f lent i (open_of f lent)
  unfolding open_of
  asked-same i = ap (content_asked_by g lent i) open-same ∙ go (first_of (entry_checks f lent question))
    where
      go : (x : Check) → content_asked_by g lent i (open_by (opened_of f) x) ≡ content_asked_by f lent i (open_by (opened_of f) x)
      go passes = rw (whole, tables-same)
      go (fails y) = refl

  text_same : (n i : ℕ) → (text_answer g lent n i ≡ text_answer f lent n i) × (text_buffer g lent n i ≡ text_buffer f lent n i)
  unfolding text_answer text_buffer
  text_same n i = (rw (asked-same i, open-same), rw (asked-same i, open-same))

  pub insertion-text : (before : List ℕ) (i : ℕ) (a a' : Result TextWritten Refusal) (after after' : List ℕ) → TextReads f lent before i a after
      → TextReads g lent before i a' after' → (a' ≡ a) × (after' ≡ after)
  insertion-text before i a a' after after' p q =
      let e = text_same (length before) i in
      (text_numbers_of-unique a' a (q.answer ∙ ap text_numbers_of e.0 ∙ sym p.answer), q.out ∙ e.1 ∙ sym p.out)

  content-same : (i : ℕ) → content_answer g lent i ≡ content_answer f lent i
  unfolding content_answer
  content-same i = rw (asked-same i)

  pub insertion-content : (i : ℕ) (s s' : List ℕ) → s ≡ content_answer f lent i → s' ≡ content_answer g lent i → s' ≡ s
  insertion-content i s s' p q = q ∙ content-same i ∙ sym p

  module _ (ns ats tag name : List ℕ) (nodes attributes : ℕ) where
    asked-fit : (x : Result (Unit {0}) ℕ) → first.first_asked_by g lent ns ats tag name nodes (first.fitted_by (opened_of f).head x)
        ≡ first.first_asked_by f lent ns ats tag name nodes (first.fitted_by (opened_of f).head x)
    asked-fit (Ok tt) = rw tables-same
    asked-fit (Err k) = refl

    asked-first : (x : Check) → first.first_asked_by g lent ns ats tag name nodes (first.shared_by (fit_of ns ats nodes attributes) (open_by (opened_of f) x))
        ≡ first.first_asked_by f lent ns ats tag name nodes (first.shared_by (fit_of ns ats nodes attributes) (open_by (opened_of f) x))
    asked-first passes = rw whole (asked-fit (fit_of ns ats nodes attributes))
    asked-first (fails y) = refl

    first-same : first_answer g lent ns ats tag name nodes attributes ≡ first_answer f lent ns ats tag name nodes attributes
    unfolding first_answer shared_of open_of
    first-same =
        ap (λ (x : Result Head Refusal). first.first_asked_by g lent ns ats tag name nodes (first.shared_by (fit_of ns ats nodes attributes) x)) open-same
        ∙ asked-first (first_of (entry_checks f lent question))

    pub insertion-first : (a a' : Result FirstValue Refusal) → FirstReads f lent ns ats tag name nodes attributes a
        → FirstReads g lent ns ats tag name nodes attributes a' → a' ≡ a
    insertion-first a a' p q = first_numbers_of-unique a' a (q.answer ∙ ap first_numbers_of first-same ∙ sym p.answer)

  -- many pairs at once: what is shared is as before, and so is the answer to each pair
  module _ (ns ats pairs area : List ℕ) (nodes attributes m : ℕ) where
    shared_same : shared_of g lent ns ats nodes attributes ≡ shared_of f lent ns ats nodes attributes
    unfolding shared_of
    shared_same = rw open-same

    many-same : many_answer g lent ns ats nodes attributes pairs area m ≡ many_answer f lent ns ats nodes attributes pairs area m
    unfolding many_answer
    many-same = rw shared_same

    words_same : answers_from (asks g lent ns ats nodes attributes) area (length pairs / pair_width) pairs
        ≡ answers_from (asks f lent ns ats nodes attributes) area (length pairs / pair_width) pairs
    words_same =
        answers_from-same (asks g lent ns ats nodes attributes) (asks f lent ns ats nodes attributes)
        (λ tag name. first-same ns ats tag name nodes attributes) area (length pairs / pair_width) pairs

    list_same : answers_after g lent ns ats nodes attributes pairs area m ≡ answers_after f lent ns ats nodes attributes pairs area m
    unfolding answers_after
    list_same = rw (words_same, many-same)

  pub insertion-many : (ns ats pairs area before : List ℕ) (nodes attributes : ℕ) (a a' : Result ℕ Refusal) (after after' : List ℕ)
      → ManyReads f lent ns ats pairs area before nodes attributes a after → ManyReads g lent ns ats pairs area before nodes attributes a' after'
      → (a' ≡ a) × (after' ≡ after)
  insertion-many ns ats pairs area before nodes attributes a a' after after' p q = (
    pair_numbers_of-unique a' a (q.answer ∙ ap pair_numbers_of (many-same ns ats pairs area nodes attributes (length before)) ∙ sym p.answer),
    q.list ∙ list_same ns ats pairs area nodes attributes (length before) ∙ sym p.list,
  )
