-- The claims of the C interface: docs/FORMAT.md, P1, P3, P4. Each is that of the promise, its notes as words. No contract cites this file.
--
--   done-of                     what the numbers of an answer say of it
--   room, places, as-reads      a reading in C as a call of `read`; many: how many notes its words hold
--   refused-zeros, done-zeros   zeros behind what a call leaves
--   insertion, insertion-same, insertion-room   foreign chunks put into a file
--   text-refused-zeros, text-done-zeros, first-refused-zeros   the questions
use Rattle.std.specs.Prelude.{Result, Ok, Err}
use Prim.Native.Nat.{ℕ, zero, suc, ◌+◌, ◌-◌, ◌*◌, ◌/◌, ◌%◌, ◌≤◌}
use native.Mathlib.Omega.{arith}
use mathlib.Core.Path.{◌≡◌, refl, sym, ◌∙◌, ap}
use mathlib.Core.List.{List, [], ◌∷◌, ◌++◌, map}
use mathlib.Core.Bool.{false, true≢false}
use borrow.Author.Tests.{eq-eqb}
use lib.ListN.{length, drop, replicate, length-append, length-replicate}
use Rattle.anomaly.specs.Note.{note_of}
use Rattle.anomaly.specs.Kept.{kept_notes}
use Rattle.anomaly.specs.declared.Note.{Note}
use Rattle.anomaly.specs.declared.ResAnomaly.{ResAnomaly}
use Rattle.errors.proofs.Laws.{refusal_number-some}
use Rattle.errors.specs.Refusal.{refusal_number, numbers_of, text_numbers_of, first_numbers_of}
use Rattle.errors.specs.declared.Refusal.{Refusal}
use Rattle.errors.proofs.Laws.{refusal_number-some}
use Rattle.errors.specs.declared.ReadCounts.{ReadCounts}
use Rattle.records.specs.Limits.{file_limit}
use Rattle.head.specs.Ask.{TextReads, text_answer}
use Rattle.records.specs.Words.{node_width, attribute_width, note_width}
use Rattle.system_types.specs.Names.{Lent}
use Rattle.walk.specs.Settle.{Room}
use Rattle.walk.specs.Reading.{Reading, reading, zero_note, Reads}
use Rattle.c_api.specs.Words.{words_of, word_room, answer_of, ReadsWords}
use Rattle.c_api.proofs.Noting.{length-words, words-behind}
use Rattle.c_api.specs.Answers.{text_answer_of, first_answer_of, AsksText}
use Rattle.c_api.specs.declared.AxmlAnswer.{AxmlAnswer}
use Rattle.c_api.specs.declared.AxmlTextAnswer.{AxmlTextAnswer}
use Rattle.c_api.specs.declared.AxmlFirstAnswer.{AxmlFirstAnswer}
use Rattle.claims.specs.Insertion.{ForeignChunk, places_in, inserted_file, place_notes, with_notes}
use Rattle.claims.specs.Room.{is_full_number, HasRoom}
use Rattle.claims.specs.InC.{LeftInC, left_in_c, with_notes_in_c, RefusedInC, DoneInC, TextRefusedInC, TextDoneInC, FirstRefusedInC}
use Rattle.claims.proofs.Insertion.ForeignChunks.{place_notes-room}
use Rattle.claims.proofs.Calls.Readings.{reading-left}
use Rattle.claims.proofs.Insertion.Theorem as proved
use Rattle.claims.proofs.Calls.Zeros as zeros
use Rattle.errors.specs.declared.FirstValue.{FirstValue}
use Rattle.errors.specs.declared.TextWritten.{TextWritten}

-- ---- words of notes

words-drop : (os : List Note) (t : List ℕ) (k : ℕ) → k ≤ length os → drop (note_width * k) (words_of os ++ t) ≡ words_of (drop k os) ++ t
unfolding words_of
words-drop os t zero h = refl
words-drop [] t (suc k) h = absurd (let z : ⊥ = omega arith in z)
words-drop (o ∷ os) t (suc k) h =
    let e : note_width * suc k ≡ suc (suc (suc (note_width * k))) = omega arith in
    ap (λ (m : ℕ). drop m (words_of (o ∷ os) ++ t)) e ∙ words-drop os t k (omega arith)

-- notes of zeros, and zeros behind them
zeros-behind : (os : List Note) (m n k : ℕ) → note_width * m + n ≡ k → words_of (os ++ replicate m zero_note) ++ replicate n 0 ≡ words_of os ++ replicate k 0
zeros-behind os m n k e = sym (words-behind os m n) ∙ ap (λ (j : ℕ). words_of os ++ replicate j 0) e

-- ---- an answer by its numbers

some_number : (x : Refusal) → ◌≡◌ {A = ℕ} (refusal_number x) 0 → ⊥
some_number x e = true≢false (sym (eq-eqb (refusal_number x) 0 e) ∙ refusal_number-some x)

pub done-of : (a : Result ReadCounts Refusal) → ◌≡◌ {A = ℕ} (numbers_of a).refusal 0 → (c : ReadCounts) × (a ≡ Ok c)
unfolding numbers_of
done-of (Ok c) e = (c, refl)
done-of (Err x) e = absurd (some_number x e)

room_of : (a : Result ReadCounts Refusal) → is_full_number (numbers_of a).refusal ≡ false → HasRoom a
unfolding numbers_of
room_of (Ok c) h = tt
room_of (Err x) h = h

room_in : (a : Result ReadCounts Refusal) → HasRoom a → is_full_number (numbers_of a).refusal ≡ false
unfolding numbers_of
room_in (Ok c) h = refl
room_in (Err x) h = h

-- ---- a call of `axml_read` as one of `read`

module _ (f : List ℕ) (lent : Lent) (ns ats ws : List ℕ) (cap mode : ℕ) where
  abbrev pub room : Room
  room = word_room ns ats ws cap mode

  abbrev pub places : List Note
  places = replicate (length ws / note_width) zero_note

  pub as-reads : (a : Result ReadCounts Refusal) → (reading room f lent).answer ≡ a
      → Reads f lent ns ats places cap mode a (reading room f lent).nodes (reading room f lent).attributes (reading room f lent).notes
  as-reads a e = reading-left f lent ns ats (length ws / note_width) cap mode (reading room f lent) refl a e

  pub many : length places ≡ length ws / note_width
  many = length-replicate (length ws / note_width) zero_note

  module _ (a : AxmlAnswer) (ns' ats' ws' : List ℕ) (h : ReadsWords f lent ns ats ws cap mode a ns' ats' ws') where
    pub refused-zeros : (a.refusal ≡ 0 → ⊥) → RefusedInC a ns ats ws ns' ats' ws'
    unfolding numbers_of words_of
    refused-zeros some = go (reading room f lent).answer refl
      where
        go : (b : Result ReadCounts Refusal) → (reading room f lent).answer ≡ b → RefusedInC a ns ats ws ns' ats' ws'
        go (Ok c) e = absurd (some (ap (λ (x : AxmlAnswer). x.refusal) (h.answer ∙ ap (λ (b : Result ReadCounts Refusal). answer_of (numbers_of b)) e)))
        go (Err x) e =
            let z = zeros.refused-zeros f lent ns ats places cap mode x _ _ _ (as-reads (Err x) e) in
            let q = h.answer ∙ ap (λ (b : Result ReadCounts Refusal). answer_of (numbers_of b)) e in
            record {
              starts = ap (λ (x : AxmlAnswer). x.starts) q;
              nodes = ap (λ (x : AxmlAnswer). x.nodes) q;
              attributes = ap (λ (x : AxmlAnswer). x.attributes) q;
              notes = ap (λ (x : AxmlAnswer). x.notes) q;
              node_words = h.nodes ∙ z.node_words;
              attribute_words = h.attributes ∙ z.attribute_words;
              note_words = h.notes ∙ ap (λ (o : List Note). words_of o ++ replicate (length ws % note_width) 0) z.note_records
                  ∙ zeros-behind [] (length places) (length ws % note_width) (length ws) (omega (arith, many));
            }

    pub done-zeros : a.refusal ≡ 0 → DoneInC a ns ats ws ns' ats' ws'
    unfolding numbers_of words_of
    done-zeros none =
        let d = done-of (reading room f lent).answer (sym (ap (λ (x : AxmlAnswer). x.refusal) h.answer) ∙ none) in
        let c = d.0 in
        let q = h.answer ∙ ap (λ (b : Result ReadCounts Refusal). answer_of (numbers_of b)) d.1 in
        let z = zeros.done-zeros f lent ns ats places cap mode c _ _ _ (as-reads (Ok c) d.1) in
        let os = (reading room f lent).notes in
        let k : a.notes ≡ c.notes = ap (λ (x : AxmlAnswer). x.notes) q in
        let t : List ℕ = replicate (length ws % note_width) 0 in
        record {
          value = ap (λ (x : AxmlAnswer). x.value) q;
          node_words = rw (h.nodes, ap (λ (x : AxmlAnswer). x.nodes) q) z.node_words;
          attribute_words = rw (h.attributes, ap (λ (x : AxmlAnswer). x.attributes) q) z.attribute_words;
          note_words = record {
            long = ap length h.notes ∙ length-append (words_of os) t
                ∙ omega (arith, length-words os, z.note_records.long, many, length-replicate {A = ℕ} (length ws % note_width) 0);
            there = omega (arith, k, z.note_records.there, many);
            zeros = ap (drop (note_width * a.notes)) h.notes ∙ ap (λ (n : ℕ). drop (note_width * n) (words_of os ++ t)) k
                ∙ words-drop os t c.notes (omega (arith, z.note_records.there, z.note_records.long))
                ∙ ap (λ (o : List Note). words_of o ++ t) z.note_records.zeros
                ∙ zeros-behind [] (length places - c.notes) (length ws % note_width) (length ws - note_width * a.notes)
                (omega (arith, k, many, z.note_records.there));
          };
        }

-- ---- insertion

module _ (f : List ℕ) (lent : Lent) (ns ats ws : List ℕ) (cap mode : ℕ) (a : AxmlAnswer) (ns₁ ats₁ ws₁ : List ℕ)
    (first : ReadsWords f lent ns ats ws cap mode a ns₁ ats₁ ws₁) (done : a.refusal ≡ 0) (none : a.notes ≡ 0) where
  abbrev shorter : Reading
  shorter = reading (word_room ns ats ws cap mode) f lent

  counted : (c : ReadCounts) × (shorter.answer ≡ Ok c)
  counted = done-of shorter.answer (sym (ap (λ (x : AxmlAnswer). x.refusal) first.answer) ∙ done)

  abbrev c : ReadCounts
  c = counted.0

  told : a ≡ answer_of (numbers_of (Ok c))
  told = first.answer ∙ ap (λ (b : Result ReadCounts Refusal). answer_of (numbers_of b)) counted.1

  no-notes : c.notes ≡ 0
  unfolding numbers_of
  no-notes = sym (ap (λ (x : AxmlAnswer). x.notes) told) ∙ none

  module _ (places : List (List ForeignChunk)) (few : length places ≤ places_in f) (limit : length (inserted_file places f) ≤ file_limit)
      (ns' ats' ws' : List ℕ) (cap' : ℕ) (one : 1 ≤ cap') (a' : AxmlAnswer) (ns₂ ats₂ ws₂ : List ℕ)
      (second : ReadsWords (inserted_file places f) lent ns' ats' ws' cap' mode a' ns₂ ats₂ ws₂) where
    abbrev longer : Reading
    longer = reading (word_room ns' ats' ws' cap' mode) (inserted_file places f) lent

    abbrev ks : List ResAnomaly
    ks = kept_notes cap' (place_notes places)

    has : is_full_number a'.refusal ≡ false → HasRoom longer.answer
    has h = room_of longer.answer (sym (ap (λ (x : AxmlAnswer). is_full_number x.refusal) second.answer) ∙ h)

    is : is_full_number a'.refusal ≡ false → longer ≡ with_notes (word_room ns' ats' ws' cap' mode) shorter c ks
    is h = proved.insertion (word_room ns ats ws cap mode) f lent c counted.1 no-notes places few limit (word_room ns' ats' ws' cap' mode) one refl (has h)

    pub insertion : is_full_number a'.refusal ≡ false
        → left_in_c a' ns₂ ats₂ ws₂ ≡ with_notes_in_c (length ns') (length ats') (length ws') (left_in_c a ns₁ ats₁ ws₁) ks
    unfolding numbers_of
    insertion h =
        let e = is h in
        let done' = ap (λ (x : Reading). x.answer) e in
        let z = zeros.done-zeros (inserted_file places f) lent ns' ats' _ cap' mode _ _ _ _ (as-reads (inserted_file places f) lent ns' ats' ws' cap' mode _ done') in
        let fits : length ks ≤ length ws' / note_width =
        omega (arith, z.note_records.there, many (inserted_file places f) lent ns' ats' ws' cap' mode) in
        let q : a' ≡ _ = second.answer ∙ ap (λ (b : Result ReadCounts Refusal). answer_of (numbers_of b)) done' in
        let n : ns₂ ≡ _ = second.nodes ∙ ap (λ (x : Reading). x.nodes) e in
        let m : ats₂ ≡ _ = second.attributes ∙ ap (λ (x : Reading). x.attributes) e in
        let o : ws₂ ≡ _ = second.notes ∙ ap (λ (x : Reading). words_of x.notes ++ replicate (length ws' % note_width) 0) e
        ∙ zeros-behind (map note_of ks) (length ws' / note_width - length ks) (length ws' % note_width) (length ws' - note_width * length ks)
        (omega (arith, fits)) in
        let left : left_in_c a' ns₂ ats₂ ws₂ ≡ with (answer_of (numbers_of (Ok c))) shorter.nodes shorter.attributes = rw (q, n, m, o) in
        left ∙ ap (λ (x : AxmlAnswer). with x shorter.nodes shorter.attributes) (sym told)
        ∙ ap (λ (l : List ℕ). with a l shorter.attributes) (sym first.nodes) ∙ ap (λ (l : List ℕ). with a ns₁ l) (sym first.attributes)
      where
        with : AxmlAnswer → List ℕ → List ℕ → LeftInC
        with x n m = with_notes_in_c (length ns') (length ats') (length ws') (left_in_c x n m ws₁) ks

    pub insertion-same : length ns' ≡ length ns → length ats' ≡ length ats → is_full_number a'.refusal ≡ false → (ns₂ ≡ ns₁) × (ats₂ ≡ ats₁)
    insertion-same n m h =
        let e = proved.insertion-same (word_room ns ats ws cap mode) f lent c counted.1 no-notes places few limit (word_room ns' ats' ws' cap' mode) one refl n m
        (has h) in
        (second.nodes ∙ e.0 ∙ sym first.nodes, second.attributes ∙ e.1 ∙ sym first.attributes)

    pub insertion-room : node_width * a.nodes ≤ length ns' → attribute_width * a.attributes ≤ length ats' → note_width * (2 * cap') ≤ length ws'
        → is_full_number a'.refusal ≡ false
    unfolding numbers_of
    insertion-room n m k =
        let rn : node_width * c.nodes ≤ length ns' = rw (ap (λ (x : AxmlAnswer). x.nodes) told) at n in
        let rm : attribute_width * c.attributes ≤ length ats' = rw (ap (λ (x : AxmlAnswer). x.attributes) told) at m in
        let h = proved.insertion-room (word_room ns ats ws cap mode) f lent c counted.1 no-notes places few limit (word_room ns' ats' ws' cap' mode) one refl rn rm
        (omega (arith, place_notes-room cap' places, k)) in
        ap (λ (x : AxmlAnswer). is_full_number x.refusal) second.answer ∙ room_in longer.answer h

-- ---- the questions

module _ (f : List ℕ) (lent : Lent) (before : List ℕ) (i : ℕ) (a : AxmlTextAnswer) (after : List ℕ) (h : AsksText f lent before i a after) where
  as-text : (b : Result TextWritten Refusal) → text_answer f lent (length before) i ≡ b → TextReads f lent before i b after
  as-text b e = record { answer = ap text_numbers_of (sym e); out = h.out }

  pub text-refused-zeros : (a.refusal ≡ 0 → ⊥) → TextRefusedInC a before after
  unfolding text_numbers_of
  text-refused-zeros some = go (text_answer f lent (length before) i) refl
    where
      go : (b : Result TextWritten Refusal) → text_answer f lent (length before) i ≡ b → TextRefusedInC a before after
      go (Ok w) e = absurd (some (ap (λ (x : AxmlTextAnswer). x.refusal) (h.answer ∙ ap (λ (b : Result TextWritten Refusal). text_answer_of (text_numbers_of b)) e)))
      go (Err x) e =
          let q = h.answer ∙ ap (λ (b : Result TextWritten Refusal). text_answer_of (text_numbers_of b)) e in
          record {
            long = ap (λ (x : AxmlTextAnswer). x.length) q;
            state = ap (λ (x : AxmlTextAnswer). x.state) q;
            replaced = ap (λ (x : AxmlTextAnswer). x.replaced) q;
            buffer = (zeros.text-refused-zeros f lent before i x after (as-text (Err x) e)).buffer;
          }

  pub text-done-zeros : a.refusal ≡ 0 → TextDoneInC a before after
  unfolding text_numbers_of
  text-done-zeros none = go (text_answer f lent (length before) i) refl
    where
      go : (b : Result TextWritten Refusal) → text_answer f lent (length before) i ≡ b → TextDoneInC a before after
      go (Err x) e =
          absurd (some_number x (sym (ap (λ (x : AxmlTextAnswer). x.refusal) (h.answer ∙ ap (λ (b : Result TextWritten Refusal). text_answer_of (text_numbers_of b)) e)) ∙ none))
      go (Ok w) e =
          let q = h.answer ∙ ap (λ (b : Result TextWritten Refusal). text_answer_of (text_numbers_of b)) e in
          record {
            value = ap (λ (x : AxmlTextAnswer). x.value) q;
            buffer = rw (ap (λ (x : AxmlTextAnswer). x.length) q) (zeros.text-done-zeros f lent before i w.length w.state after (as-text (Ok (record { length = w.length; state = w.state })) e)).buffer;
          }

pub first-refused-zeros : (b : Result FirstValue Refusal) (a : AxmlFirstAnswer) → a ≡ first_answer_of (first_numbers_of b) → (a.refusal ≡ 0 → ⊥) → FirstRefusedInC a
unfolding first_numbers_of
first-refused-zeros (Ok w) a e some = absurd (some (ap (λ (x : AxmlFirstAnswer). x.refusal) e))
first-refused-zeros (Err x) a e some = record {
  kind = ap (λ (x : AxmlFirstAnswer). x.kind) e;
  value = ap (λ (x : AxmlFirstAnswer). x.«data») e;
  reference = ap (λ (x : AxmlFirstAnswer). x.reference) e;
}
