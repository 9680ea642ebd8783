-- What a refusal leaves, and what stands behind a success: docs/FORMAT.md, B7, B8. Of every result that a promise allows, for every input.
--
--   refused-zeros        a refused reading has 0 in every number but refusal and value, and zeros in all three tables, over their whole length
--   done-zeros           behind the records of a successful one, to the end of each table, stand zeros
--   text-refused-zeros   a refused text question: the length is 0, and the whole buffer holds zeros
--   text-done-zeros      behind the text of an answered one, to the buffer's end, stand zeros
--   first-refused-zeros  a refused first-value question: type, data and reference are 0
use Rattle.std.specs.Prelude.{Result, Ok, Err}
use Prim.Native.Nat.{ℕ, ◌-◌, ◌*◌, ◌≤◌}
use native.Mathlib.Omega.{arith}
use mathlib.Core.Path.{◌≡◌, refl, sym, ◌∙◌, ap}
use mathlib.Core.List.{List, ◌++◌}
use mathlib.Core.Bool.{Bool, true, false, cond}
use borrow.Author.Tests.{leb-true}
use lib.ListN.{length, take, replicate, length-append, length-replicate}
use lib.Seq.{length-take-le, drop_at}
use lib.Dec.{leb}
use Rattle.anomaly.specs.declared.Note.{Note}
use Rattle.errors.specs.Refusal.{numbers_of, text_numbers_of, first_numbers_of}
use Rattle.errors.specs.declared.Refusal.{Refusal}
use Rattle.errors.specs.declared.Refusal.TheVariants.{TextShort}
use Rattle.errors.specs.declared.ReadCounts.{ReadCounts}
use Rattle.errors.specs.declared.TextState.{TextState}
use Rattle.errors.specs.declared.TextWritten.{TextWritten}
use Rattle.errors.proofs.Laws.{numbers_of-unique, text_numbers_of-unique}
use Rattle.head.specs.Head.{opened_of}
use Rattle.head.specs.Entry.{reading_at, Check, passes, fails, first_of, entry_checks}
use Rattle.head.specs.Ask.{open_of, content_asked, state_told}
use Rattle.head.specs.Ask.{text_answer_by, text_answer, text_buffer, TextReads}
use Rattle.text.specs.Content.{Content, none, cut, some, text_in, damage_in}
use Rattle.records.specs.Words.{node_width, attribute_width}
use Rattle.system_types.specs.Names.{Lent}
use Rattle.walk.specs.Settle.{Room, Out, going, refused}
use Rattle.walk.specs.Reading.{Reading, zero_note, reading, reading_by, settled_in, room_in, nodes_kept, attributes_kept, Reads}
use Rattle.claims.specs.Cleared.{ZeroBehind, RefusedZero, DoneZero, TextRefusedZero, TextDoneZero}
use Rattle.claims.proofs.Structure.Done.{done-by, done-shaped}
use Rattle.claims.proofs.Structure.Tables.{kept_in}
use Rattle.text.specs.declared.Head.{Head}

-- ---- a list, and zeros behind it

pub behind : {A : Type 0} (z : A) (k n : ℕ) (x l l' : List A) → length x ≡ k → n ≡ length l → k ≤ n → l' ≡ x ++ replicate (n - k) z → ZeroBehind z k l l'
behind z k n x l l' e m h q = record {
  long = rw q (length-append x (replicate (n - k) z) ∙ rw (length-replicate (n - k) z, e) (omega arith));
  there = omega arith;
  zeros = rw (q, ← m) (drop_at x (replicate (n - k) z) k e);
}

-- ---- a reading

-- the three tables of a reading whose answer is a refusal
final-zeros : (r : Room) (o : Out) (c : Check) (x : Refusal) → Err x ≡ (reading_by r o c).answer
    → ((reading_by r o c).nodes ≡ replicate r.nodes 0) × ((reading_by r o c).attributes ≡ replicate r.attributes 0)
    × ((reading_by r o c).notes ≡ replicate r.notes zero_note)
final-zeros r (going t) passes x e = let z : ◌≡◌ {A = ℕ} 0 1 = cc in absurd (let y : ⊥ = omega arith in y)
final-zeros r (refused y) passes x e = (refl, refl, refl)
final-zeros r o (fails y) x e = (refl, refl, refl)

module _ (f : List ℕ) (lent : Lent) (ns ats : List ℕ) (os : List Note) (cap mode : ℕ) where
  pub refused-zeros : (x : Refusal) (ns' ats' : List ℕ) (os' : List Note) → Reads f lent ns ats os cap mode (Err x) ns' ats' os'
      → RefusedZero (numbers_of (Err x)) ns ats os ns' ats' os'
  unfolding reading numbers_of
  refused-zeros x ns' ats' os' h =
      let r = room_in ns ats os cap mode in
      let c = first_of (entry_checks f lent (reading_at cap mode)) in
      let o = settled_in r f lent (opened_of f) in
      let z = final-zeros r o c x (numbers_of-unique _ _ h.answer) in
      record {
        starts = refl;
        nodes = refl;
        attributes = refl;
        notes = refl;
        node_words = h.nodes ∙ z.0;
        attribute_words = h.attributes ∙ z.1;
        note_records = h.notes ∙ z.2;
      }

  pub done-zeros : (c : ReadCounts) (ns' ats' : List ℕ) (os' : List Note) → Reads f lent ns ats os cap mode (Ok c) ns' ats' os'
      → DoneZero (numbers_of (Ok c)) ns ats os ns' ats' os'
  unfolding numbers_of
  done-zeros c ns' ats' os' h =
      let d = done-by f lent ns ats os cap mode c ns' ats' os' h in
      let t = d.tables in
      let s = done-shaped f lent ns ats os cap mode t d.out in
      let k = kept_in (room_in ns ats os cap mode) t s in
      let wn : nodes_kept t ≤ s.n = k.nodes in
      let wm : attributes_kept t ≤ s.m = k.attributes in
      record {
        refusal = refl;
        value = refl;
        node_words = rw d.nodes
            (behind 0 (node_width * nodes_kept t) (length ns) (take (node_width * nodes_kept t) t.nodes) ns ns'
            (length-take-le (node_width * nodes_kept t) t.nodes (omega (arith, s.nodes))) refl (omega (arith, s.nodes_fit))
            (h.nodes ∙ ap (λ (x : Reading). x.nodes) d.whole));
        attribute_words = rw d.attributes
            (behind 0 (attribute_width * attributes_kept t) (length ats) (take (attribute_width * attributes_kept t) t.attributes) ats ats'
            (length-take-le (attribute_width * attributes_kept t) t.attributes (omega (arith, s.attributes))) refl (omega (arith, s.attributes_fit))
            (h.attributes ∙ ap (λ (x : Reading). x.attributes) d.whole));
        note_records = rw d.notes
            (behind zero_note (length t.notes) (length os) t.notes os os' refl refl s.notes_fit
            (h.notes ∙ ap (λ (x : Reading). x.notes) d.whole));
      }

-- ---- the text question

module _ (f : List ℕ) (lent : Lent) (before : List ℕ) (i : ℕ) where
  pub text-refused-zeros : (x : Refusal) (after : List ℕ) → TextReads f lent before i (Err x) after
      → TextRefusedZero (text_numbers_of (Err x)) before after
  unfolding text_numbers_of text_buffer
  text-refused-zeros x after h =
      let e : Err x ≡ text_answer f lent (length before) i = text_numbers_of-unique _ _ h.answer in
      record { length = refl; state = refl; replaced = refl; buffer = h.out ∙ rw (← e) }

  -- a text that is answered is as long as the answer says, and fits
  fits_by : (n k : ℕ) (s t : TextState) (text : List ℕ) (b : Bool) → leb (length text) n ≡ b
      → ◌≡◌ {A = Result TextWritten Refusal} (Ok (record { length = k; state = s }))
      (cond b (Ok (record { length = length text; state = t })) (Err (TextShort (length text)))) → (k ≡ length text) × (k ≤ n)
  fits_by n k s t text true e q =
      let told : ◌≡◌ {A = TextWritten} (record { length = k; state = s }) (record { length = length text; state = t }) = cc in
      let w : k ≡ length text = ap (λ (x : TextWritten). x.length) told in
      (w, omega (arith, leb-true (length text) n e))
  fits_by n k s t text false e q = let z : ◌≡◌ {A = ℕ} 0 1 = cc in absurd (let y : ⊥ = omega arith in y)

  answer-fits : (n k : ℕ) (s : TextState) (c : Content) (o : Result Head Refusal)
      → ◌≡◌ {A = Result TextWritten Refusal} (Ok (record { length = k; state = s })) (text_answer_by n c o) → (k ≡ length (text_in c)) × (k ≤ n)
  answer-fits n k s c (Err r) q = let z : ◌≡◌ {A = ℕ} 0 1 = cc in absurd (let y : ⊥ = omega arith in y)
  answer-fits n k s none (Ok h) q = let z : ◌≡◌ {A = ℕ} 0 1 = cc in absurd (let y : ⊥ = omega arith in y)
  answer-fits n k s cut (Ok h) q = fits_by n k s (state_told (damage_in cut)) (text_in cut) (leb (length (text_in cut)) n) refl q
  answer-fits n k s (some w l) (Ok h) q =
      fits_by n k s (state_told (damage_in (some w l))) (text_in (some w l)) (leb (length (text_in (some w l))) n) refl q

  pub text-done-zeros : (k : ℕ) (s : TextState) (after : List ℕ) → TextReads f lent before i (Ok (record { length = k; state = s })) after
      → TextDoneZero (text_numbers_of (Ok (record { length = k; state = s }))) before after
  unfolding text_numbers_of text_buffer text_answer
  text-done-zeros k s after h =
      let c = content_asked f lent i in
      let e : Ok (record { length = k; state = s }) ≡ text_answer f lent (length before) i = text_numbers_of-unique _ _ h.answer in
      let q = answer-fits (length before) k s c (open_of f lent) e in
      record {
        refusal = refl;
        value = refl;
        buffer = behind 0 k (length before) (text_in c) before after (sym q.0) refl q.1 (h.out ∙ rw (← e));
      }

-- ---- the first value, which has no lent output

pub first-refused-zeros : (x : Refusal) → (◌≡◌ {A = ℕ} (first_numbers_of (Err x)).kind 0)
    × (◌≡◌ {A = ℕ} (first_numbers_of (Err x)).«data» 0) × (◌≡◌ {A = ℕ} (first_numbers_of (Err x)).reference 0)
unfolding first_numbers_of
first-refused-zeros x = (refl, refl, refl)
