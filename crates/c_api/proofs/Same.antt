-- `axml_read` gives the reading of `axml::read`, its notes as words (`same-reading`), and `axml_text` the text question of `head::text` (`asks-of-reads`).
-- No contract cites this file.
use Rattle.std.specs.Prelude.{Result}
use Prim.Native.Nat.{ℕ, ◌/◌, ◌%◌}
use mathlib.Core.Path.{◌≡◌, sym, ◌∙◌, ap}
use mathlib.Core.List.{List, ◌++◌}
use lib.ListN.{length, replicate}
use Rattle.anomaly.specs.declared.Note.{Note}
use Rattle.errors.specs.declared.TextNumbers.{TextNumbers}
use Rattle.errors.specs.Refusal.{numbers_of, text_numbers_of}
use Rattle.head.specs.Ask.{TextReads}
use Rattle.records.specs.Words.{note_width}
use Rattle.system_types.specs.Names.{Lent}
use Rattle.walk.specs.Settle.{Room}
use Rattle.walk.specs.Reading.{Reading, Reads, reading, room_in}
use Rattle.c_api.specs.declared.AxmlAnswer.{AxmlAnswer}
use Rattle.c_api.specs.declared.AxmlTextAnswer.{AxmlTextAnswer}
use Rattle.c_api.specs.Answers.{text_answer_of, AsksText}
use Rattle.c_api.specs.Words.{words_of, word_room, answer_of, ReadsWords}
use Rattle.errors.specs.declared.ReadCounts.{ReadCounts}
use Rattle.errors.specs.declared.Refusal.{Refusal}
use Rattle.errors.specs.declared.TextWritten.{TextWritten}

-- the answer r and the tables of the one call are the answer a and the tables of the other
pub record OneReading (a : Result ReadCounts Refusal) (ns₁ ats₁ : List ℕ) (os₁ : List Note) (ws : List ℕ) (r : AxmlAnswer) (ns₂ ats₂ ws₂ : List ℕ) : Type 0 where
  pub answer : r ≡ answer_of (numbers_of a)
  pub nodes : ns₂ ≡ ns₁
  pub attributes : ats₂ ≡ ats₁
  pub notes : ws₂ ≡ words_of os₁ ++ replicate (length ws % note_width) 0

-- with as many places as the words have whole threes
pub same-reading : (f : List ℕ) (lent : Lent) (ns ats : List ℕ) (os : List Note) (ws : List ℕ) (cap mode : ℕ) → length os ≡ length ws / note_width
    → (a : Result ReadCounts Refusal) (ns₁ ats₁ : List ℕ) (os₁ : List Note) → Reads f lent ns ats os cap mode a ns₁ ats₁ os₁
    → (r : AxmlAnswer) (ns₂ ats₂ ws₂ : List ℕ) → ReadsWords f lent ns ats ws cap mode r ns₂ ats₂ ws₂
    → OneReading a ns₁ ats₁ os₁ ws r ns₂ ats₂ ws₂
same-reading f lent ns ats os ws cap mode places a ns₁ ats₁ os₁ h r ns₂ ats₂ ws₂ k =
    let room : room_in ns ats os cap mode ≡ word_room ns ats ws cap mode = rw places in
    let e : reading (word_room ns ats ws cap mode) f lent ≡ reading (room_in ns ats os cap mode) f lent =
    ap (λ (x : Room). reading x f lent) (sym room) in
    record {
      answer = k.answer ∙ ap (λ (x : Reading). answer_of (numbers_of x.answer)) e ∙ ap answer_of (sym h.answer);
      nodes = k.nodes ∙ ap (λ (x : Reading). x.nodes) e ∙ sym h.nodes;
      attributes = k.attributes ∙ ap (λ (x : Reading). x.attributes) e ∙ sym h.attributes;
      notes = k.notes
          ∙ ap (λ (x : Reading). words_of x.notes ++ replicate (length ws % note_width) 0) e
          ∙ ap (λ (o : List Note). words_of o ++ replicate (length ws % note_width) 0) (sym h.notes);
    }

pub asks-of-reads : (f : List ℕ) (lent : Lent) (before : List ℕ) (i : ℕ) (a : Result TextWritten Refusal) (after : List ℕ) → TextReads f lent before i a after
    → (m : TextNumbers) → m ≡ text_numbers_of a → (r : AxmlTextAnswer) → r ≡ text_answer_of m → AsksText f lent before i r after
asks-of-reads f lent before i a after h m em r er = record { answer = er ∙ ap text_answer_of (em ∙ h.answer); out = h.out }
