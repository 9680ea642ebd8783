-- What holds at the head of `read_words`'s loop, and how a turn goes on. No contract cites this file.
--
--   Point         the words are those of some notes, and the outcome from here, with these notes, is the promise
--   point-first   the point before the first turn; the words as they were lent are taken for notes
--   point-fits    the three words that a turn writes lie in the table
--   point-next    the point after a turn that wrote a note; `point-less`: fewer steps are left there
--   point-slot    its place is one of the table's
--   point-cleared, point-last   the two ways out: the answer is known and zeros are written from the next place on; all places are written
--   reads-by      the answer of `read_words` in numbers is that of `axml_read`
use Rattle.std.specs.Prelude.{Result}
use Prim.Native.Nat.{ℕ, ◌+◌, ◌-◌, ◌*◌, ◌/◌, ◌%◌, ◌≤◌, ◌<◌}
use native.Mathlib.Omega.{arith}
use native.Mathlib.Nat.{div-add-mod}
use mathlib.Core.Path.{◌≡◌, refl, sym, ◌∙◌, ap}
use mathlib.Core.Bool.{true, false}
use mathlib.Core.List.{List, ◌++◌, append-nil}
use lib.ListN.{length, take, set, replicate, length-set}
use lib.Seq.{take-length}
use Rattle.anomaly.specs.declared.Note.{Note}
use Rattle.errors.specs.declared.Numbers.{Numbers}
use Rattle.errors.specs.Refusal.{numbers_of}
use Rattle.records.specs.Words.{note_width}
use Rattle.system_types.specs.Names.{Lent}
use Rattle.walk.specs.declared.Stage.{Stage}
use Rattle.walk.specs.declared.Stage.TheVariants.{Fresh, Reading as InBody, Clearing}
use Rattle.walk.specs.declared.State.{State}
use Rattle.walk.specs.Reading.{Reading, reading}
use Rattle.walk.specs.Inner.Outcome.{AdvanceKeeps, Advanced, Answers, StateOk, first, steps_left, cleared, outcome}
use Rattle.walk.proofs.Clearing.{false-true}
use Rattle.walk.proofs.Opening.{first_good}
use Rattle.c_api.specs.declared.AxmlAnswer.{AxmlAnswer}
use Rattle.c_api.specs.Words.{words_of, word_room, put_note, is_clearing, answer_of, ReadsWords}
use Rattle.c_api.proofs.Noting.{length-of, notes_of_words, rest_in, words_back, notes_of_words-places, words-put, words-cleared}
use Rattle.errors.specs.declared.ReadCounts.{ReadCounts}
use Rattle.errors.specs.declared.Refusal.{Refusal}

-- a stage that clears has an answer
record Known (m : Stage) : Type 0 where
  answer : Result ReadCounts Refusal
  stage : m ≡ Clearing answer

clearing-of : (m : Stage) → is_clearing m ≡ true → Known m
clearing-of Fresh e = absurd (false-true e)
clearing-of InBody e = absurd (false-true e)
clearing-of (Clearing a) e = record { answer = a; stage = refl }

module _ (f : List ℕ) (lent : Lent) (ns₀ ats₀ ws₀ : List ℕ) (cap mode : ℕ) where
  pub record Point (ns ats ws : List ℕ) (st : State) : Type 0 where
    pub notes : List Note
    pub tail : List ℕ
    pub words : ws ≡ words_of notes ++ tail
    pub places : length notes ≡ length ws₀ / note_width
    pub room : st.room ≡ length ws₀ / note_width
    pub long-nodes : length ns ≡ length ns₀
    pub long-attributes : length ats ≡ length ats₀
    pub long-words : length ws ≡ length ws₀
    pub good : StateOk f lent ns ats st
    pub same : outcome f lent ns ats notes st good.stack ≡ reading (word_room ns₀ ats₀ ws₀ cap mode) f lent

  pub point-first : (st : State) → st ≡ first (length ws₀ / note_width) cap mode → Point ns₀ ats₀ ws₀ st
  point-first st e =
      rw e
      (record {
        notes = notes_of_words ws₀;
        tail = rest_in ws₀;
        words = words_back ws₀;
        places = notes_of_words-places ws₀;
        room = refl;
        long-nodes = refl;
        long-attributes = refl;
        long-words = refl;
        good = first_good f lent ns₀ ats₀ (length ws₀ / note_width) cap mode;
        same = refl;
      })

  -- ---- where a turn leaves the loop

  abbrev gives : Result ReadCounts Refusal → List ℕ → List ℕ → List Note → Reading
  gives a ns ats os = record { answer = a; nodes = ns; attributes = ats; notes = os }

  reads_of : (x : Reading) → x ≡ reading (word_room ns₀ ats₀ ws₀ cap mode) f lent → (ws' : List ℕ)
      → ws' ≡ words_of x.notes ++ replicate (length ws₀ % note_width) 0
      → ReadsWords f lent ns₀ ats₀ ws₀ cap mode (answer_of (numbers_of x.answer)) x.nodes x.attributes ws'
  reads_of x e ws' w = record {
    answer = ap (λ (y : Reading). answer_of (numbers_of y.answer)) e;
    nodes = ap (λ (y : Reading). y.nodes) e;
    attributes = ap (λ (y : Reading). y.attributes) e;
    notes = w ∙ ap (λ (y : Reading). words_of y.notes ++ replicate (length ws₀ % note_width) 0) e;
  }

  odd : (ns ats ws : List ℕ) (st : State) (p : Point ns ats ws st) → length p.tail ≡ length ws₀ % note_width
  odd ns ats ws st p = omega (arith, length-of p.notes p.tail ws p.words, p.places, p.long-words, div-add-mod (length ws₀) note_width)

  -- the answer is known, the note is written, and zeros are from the next place on
  pub point-cleared : (ns ats ws : List ℕ) (st : State) → Point ns ats ws st → is_clearing st.stage ≡ true → st.slot < st.room
      → (ws' : List ℕ) → ws' ≡ take (note_width * st.slot + note_width) ws ++ replicate (length ws - (note_width * st.slot + note_width)) 0
      → (a : Result ReadCounts Refusal) → Answers st a → ReadsWords f lent ns₀ ats₀ ws₀ cap mode (answer_of (numbers_of a)) ns ats ws'
  point-cleared ns ats ws st p m h ws' z a is =
      let known = clearing-of st.stage m in
      let all : length p.notes ≡ st.room = p.places ∙ sym p.room in
      let here : outcome f lent ns ats p.notes st p.good.stack ≡ gives a ns ats (cleared p.notes (st.slot + 1) st.room) =
      rw (known.stage, is known.answer known.stage) in
      let next : note_width * st.slot + note_width ≡ note_width * (st.slot + 1) = omega arith in
      reads_of (gives a ns ats (cleared p.notes (st.slot + 1) st.room)) (sym here ∙ p.same) ws'
      (z ∙ words-cleared p.notes p.tail ws (st.slot + 1) _ (omega (arith, h, all)) next p.words
      ∙ ap (λ (n : ℕ). words_of (cleared p.notes (st.slot + 1) n) ++ replicate (length p.tail) 0) all
      ∙ ap (λ (n : ℕ). words_of (cleared p.notes (st.slot + 1) st.room) ++ replicate n 0) (odd ns ats ws st p))

  -- ---- a turn

  module _ (ns ats ws : List ℕ) (st : State) (p : Point ns ats ws st) (r : State) (ns' ats' : List ℕ) (e : AdvanceKeeps f lent ns ats st r ns' ats') where
    advanced : Advanced f lent ns ats st p.good r ns' ats'
    advanced = e p.good

    all-places : length p.notes ≡ st.room
    all-places = p.places ∙ sym p.room

    slot_lt : r.done ≡ false → r.slot < length p.notes
    slot_lt d = omega (arith, (advanced.due d).0, advanced.room, all-places)

    pub point-fits : r.done ≡ false → note_width * r.slot + note_width ≤ length ws
    point-fits d = omega (arith, slot_lt d, length-of p.notes p.tail ws p.words)

    pub point-slot : r.done ≡ false → r.slot < r.room
    point-slot d = (advanced.due d).0

    pub point-less : r.done ≡ false → steps_left f lent r < steps_left f lent st
    point-less d = (advanced.due d).1

    pub point-next : r.done ≡ false → length ns' ≡ length ns → length ats' ≡ length ats → (ws' : List ℕ) → ws' ≡ put_note ws r.slot r.note
        → length ws' ≡ length ws → Point ns' ats' ws' r
    point-next d ln la ws' w lw = record {
      notes = set p.notes r.slot r.note;
      tail = p.tail;
      words = w ∙ ap (λ (l : List ℕ). put_note l r.slot r.note) p.words ∙ words-put p.notes p.tail r.slot r.note (slot_lt d);
      places = length-set p.notes r.slot r.note ∙ p.places;
      room = advanced.room ∙ p.room;
      long-nodes = ln ∙ p.long-nodes;
      long-attributes = la ∙ p.long-attributes;
      long-words = lw ∙ p.long-words;
      good = advanced.good;
      same = sym (advanced.goes d p.notes all-places) ∙ p.same;
    }

    -- all places are written, and zeros are behind the last
    pub point-last : r.done ≡ true → (ws' : List ℕ) → ws' ≡ take (note_width * (length ws / note_width)) ws ++ replicate (length ws - note_width * (length ws / note_width)) 0
        → (a : Result ReadCounts Refusal) → Answers r a → ReadsWords f lent ns₀ ats₀ ws₀ cap mode (answer_of (numbers_of a)) ns' ats' ws'
    point-last d ws' z a is =
        let all : note_width * (length ws / note_width) ≡ note_width * length p.notes = rw (p.long-words, p.places) in
        let none : length p.notes - length p.notes ≡ 0 = omega arith in
        let kept : cleared p.notes (length p.notes) (length p.notes) ≡ p.notes =
        rw (none, take-length p.notes) (append-nil p.notes) in
        reads_of (gives a ns' ats' p.notes) (sym (advanced.ends d a is p.notes all-places) ∙ p.same) ws'
        (z ∙ words-cleared p.notes p.tail ws (length p.notes) _ (omega arith) all p.words
        ∙ ap (λ (o : List Note). words_of o ++ replicate (length p.tail) 0) kept
        ∙ ap (λ (n : ℕ). words_of p.notes ++ replicate n 0) (odd ns ats ws st p))

  -- ---- the answer in numbers

  pub reads-by : (a : Result ReadCounts Refusal) (ns ats ws : List ℕ) → ReadsWords f lent ns₀ ats₀ ws₀ cap mode (answer_of (numbers_of a)) ns ats ws
      → (m : Numbers) → m ≡ numbers_of a → (r : AxmlAnswer) → r ≡ answer_of m → ReadsWords f lent ns₀ ats₀ ws₀ cap mode r ns ats ws
  reads-by a ns ats ws h m em r er = record { answer = er ∙ ap answer_of em ∙ h.answer; nodes = h.nodes; attributes = h.attributes; notes = h.notes }
