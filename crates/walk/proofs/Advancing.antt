-- The loop of `read_on`: each way out keeps the outcome of the whole reading. No contract cites this file.
-- In order: the loop's head (`ReadHead`), then what a turn comes to: a refusal (`read-full`), a note past its cap (`read_past`), one within it
-- (`read-due`), which has a place or refuses. Not here: the end (Finishing.antt).
use Rattle.std.specs.Prelude.{Err}
use Prim.Native.Nat.{ℕ, ◌+◌, ◌-◌, ◌≤◌, ◌<◌}
use native.Mathlib.Omega.{arith}
use native.Mathlib.Numerals.{add-one}
use mathlib.Core.Path.{◌≡◌, refl, sym, ◌∙◌, ap}
use mathlib.Core.List.{List, [], ◌∷◌, ◌++◌}
use mathlib.Core.Bool.{Bool, true, false}
use borrow.Author.Tests.{lt-ltb, le-ltb, ltb-true, ltb-false}
use lib.ListN.{length, take, set, get_or, replicate}
use lib.Seq.{take-suc-set, length-take-le}
use lib.Dec.{ltb}
use Rattle.anomaly.specs.Note.{kind_index, note_of}
use Rattle.anomaly.specs.declared.Note.{Note as NoteOf}
use Rattle.anomaly.specs.declared.ResAnomaly.{ResAnomaly}
use Rattle.errors.specs.declared.Refusal.{Refusal}
use Rattle.errors.specs.declared.Refusal.TheVariants.{NotesFull}
use Rattle.system_types.specs.Names.{Lent}
use Rattle.head.specs.Head.{tables_in, body_in}
use Rattle.events.specs.declared.Cursor.{Cursor}
use Rattle.events.specs.declared.Event.TheVariants.{Note}
use Rattle.events.specs.Events.{Names, names_in}
use Rattle.events.specs.Inner.Pending.{Within, pending, steps}
use Rattle.walk.specs.declared.tree.Tree.{Tree}
use Rattle.walk.specs.declared.Stage.TheVariants.{Reading as InBody}
use Rattle.walk.specs.declared.State.{State}
use Rattle.walk.specs.declared.placing.Halt.{Halt}
use Rattle.walk.specs.declared.placing.Stop.TheVariants.{Full, Due}
use Rattle.walk.specs.Settle.{Room, Tables, Out, going, refused, push, settle, noted}
use Rattle.walk.specs.Reading.{final_of}
use Rattle.walk.specs.Inner.Tree.{tables_of}
use Rattle.walk.specs.Inner.Run.{Running, on_from, RanBy, Ran, RanIn}
use Rattle.walk.specs.Inner.Outcome.{noted_by, Refuses, Noted, room_of, outcome, StateOk, steps_left, Advanced}
use Rattle.walk.proofs.Settle.{settle-cons, settle-refused}
use Rattle.walk.proofs.Clearing.{clears, false-true}

-- ---- the loop's head

module _ (f : List ℕ) (lent : Lent) (st : State) where
  abbrev pub tables : List ℕ
  tables = tables_in f st.opened.head

  abbrev pub body : List ℕ
  body = body_in f st.opened.head

  abbrev pub N : Names
  N = names_in st.mode st.opened.head tables lent

pub record ReadHead (f : List ℕ) (lent : Lent) (ns₀ ats₀ : List ℕ) (st : State) (g : StateOk f lent ns₀ ats₀ st) (ns ats : List ℕ) (c : Cursor) (tree : Tree)
    : Type 0 where
  pub now : Running (tables f lent st) lent (body f lent st) st.opened ns ats c tree
  pub ln : length ns ≡ length ns₀
  pub la : length ats ≡ length ats₀
  pub low : steps (body f lent st) c ≤ steps (body f lent st) st.cur
  pub stored : st.notes.used ≤ st.room
  pub few : st.notes.used + steps (body f lent st) st.cur ≤ 400000000
  pub much : steps_left f lent st ≡ steps (body f lent st) st.cur + st.room + 1
  pub same : (os : List NoteOf) → length os ≡ st.room
      → outcome f lent ns₀ ats₀ os st g.stack
      ≡ final_of (room_of ns₀ ats₀ st)
      (on_from (room_of ns₀ ats₀ st) (N f lent st) st.opened (tables f lent st) (body f lent st) ns ats c tree now.stack
      (take st.notes.used os) st.notes.counts)

pub read_first : (f : List ℕ) (lent : Lent) (ns ats : List ℕ) (st : State) (g : StateOk f lent ns ats st) → st.stage ≡ InBody
    → ReadHead f lent ns ats st g ns ats st.cur st.tree
read_first f lent ns ats st g e =
    let r = g.on_way e in
    record {
      now = record { stack = g.stack; ready = r.ready; within = r.within; tied = r.tied; chained = r.chained; budget = r.budget };
      ln = refl;
      la = refl;
      low = omega arith;
      stored = r.stored;
      few = r.few;
      much = rw e;
      same = λ os l. rw e;
    }

-- ---- a turn: where `run` stopped

module _ (f : List ℕ) (lent : Lent) (ns₀ ats₀ : List ℕ) (st : State) (g : StateOk f lent ns₀ ats₀ st) (ns ats : List ℕ) (c : Cursor) (tree : Tree)
    (hd : ReadHead f lent ns₀ ats₀ st g ns ats c tree) (h : Halt) (ns' ats' : List ℕ) (ln : length ns' ≡ length ns) (la : length ats' ≡ length ats)
    (ran : RanIn st.mode f lent st.opened ns ats c tree h ns' ats') where
  abbrev R : Room
  R = room_of ns₀ ats₀ st

  abbrev T : List ℕ
  T = tables f lent st

  abbrev B : List ℕ
  B = body f lent st

  abbrev M : Names
  M = N f lent st

  abbrev os-of : List NoteOf → List NoteOf
  os-of os = take st.notes.used os

  abbrev here : List NoteOf → Out
  here os = on_from R M st.opened T B ns ats c tree hd.now.stack (os-of os) st.notes.counts

  ran-here : Ran st.mode T lent B st.opened ns ats c tree hd.now h ns' ats'
  ran-here = ran hd.now

  stored-len : (os : List NoteOf) → length os ≡ st.room → length (os-of os) ≡ st.notes.used
  stored-len os l = length-take-le st.notes.used os (omega (arith, hd.stored))

  -- a refusal
  refused-by : (x : Refusal) → ((os : List NoteOf) → length os ≡ st.room → here os ≡ refused x) → (r : State) (ns'' ats'' : List ℕ)
      → Refuses ns' ats' st x r ns'' ats'' → Advanced f lent ns₀ ats₀ st g r ns'' ats''
  refused-by x out r ns'' ats'' w =
      let z : st.room - 0 ≡ st.room = omega arith in
      rw (w.state, w.nodes, w.attributes)
      (clears f lent ns₀ ats₀ st g (replicate (length ns') 0) (replicate (length ats') 0) 0 (Err x) (λ lt. omega (arith, hd.much))
      (λ os l. hd.same os l ∙ ap (final_of R) (out os l) ∙ rw (ln, la, hd.ln, hd.la, z)))

  pub read-full : (x : Refusal) → h.stop ≡ Full x → (r : State) (ns'' ats'' : List ℕ) → Refuses ns' ats' st x r ns'' ats''
      → Advanced f lent ns₀ ats₀ st g r ns'' ats''
  read-full x e = let q = rw e at ran-here in refused-by x (λ os l. q R (os-of os) st.notes.counts (sym hd.ln) (sym hd.la))

  -- ---- a note

  module _ (x : ResAnomaly) (e : h.stop ≡ Due x) where
    due : RanBy st.mode T lent B st.opened (Due x) ns ats c tree hd.now.stack h.cur h.tree ns' ats'
    due = rw e at ran-here

    pub due-less : steps B h.cur < steps B c
    due-less = due.less

    pub due-within : Within st.opened B h.cur
    due-within = due.now.within

    abbrev U : List NoteOf → Tables
    U os = tables_of ns' ats' h.tree due.now.stack (os-of os) st.notes.counts

    pushed : (os : List NoteOf) → here os ≡ settle M.repeats R (push M.repeats R (going (U os)) (Note x)) (pending M st.opened T B h.cur)
    pushed os =
        due.goes R (os-of os) st.notes.counts (sym hd.ln) (sym hd.la)
        ∙ settle-cons M.repeats R (going (U os)) (Note x) (pending M st.opened T B h.cur)

    -- past its cap
    pub read_past : st.cap ≤ get_or st.notes.counts (kind_index x) 0 → ReadHead f lent ns₀ ats₀ st g ns' ats' h.cur h.tree
    read_past past = record {
      now = due.now;
      ln = ln ∙ hd.ln;
      la = la ∙ hd.la;
      low = omega (arith, due-less, hd.low);
      stored = hd.stored;
      few = hd.few;
      much = hd.much;
      same = λ os l. hd.same os l ∙ ap (final_of R) (on os);
    }
      where
        on : (os : List NoteOf)
            → here os ≡ on_from R M st.opened T B ns' ats' h.cur h.tree due.now.stack (os-of os) st.notes.counts
        on os = pushed os ∙ rw (le-ltb (get_or st.notes.counts (kind_index x) 0) st.cap past)

    -- no place for it
    read-ten : get_or st.notes.counts (kind_index x) 0 < st.cap → st.room ≤ st.notes.used → (r : State) (ns'' ats'' : List ℕ)
        → Refuses ns' ats' st (NotesFull st.room) r ns'' ats'' → Advanced f lent ns₀ ats₀ st g r ns'' ats''
    read-ten under none =
        refused-by (NotesFull st.room)
        (λ os l.
        pushed os
        ∙ rw (
          lt-ltb (get_or st.notes.counts (kind_index x) 0) st.cap under,
          le-ltb (length (os-of os)) st.room (omega (arith, stored-len os l)),
        )
        (settle-refused M.repeats R (NotesFull st.room) (pending M st.opened T B h.cur)))

    -- it is to be stored
    read-noted : get_or st.notes.counts (kind_index x) 0 < st.cap → st.notes.used < st.room
        → Advanced f lent ns₀ ats₀ st g (noted_by st h.cur h.tree x) ns' ats'
    read-noted under some = record {
      good = record {
        stack = due.now.stack;
        on_way = λ _. record {
          ready = due.now.ready;
          within = due.now.within;
          tied = due.now.tied;
          chained = due.now.chained;
          budget = due.now.budget;
          few = omega (arith, hd.few, due-less, hd.low);
          stored = omega arith;
        };
      };
      room = refl;
      due = λ _. (some, omega (arith, hd.much, due-less, hd.low));
      goes = λ _ os l. (hd.same os l ∙ ap (final_of R) (pushed os ∙ step os l) ∙ rw (ln, la, hd.ln, hd.la, notes os l));
      ends = λ z. absurd (false-true z);
    }
      where
        step : (os : List NoteOf) → length os ≡ st.room
            → settle M.repeats R (push M.repeats R (going (U os)) (Note x)) (pending M st.opened T B h.cur)
            ≡ settle M.repeats R (going (noted (U os) x)) (pending M st.opened T B h.cur)
        step os l =
            rw (
              lt-ltb (get_or st.notes.counts (kind_index x) 0) st.cap under,
              lt-ltb (length (os-of os)) st.room (omega (arith, stored-len os l)),
            )

        notes : (os : List NoteOf) → length os ≡ st.room → take (st.notes.used + 1) (set os st.notes.used (note_of x)) ≡ os-of os ++ (note_of x ∷ [])
        notes os l =
            ap (λ (j : ℕ). take j (set os st.notes.used (note_of x))) (add-one st.notes.used)
            ∙ take-suc-set os st.notes.used (note_of x) (omega arith)

    -- the one or the other
    pub read-due : get_or st.notes.counts (kind_index x) 0 < st.cap → (r : State) (ns'' ats'' : List ℕ)
        → Noted ns' ats' st h.cur h.tree x r ns'' ats'' → Advanced f lent ns₀ ats₀ st g r ns'' ats''
    read-due under r ns'' ats'' w = go (ltb st.notes.used st.room) refl
      where
        go : (b : Bool) → ltb st.notes.used st.room ≡ b → Advanced f lent ns₀ ats₀ st g r ns'' ats''
        go true q =
            let some = ltb-true st.notes.used st.room q in
            let v = w.place some in
            rw (v.state, v.nodes, v.attributes) (read-noted under some)
        go false q = let none = ltb-false st.notes.used st.room q in read-ten under none r ns'' ats'' (w.none none)
