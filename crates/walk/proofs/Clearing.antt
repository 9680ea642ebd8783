-- The answer is known and the note table is cleared place by place: each call keeps the outcome. No contract cites this file.
-- In order: stages differ, a place cleared (`clear_step`, `clear-end`), `clears` for every way into clearing, `goes-clearing` for its own turns.
use Rattle.std.specs.Prelude.{Result}
use Prim.Native.Nat.{ℕ, suc, ◌+◌, ◌-◌, ◌≤◌, ◌<◌}
use native.Mathlib.Omega.{arith}
use native.Mathlib.Numerals.{add-one}
use mathlib.Core.Path.{◌≡◌, refl, sym, ◌∙◌, ap}
use mathlib.Core.List.{List, [], ◌∷◌, ◌++◌, append_assoc, append-nil}
use mathlib.Core.Bool.{Bool, true, false, cond}
use borrow.Author.Tests.{ltb-true, ltb-false}
use lib.ListN.{length, take, set, replicate}
use lib.Seq.{take_all, take-suc-set}
use lib.Dec.{ltb}
use Rattle.anomaly.specs.declared.Note.{Note as NoteOf}
use Rattle.system_types.specs.Names.{Lent}
use Rattle.walk.specs.declared.Stage.TheVariants.{Fresh, Reading as InBody, Clearing}
use Rattle.walk.specs.declared.State.{State}
use Rattle.walk.specs.Reading.{Reading, zero_note}
use Rattle.walk.specs.Inner.Outcome.{clearing_at, clear_next, cleared, outcome, StateOk, steps_left, Advanced}
use Rattle.errors.specs.declared.ReadCounts.{ReadCounts}
use Rattle.errors.specs.declared.Refusal.{Refusal}

pub true-false : true ≡ false → ⊥
true-false e = cc

pub false-true : false ≡ true → ⊥
false-true e = true-false (sym e)

pub clearing-not : (a : Result ReadCounts Refusal) → Clearing a ≡ InBody → ⊥
clearing-not a e = cc

pub fresh-clears : (a : Result ReadCounts Refusal) → Fresh ≡ Clearing a → ⊥
fresh-clears a e = cc

pub fresh-not : Fresh ≡ InBody → ⊥
fresh-not e = cc

-- ---- a place

clear_step : (os : List NoteOf) (c room : ℕ) → length os ≡ room → c < room → cleared (set os c zero_note) (c + 1) room ≡ cleared os c room
clear_step os c room l h =
    let e : room - c ≡ suc (room - (c + 1)) = omega arith in
    ap (λ (x : List NoteOf). x ++ replicate (room - (c + 1)) zero_note)
    (ap (λ (j : ℕ). take j (set os c zero_note)) (add-one c) ∙ take-suc-set os c zero_note (omega arith))
    ∙ append_assoc (take c os) (zero_note ∷ []) (replicate (room - (c + 1)) zero_note) ∙ ap (λ (n : ℕ). take c os ++ replicate n zero_note) (sym e)

clear-end : (os : List NoteOf) (c room : ℕ) → length os ≡ room → room ≤ c → cleared os c room ≡ os
clear-end os c room l h = let e : room - c ≡ 0 = omega arith in rw (e, take_all c os (omega arith)) (append-nil os)

-- ---- a call

module _ (f : List ℕ) (lent : Lent) (ns ats : List ℕ) (st : State) (g : StateOk f lent ns ats st) where
  abbrev gives : Result ReadCounts Refusal → List ℕ → List ℕ → List NoteOf → Reading
  gives a ns' ats' os = record { answer = a; nodes = ns'; attributes = ats'; notes = os }

  -- the answer is a, and zeros come from the place c on
  pub clears : (ns' ats' : List ℕ) (c : ℕ) (a : Result ReadCounts Refusal) → (c < st.room → st.room - c < steps_left f lent st)
      → ((os : List NoteOf) → length os ≡ st.room → outcome f lent ns ats os st g.stack ≡ gives a ns' ats' (cleared os c st.room))
      → Advanced f lent ns ats st g (clearing_at st c a) ns' ats'
  clears ns' ats' c a less out = go (ltb c st.room) refl
    where
      good : (d : Bool) → StateOk f lent ns' ats' (record {
        done = d;
        slot = c;
        note = zero_note;
        room = st.room;
        cap = st.cap;
        mode = st.mode;
        stage = Clearing a;
        opened = st.opened;
        cur = st.cur;
        tree = st.tree;
        notes = st.notes;
      })
      good d = record { stack = []; on_way = λ z. absurd (clearing-not a z) }

      go : (b : Bool) → ltb c st.room ≡ b → Advanced f lent ns ats st g (record {
        done = cond b false true;
        slot = c;
        note = zero_note;
        room = st.room;
        cap = st.cap;
        mode = st.mode;
        stage = Clearing a;
        opened = st.opened;
        cur = st.cur;
        tree = st.tree;
        notes = st.notes;
      }) ns' ats'
      go true e =
          let lt : c < st.room = ltb-true _ _ e in
          record {
            good = good false;
            room = refl;
            due = λ _. (lt, less lt);
            goes = λ _ os l. (out os l ∙ ap (gives a ns' ats') (sym (clear_step os c st.room l lt)));
            ends = λ z. absurd (false-true z);
          }
      go false e = record {
        good = good true;
        room = refl;
        due = λ z. absurd (true-false z);
        goes = λ z. absurd (true-false z);
        ends = λ _ b h os l. (out os l ∙ rw (h a refl) (ap (gives a ns' ats') (clear-end os c st.room l (ltb-false _ _ e))));
      }

  pub goes-clearing : (a : Result ReadCounts Refusal) → st.stage ≡ Clearing a → Advanced f lent ns ats st g (clear_next st a) ns ats
  goes-clearing a t = go (ltb st.slot st.room) refl
    where
      here : (os : List NoteOf) → outcome f lent ns ats os st g.stack ≡ gives a ns ats (cleared os (st.slot + 1) st.room)
      here os = rw t

      much : steps_left f lent st ≡ st.room - st.slot
      much = rw t

      go : (b : Bool) → ltb st.slot st.room ≡ b
          → Advanced f lent ns ats st g (clearing_at st (cond b (st.slot + 1) st.slot) a) ns ats
      go true e = clears ns ats (st.slot + 1) a (λ lt. omega (arith, much)) (λ os l. here os)
      go false e =
          let past : st.room ≤ st.slot = ltb-false _ _ e in
          clears ns ats st.slot a (λ lt. omega (arith, past))
          (λ os l.
          here os ∙ ap (gives a ns ats) (clear-end os (st.slot + 1) st.room l (omega arith) ∙ sym (clear-end os st.slot st.room l past)))
