-- The points of `read`'s loop: all that holds at its head, and how a turn goes from one point to the next.
--
--   Point   the state and the three tables before a call of `advance`: the outcome from here is the promise
--   start   the point before the first turn
--   onward  the point after a turn that wrote a note
--   leaves  the last turn leaves what `Reads` says
--
-- Measure: `steps_left`, which each turn lowers.
use Rattle.std.specs.Prelude.{Result}
use mathlib.Core.Path.{◌≡◌, refl, sym, ◌∙◌, ap}
use Prim.Native.Nat.{ℕ, ◌<◌}
use mathlib.Core.Bool.{true, false}
use mathlib.Core.List.{List, []}
use native.Mathlib.Omega.{arith}
use lib.ListN.{length, set, length-set}
use Rattle.anomaly.specs.declared.Note.{Note}
use Rattle.walk.specs.declared.State.{State}
use Rattle.errors.specs.Refusal.{numbers_of}
use Rattle.system_types.specs.Names.{Lent}
use Rattle.walk.specs.declared.Stage.TheVariants.{Fresh, Reading as InBody}
use Rattle.walk.specs.Reading.{Reading, Reads, room_in, reading}
use Rattle.walk.specs.Inner.Outcome.{AdvanceKeeps, Advanced, Answers, StateOk, first, steps_left, outcome}
use Rattle.errors.specs.declared.ReadCounts.{ReadCounts}
use Rattle.errors.specs.declared.Refusal.{Refusal}

-- a fresh state does not read yet
fresh-reads : Fresh ≡ InBody → ⊥
fresh-reads e = cc

module _ (file : List ℕ) (lent : Lent) (nodes attributes : List ℕ) (notes : List Note) (cap mode : ℕ) where
  pub record Point (st : State) (now_nodes now_attributes : List ℕ) (now_notes : List Note) : Type 0 where
    pub long_notes : length now_notes ≡ length notes
    pub room : st.room ≡ length notes
    pub good : StateOk file lent now_nodes now_attributes st
    pub same : outcome file lent now_nodes now_attributes now_notes st good.stack ≡ reading (room_in nodes attributes notes cap mode) file lent

  -- ---- before the first turn
  -- the ghost is written out, so that `start`'s outcome is that of the empty stack
  abbrev first_good : (st : State) → st ≡ first (length notes) cap mode → StateOk file lent nodes attributes st
  first_good st e = record { stack = []; on_way = λ m. absurd (fresh-reads (sym (ap (λ (s : State). s.stage) e) ∙ m)) }

  first-same : outcome file lent nodes attributes notes (first (length notes) cap mode) [] ≡ reading (room_in nodes attributes notes cap mode) file lent
  first-same = refl

  pub start : (st : State) → st ≡ first (length notes) cap mode → Point st nodes attributes notes
  start st e = record {
    long_notes = refl;
    room = ap (λ (s : State). s.room) e;
    good = first_good st e;
    same = ap (λ (s : State). outcome file lent nodes attributes notes s []) e ∙ first-same;
  }

  -- ---- a turn
  module _ (st : State) (ns bs : List ℕ) (xs : List Note) (p : Point st ns bs xs) (r : State) (ns' bs' : List ℕ)
      (e : AdvanceKeeps file lent ns bs st r ns' bs') where
    advanced : Advanced file lent ns bs st p.good r ns' bs'
    advanced = e p.good

    all-places : length xs ≡ st.room
    all-places = p.long_notes ∙ sym p.room

    pub in_table : r.done ≡ false → r.slot < length xs
    in_table d = omega (arith, (advanced.due d).0, advanced.room, all-places)

    pub onward : r.done ≡ false → Point r ns' bs' (set xs r.slot r.note)
    onward d = record {
      long_notes = length-set xs r.slot r.note ∙ p.long_notes;
      room = advanced.room ∙ p.room;
      good = advanced.good;
      same = sym (advanced.goes d xs all-places) ∙ p.same;
    }

    pub fewer : r.done ≡ false → steps_left file lent r < steps_left file lent st
    fewer d = omega (arith, (advanced.due d).1)

    pub leaves : r.done ≡ true → (a : Result ReadCounts Refusal) → Answers r a → Reads file lent nodes attributes notes cap mode a ns' bs' xs
    leaves d a is =
        let e : ◌≡◌ {A = Reading} (record { answer = a; nodes = ns'; attributes = bs'; notes = xs })
        (reading (room_in nodes attributes notes cap mode) file lent) = sym (advanced.ends d a is xs all-places) ∙ p.same in
        record {
          answer = ap (λ (x : Reading). numbers_of x.answer) e;
          nodes = ap (λ (x : Reading). x.nodes) e;
          attributes = ap (λ (x : Reading). x.attributes) e;
          notes = ap (λ (x : Reading). x.notes) e;
        }
