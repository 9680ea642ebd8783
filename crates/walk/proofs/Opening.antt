-- The first call: what refuses before the file is read, and the head opened. No contract cites this file.
-- In order: the first state (`first_good`, `first-same`, `reads-of-whole`), the refusals of the entry checks (`fresh-out`), the state behind the head
-- (`started-good`, `started-same`), and that a call from there is a call from here (`advanced-started`).
use Rattle.std.specs.Prelude.{Result, Ok, Err}
use Prim.Native.Nat.{ℕ, ◌+◌, ◌-◌, ◌*◌, ◌≤◌}
use native.Mathlib.Omega.{arith}
use mathlib.Core.Path.{◌≡◌, refl, ◌∙◌, ap}
use mathlib.Core.List.{List, []}
use lib.ListN.{length, drop, replicate, length-drop}
use Rattle.anomaly.specs.declared.Note.{Note as NoteOf}
use Rattle.errors.specs.declared.Refusal.{Refusal}
use Rattle.errors.specs.Refusal.{numbers_of}
use Rattle.system_types.specs.Names.{Lent}
use Rattle.head.specs.Head.{opened_of, tables_in, body_in}
use Rattle.records.specs.Words.{node_width, attribute_width}
use Rattle.tables.specs.Inner.Keys.{key_by, keys_of}
use Rattle.tables.specs.Inner.Ways.{front_words}
use Rattle.tables.proofs.Ways.{hung-none}
use Rattle.head.proofs.Laws.{opened_of-fits}
use Rattle.head.specs.Entry.{reading_at, Check, passes, fails, first_of, entry_checks}
use Rattle.head.specs.Inner.Entered.{entered_of}
use Rattle.head.specs.declared.Opened.{Opened}
use Rattle.head.proofs.Entering.{Passed, passed, entered-in, entered-out}
use Rattle.events.proofs.Steps.{pending-first, within_first}
use Rattle.walk.specs.declared.Stage.TheVariants.{Fresh, Reading as InBody}
use Rattle.walk.specs.declared.State.{State}
use Rattle.walk.specs.Settle.{Room}
use Rattle.walk.specs.Reading.{Reading, settled_in, reading_by, reading, room_in, Reads}
use Rattle.walk.specs.Inner.Outcome.{first, started_by, Refuses, room_of, outcome, StateOk, steps_left, Advanced, Leaves}
use Rattle.walk.proofs.Clearing.{fresh-not, clears}
use Rattle.errors.specs.declared.ReadCounts.{ReadCounts}

-- ---- the first state

abbrev pub first_good : (f : List ℕ) (lent : Lent) (ns ats : List ℕ) (room cap mode : ℕ) → StateOk f lent ns ats (first room cap mode)
first_good f lent ns ats room cap mode = record { stack = []; on_way = λ e. absurd (fresh-not e) }

pub first-same : (f : List ℕ) (lent : Lent) (ns ats : List ℕ) (os : List NoteOf) (cap mode : ℕ)
    → outcome f lent ns ats os (first (length os) cap mode) [] ≡ reading (room_in ns ats os cap mode) f lent
first-same f lent ns ats os cap mode = refl

-- the one equation says the numbers and the tables
pub reads-of-whole : (f : List ℕ) (lent : Lent) (ns ats : List ℕ) (os : List NoteOf) (cap mode : ℕ) (r : Result ReadCounts Refusal) (ns' ats' : List ℕ)
    (os' : List NoteOf)
    → Leaves f lent ns ats os cap mode r ns' ats' os' → Reads f lent ns ats os cap mode r ns' ats' os'
reads-of-whole f lent ns ats os cap mode r ns' ats' os' h = record {
  answer = ap (λ (x : Reading). numbers_of x.answer) h.whole;
  nodes = ap (λ (x : Reading). x.nodes) h.whole;
  attributes = ap (λ (x : Reading). x.attributes) h.whole;
  notes = ap (λ (x : Reading). x.notes) h.whole;
}

-- ---- what refuses before the file is read

reading-by : (r : Room) (f : List ℕ) (lent : Lent) (c : Check) → first_of (entry_checks f lent (reading_at r.cap r.mode)) ≡ c
    → reading r f lent ≡ reading_by r (settled_in r f lent (opened_of f)) c
unfolding reading
reading-by r f lent c e = ap (reading_by r (settled_in r f lent (opened_of f))) e

module _ (f : List ℕ) (lent : Lent) (ns ats : List ℕ) (st : State) (g : StateOk f lent ns ats st) (fresh : st.stage ≡ Fresh) where
  abbrev R : Room
  R = room_of ns ats st

  much : steps_left f lent st ≡ 20 * length f + 15 + st.room + 1
  much = rw fresh

  refuses-first : (x : Refusal) → first_of (entry_checks f lent (reading_at st.cap st.mode)) ≡ fails x → (r : State) (ns' ats' : List ℕ)
      → Refuses ns ats st x r ns' ats' → Advanced f lent ns ats st g r ns' ats'
  refuses-first x e r ns' ats' w =
      let z : st.room - 0 ≡ st.room = omega arith in
      rw (w.state, w.nodes, w.attributes)
      (clears f lent ns ats st g (replicate (length ns) 0) (replicate (length ats) 0) 0 (Err x) (λ lt. omega (arith, much))
      (λ os l. rw (fresh, reading-by R f lent (fails x) e, z)))

  pub fresh-out : {x : Refusal} → entered_of f lent (reading_at st.cap st.mode) ≡ Err x → (r : State) (ns' ats' : List ℕ) → Refuses ns ats st x r ns' ats'
      → Advanced f lent ns ats st g r ns' ats'
  fresh-out {x} e = refuses-first x (entered-out f lent (reading_at st.cap st.mode) e)

  -- ---- the head is opened

  module _ {o : Opened} (entered : entered_of f lent (reading_at st.cap st.mode) ≡ Ok o) where
    passes-in : first_of (entry_checks f lent (reading_at st.cap st.mode)) ≡ passes
    passes-in = (entered-in f lent (reading_at st.cap st.mode) entered).0

    told : Passed f lent (reading_at st.cap st.mode)
    told = passed f lent (reading_at st.cap st.mode) passes-in

    abbrev started : State
    started = started_by st (opened_of f)

    abbrev B : List ℕ
    B = body_in f (opened_of f).head

    body-le : length B ≤ length f
    body-le = rw length-drop (omega arith)

    abbrev started-good : StateOk f lent ns ats started
    started-good = record {
      stack = [];
      on_way = λ _. record {
        ready = record { good = told.good; fits = opened_of-fits f told.short };
        within = within_first (opened_of f) B (omega (arith, told.short, body-le));
        tied = record {
          sized = record { nodes = omega arith; attributes = omega arith; first = omega arith; inside = λ n. absurd (n refl) };
          linked = refl;
          top = refl;
          above_root = refl;
          attributes_before_it = λ n. absurd (n refl);
          below = omega arith;
        };
        chained =
            λ _. hung-none (keys_of (key_by (opened_of f).head (tables_in f (opened_of f).head) lent) (drop (attribute_width * 0 + front_words) ats))
            (drop (node_width * 0) ns) 0 refl;
        budget = omega (arith, told.short, body-le);
        few = omega (arith, told.short, body-le);
        stored = omega arith;
      };
    }

    as-started : (s : State) → s ≡ started_by st o → s ≡ started
    as-started s e = e ∙ ap (started_by st) (entered-in f lent (reading_at st.cap st.mode) entered).1

    -- what `read_on` asks
    pub started-asks : (s : State) → s ≡ started_by st o → StateOk f lent ns ats s × (s.stage ≡ InBody)
    started-asks s e = rw (as-started s e) (started-good, refl)

    started-same : (os : List NoteOf) → outcome f lent ns ats os st g.stack ≡ outcome f lent ns ats os started []
    started-same os = rw (fresh, reading-by R f lent passes passes-in, pending-first)

    pub advanced-started : (s : State) → s ≡ started_by st o → (r : State) (ns' ats' : List ℕ)
        → ((x : StateOk f lent ns ats s) → Advanced f lent ns ats s x r ns' ats') → Advanced f lent ns ats st g r ns' ats'
    advanced-started s e r ns' ats' a₀ =
        let a = (rw (as-started s e) at a₀) started-good in
        record {
          good = a.good;
          room = a.room;
          due = λ d. ((a.due d).0, omega (arith, (a.due d).1, much, body-le));
          goes = λ d os l. (started-same os ∙ a.goes d os l);
          ends = λ d b h os l. (started-same os ∙ a.ends d b h os l);
        }
