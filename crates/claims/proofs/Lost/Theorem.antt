-- Nothing is lost without a note: docs/FORMAT.md, P7. Of every result of success that the promise allows; its cap is at least 1, since 0 is refused.
--
--   nothing-lost   the kept nodes are the starts before the first, other than the very first, that never gets its end; where a start is dropped, the last
--                  note is 12 (specs/Lost.antt, `NothingLost`)
--   whole-kept     without note 12 all starts are kept
use Rattle.std.specs.Prelude.{Ok}
use Prim.Native.Nat.{ℕ, ◌+◌, ◌-◌, ◌*◌, ◌/◌, ◌≤◌}
use native.Mathlib.Omega.{arith}
use mathlib.Core.Path.{◌≡◌, refl, sym, ◌∙◌, ap}
use mathlib.Core.List.{List, [], ◌∷◌, ◌++◌, map, map-append}
use borrow.Author.Tests.{lt-leb}
use lib.ListN.{length, take, get_or, length-append, length-set}
use Rattle.anomaly.specs.Note.{made, note_of}
use Rattle.anomaly.specs.Kept.{kept_notes}
use Rattle.anomaly.specs.declared.Note.{Note}
use Rattle.anomaly.specs.declared.ResAnomaly.TheVariants.{UnclosedElements}
use Rattle.errors.specs.declared.ReadCounts.{ReadCounts}
use Rattle.head.specs.Head.{opened_of, tables_in, body_in}
use Rattle.events.specs.declared.Event.{Event}
use Rattle.events.specs.declared.Event.TheVariants as event
use Rattle.records.specs.Words.{node_width}
use Rattle.records.specs.Repeats.{Rule}
use Rattle.system_types.specs.Names.{Lent}
use Rattle.walk.specs.Settle.{Room, Tables, going, settle, nothing_yet}
use Rattle.walk.specs.Reading.{Dropped, none_dropped, dropped_from, dropped_in, nodes_kept_by, nodes_kept, Reads}
use Rattle.walk.specs.Inner.Tree.{above_root_of}
use Rattle.claims.specs.Counts.{event_notes, depth_from}
use Rattle.claims.specs.Readers.{names_for, events_of}
use Rattle.claims.specs.Shape.{count_of_kind, Structured}
use Rattle.claims.specs.Lost.{Mark, marks_in, start_names, start_lines, still_open, kept_of, before_lost, NothingLost}
use Rattle.claims.proofs.Settle.StoreAll.{empty}
use Rattle.claims.proofs.Settle.ByEvent.{Idle, Goes, settle-in}
use Rattle.claims.proofs.Structure.Done.{done-by}
use Rattle.claims.proofs.Structure.WalkDepth.{WalkedFile}
use Rattle.claims.proofs.Structure.OpenElements.{SomeDropped, second-some}
use Rattle.claims.proofs.Structure.Theorem as tree
use Rattle.claims.proofs.Lost.Matching.{spare, depth-open, open_above, kept_by, kept-end, kept-start}
use Rattle.claims.proofs.Lost.Marks.{event_mark, event_marks, file-marks, events-depth, events-names, events-lines, events-starts}
use Rattle.claims.proofs.Lost.LastNote.{walked-last}

-- ---- how many are kept

idle-mark : (e : Event) → Idle e → event_mark e ≡ []
idle-mark event.Nothing i = refl
idle-mark event.Finish i = refl
idle-mark (event.LeftOut n) i = refl
idle-mark (event.Attribute p a) i = refl
idle-mark (event.Note x) i = absurd i
idle-mark (event.Open n f l) i = absurd i
idle-mark event.Close i = absurd i
idle-mark (event.Refuse x) i = absurd i

-- as many are kept in the end, told from here on
record Keeping (last : ℕ) (es : List Event) (t : Tables) : Type 0 where
  n : ℕ
  nodes : length t.nodes ≡ node_width * n
  then : kept_by t.stack n (event_marks es) ≡ last

goes : (r : Room) (last : ℕ) → Goes r (Keeping last)
goes r last = record {
  idles = λ t e es i h. record {
    n = h.n;
    nodes = h.nodes;
    then = ap (λ (x : List Mark). kept_by t.stack h.n (x ++ event_marks es)) (sym (idle-mark e i)) ∙ h.then;
  };
  closes = λ t es h. record { n = h.n; nodes = h.nodes; then = sym (kept-end t.stack h.n (event_marks es)) ∙ h.then };
  opens = λ t es name f l g h.
      let k : length t.nodes / node_width ≡ h.n = omega (arith, h.nodes) in
      record {
        n = h.n + 1;
        nodes = rw length-append (omega (arith, h.nodes));
        then =
            ap (λ (i : ℕ). kept_by (i ∷ t.stack) (h.n + 1) (event_marks es)) k ∙ sym (kept-start t.stack h.n name.0 l (event_marks es))
            ∙ h.then;
      };
  keeps = λ t es p a some g h. record { n = h.n; nodes = rw length-set h.nodes; then = h.then };
  notes = λ t es x d g h. record { n = h.n; nodes = h.nodes; then = h.then };
  past = λ t es x d h. record { n = h.n; nodes = h.nodes; then = h.then };
}

-- with no mark to come
kept_above : (n : ℕ) (d : Dropped) → SomeDropped d → nodes_kept_by n d ≡ above_root_of d
kept_above n none_dropped s = absurd s
kept_above n (dropped_from k) s = refl

kept-last : (s : List ℕ) (n : ℕ) → nodes_kept_by n (dropped_in s) ≡ kept_by s n []
unfolding kept_of before_lost
kept-last [] n = omega arith
kept-last (k ∷ []) n = omega arith
kept-last (k ∷ j ∷ r) n = rw (lt-leb (length (j ∷ r)) 0 (omega arith)) (kept_above n (dropped_in (k ∷ j ∷ r)) (second-some k j r))

module _ (rule : Rule) (r : Room) (es : List Event) (t : Tables) (e : settle rule r nothing_yet es ≡ going t) where
  settled-kept : nodes_kept t ≡ kept_of (event_marks es)
  settled-kept =
      let start : Keeping (kept_of (event_marks es)) es empty = record { n = 0; nodes = refl; then = omega arith } in
      let h = rw e at (settle-in rule r (Keeping (kept_of (event_marks es))) (goes r (kept_of (event_marks es))) nothing_yet es start) in
      let k : length t.nodes / node_width ≡ h.n = omega (arith, h.nodes) in
      ap (λ (n : ℕ). nodes_kept_by n (dropped_in t.stack)) k ∙ kept-last t.stack h.n ∙ h.then

-- ---- a reading

module _ (f : List ℕ) (lent : Lent) (ns ats : List ℕ) (os : List Note) (cap mode : ℕ) (c : ReadCounts) (ns' ats' : List ℕ) (os' : List Note)
    (reads : Reads f lent ns ats os cap mode (Ok c) ns' ats' os') where
  abbrev es : List Event
  es = events_of mode f lent

  abbrev ms : List Mark
  ms = marks_in f

  shape : Structured es cap c ns' ats' os'
  shape = tree.structured f lent ns ats os cap mode c ns' ats' os' reads

  marks : event_marks es ≡ ms
  marks =
      file-marks (names_for mode f lent) (opened_of f) (tables_in f (opened_of f).head) (body_in f (opened_of f).head) (tree.stays f lent ns ats os cap mode c ns' ats' os' reads)

  walk : WalkedFile es
  walk = tree.walk f lent ns ats os cap mode c ns' ats' os' reads

  deep : depth_from 0 es ≡ still_open ms
  deep =
      events-depth 0 es ∙ depth-open 0 (event_marks es)
      ∙ (let z : (0 - spare (event_marks es)) + still_open (event_marks es) ≡ still_open (event_marks es) = omega arith in z) ∙ ap still_open marks

  twelve : (n : ℕ) → note_of (UnclosedElements n) ≡ made 12 n 0
  unfolding note_of
  twelve n = refl

  all-starts : c.starts ≡ length (start_names ms)
  all-starts = shape.starts ∙ events-starts es ∙ ap (λ (x : List Mark). length (start_names x)) marks

  one : 1 ≤ cap
  one = (done-by f lent ns ats os cap mode c ns' ats' os' reads).cap

  pub nothing-lost : NothingLost ms c ns' os'
  nothing-lost = record {
    starts = all-starts;
    kept =
        let d = done-by f lent ns ats os cap mode c ns' ats' os' reads in
        d.nodes ∙ settled-kept _ _ es d.tables d.out ∙ ap kept_of marks;
    names = λ k l. shape.names k l ∙ ap (λ (x : List ℕ). get_or x k 0) (events-names es ∙ ap start_names marks);
    lines = λ k l. shape.lines k l ∙ ap (λ (x : List ℕ). get_or x k 0) (events-lines es ∙ ap start_lines marks);
    parents = shape.parents;
    noted = λ l.
        let kept = kept_notes cap (event_notes walk.body) in
        record {
          before = map note_of kept;
          split =
              tree.notes-kept f lent ns ats os cap mode c ns' ats' os' reads
              ∙ ap (map note_of) (walked-last es walk cap one (λ z. omega (arith, shape.closed z)))
              ∙ map-append note_of kept (UnclosedElements (depth_from 0 es) ∷ [])
              ∙ ap (λ (x : Note). map note_of kept ++ (x ∷ [])) (twelve (depth_from 0 es) ∙ ap (λ (n : ℕ). made 12 n 0) deep);
        };
    number = open_above ms (omega (arith, all-starts, shape.some, shape.within));
  }

  -- where no note is 12
  pub whole-kept : count_of_kind 12 (take c.notes os') ≡ 0 → c.nodes ≡ length (start_names ms)
  whole-kept none = go (depth_from 0 es) refl
    where
      go : (n : ℕ) → depth_from 0 es ≡ n → c.nodes ≡ length (start_names ms)
      go Prim.Native.Nat.zero z = shape.closed z ∙ all-starts
      go (Prim.Native.Nat.suc n) z = absurd (let y : ⊥ = omega (arith, none, shape.twelve (omega (arith, one)) (λ q. omega (arith, q, z))) in y)
