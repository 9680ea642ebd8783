-- A file with foreign chunks put in behind its head: the head is untouched, and what the file makes differs in its notes alone.
-- docs/FORMAT.md, P3. For proofs/Insertion/SameTree.antt. No contract cites this file.
--
--   whole_long, head-fits   a whole head lies in its file
--   longer-opened, longer-tables, longer-body, longer-head   head, tables and body of the longer file
--   inserted_file-none       with nothing put in it is the file
--   whole_of                where nothing refuses, the head is whole
--   longer-others, longer-notes   both files' events
use Prim.Native.Nat.{ℕ, ◌+◌, ◌≤◌}
use native.Mathlib.Omega.{arith}
use native.Mathlib.Nat.{min-le_right}
use mathlib.Core.Path.{◌≡◌, refl, sym, ◌∙◌, ap, subst}
use mathlib.Core.List.{List, [], ◌∷◌, ◌++◌, append_assoc}
use mathlib.Core.Bool.{Bool, true, false}
use borrow.Author.Tests.{ltb-true, ltb-false}
use lib.ListN.{length, take, drop, length-drop, length-take, take-append-drop}
use lib.Seq.{length-take-le, take_at, drop_at}
use lib.Dec.{ltb}
use Rattle.records.specs.Limits.{file_limit}
use Rattle.head.specs.declared.HeadEnd.{HeadEnd}
use Rattle.head.specs.declared.HeadEnd.TheVariants.{Whole, TooSmall, HeaderSize, PoolShort, MapShort}
use Rattle.head.specs.declared.Opened.{Opened}
use Rattle.head.specs.Head.{opened_of, head_len, tables_in, body_in, refusal_of, garbage_notes, count_notes, offset_notes}
use Rattle.head.proofs.Cases.{opened_of-small}
use Rattle.head.proofs.Laws.{opened_of-fits, opened_of-append, tables_in-append}
use Rattle.events.specs.declared.Event.{Event}
use Rattle.events.specs.declared.Event.TheVariants.{Refuse}
use Rattle.events.specs.Events.{Names, WalkState, body_events, notes_of, after_pool, file_events}
use Rattle.claims.specs.Insertion.{ForeignChunk, places_of, inserted, inserted_file, place_notes}
use Rattle.claims.proofs.Insertion.BodyChunks.{inserted-none}
use Rattle.claims.specs.Counts.{event_notes}
use Rattle.claims.proofs.Events.NotesAndOthers.{others_in, others_in-append, event_notes-append, nil-left, nil-right}
use Rattle.claims.proofs.Insertion.InsertedBody.{inserted-body}
use Rattle.claims.proofs.Events.Refusals.{refuse-right}
use Rattle.claims.proofs.Settle.StoreCases.{AllStay}

-- ---- a whole head lies in its file

abbrev IsWhole : HeadEnd → Type 0
IsWhole Whole = Unit {0}
IsWhole (TooSmall n) = ⊥
IsWhole (HeaderSize n) = ⊥
IsWhole (PoolShort e) = ⊥
IsWhole (MapShort e) = ⊥

pub whole_long : (f : List ℕ) → (opened_of f).end ≡ Whole → 8 ≤ length f
whole_long f w = go (ltb (length f) 8) refl
  where
    go : (b : Bool) → ltb (length f) 8 ≡ b → 8 ≤ length f
    go false e = ltb-false (length f) 8 e
    go true e =
        let s : (opened_of f).end ≡ TooSmall (length f) = ap (λ (o : Opened). o.end) (opened_of-small f (ltb-true (length f) 8 e)) in
        absurd (subst IsWhole (sym w ∙ s) tt)

pub head-fits : (f : List ℕ) → length f ≤ file_limit → (opened_of f).end ≡ Whole → 8 + head_len (opened_of f).head ≤ length f
head-fits f short w =
    let h = (opened_of f).head in
    let ids : head_len h ≤ length (tables_in f h) = (opened_of-fits f short (rw w tt)).ids in
    let all : length (tables_in f h) ≤ length (drop 8 f) = rw (length-take (head_len h) (drop 8 f)) (min-le_right _ _) in
    omega (arith, whole_long f w, ids, all, length-drop 8 f)

-- ---- the longer file

module _ (f : List ℕ) (short : length f ≤ file_limit) (w : (opened_of f).end ≡ Whole) (places : List (List ForeignChunk)) where
  abbrev c : List ℕ
  c = take (8 + head_len (opened_of f).head) f

  abbrev b : List ℕ
  b = body_in f (opened_of f).head

  abbrev b' : List ℕ
  b' = inserted places b

  both : c ++ b ≡ f
  both = take-append-drop (8 + head_len (opened_of f).head) f

  len : length c ≡ 8 + head_len (opened_of f).head
  len = length-take-le (8 + head_len (opened_of f).head) f (head-fits f short w)

  pub longer-opened : opened_of (inserted_file places f) ≡ opened_of f
  unfolding inserted_file
  longer-opened = opened_of-append c b b' (rw both w) (rw (both, len) (omega arith)) ∙ ap opened_of both

  pub longer-tables : tables_in (inserted_file places f) (opened_of f).head ≡ tables_in f (opened_of f).head
  unfolding inserted_file
  longer-tables =
      let fit : 8 + head_len (opened_of f).head ≤ length c = omega (arith, len) in
      tables_in-append c b' (opened_of f).head fit ∙ sym (tables_in-append c b (opened_of f).head fit) ∙ rw both

  pub longer-body : body_in (inserted_file places f) (opened_of f).head ≡ inserted places (body_in f (opened_of f).head)
  unfolding inserted_file
  longer-body = drop_at c b' (8 + head_len (opened_of f).head) len

  -- every byte of the head is the same
  pub longer-head : take (8 + head_len (opened_of f).head) (inserted_file places f) ≡ take (8 + head_len (opened_of f).head) f
  unfolding inserted_file
  longer-head = take_at c b' (8 + head_len (opened_of f).head) len

-- with nothing put in it is the same
pub inserted_file-none : (f : List ℕ) → inserted_file [] f ≡ f
unfolding inserted_file
inserted_file-none f =
    rw (inserted-none (body_in f (opened_of f).head)) (take-append-drop (8 + head_len (opened_of f).head) f)

-- ---- what a file makes

module _ (N : Names) (o : Opened) (t : List ℕ) where
  abbrev front : List Event
  front = notes_of (garbage_notes o) ++ (notes_of (count_notes o) ++ notes_of (offset_notes t o))

  file_events-whole : o.end ≡ Whole → (l : List ℕ) → file_events N o t l ≡ front ++ body_events N l
  unfolding file_events
  file_events-whole w l = rw (w, append_assoc, append_assoc)

  -- where nothing refuses, the head is whole
  pub whole_of : (l : List ℕ) → AllStay (file_events N o t l) → o.end ≡ Whole
  unfolding file_events
  whole_of l s = go o.end refl (refuse-right (λ x. ⊥) (notes_of (count_notes o)) _ (refuse-right (λ x. ⊥) (notes_of (garbage_notes o)) _ s))
    where
      go : (e : HeadEnd) → o.end ≡ e → AllStay (after_pool N o t l o.end) → o.end ≡ Whole
      go Whole q s = q
      go (MapShort m) q s = absurd (refuse-right (λ x. ⊥) (notes_of (offset_notes t o)) (Refuse (refusal_of (MapShort m)) ∷ []) (rw q at s)).0
      go (PoolShort e) q s = let s' = rw q at s in absurd s'.0
      go (TooSmall n) q s = let s' = rw q at s in absurd s'.0
      go (HeaderSize n) q s = let s' = rw q at s in absurd s'.0

  -- THE LAW of a file's events
  module _ (w : o.end ≡ Whole) (l : List ℕ) (none : event_notes (file_events N o t l) ≡ []) (places : List (List ForeignChunk))
      (few : length places ≤ places_of l) where
    both-none : event_notes front ++ event_notes (body_events N l) ≡ []
    both-none = sym (ap event_notes (file_events-whole w l) ∙ event_notes-append front (body_events N l)) ∙ none

    both-bodies : (others_in (body_events N (inserted places l)) ≡ others_in (body_events N l)) × (event_notes (body_events N (inserted places l)) ≡ place_notes places)
    unfolding body_events
    both-bodies =
        let p : WalkState = record { run = 2; depth = 0; starts = 0 } in
        let v = inserted-body N l p refl (nil-right (event_notes front) (event_notes (body_events N l)) both-none) places few in
        (v.others, v.notes)

    pub longer-others : others_in (file_events N o t (inserted places l)) ≡ others_in (file_events N o t l)
    longer-others =
        rw (
          file_events-whole w (inserted places l),
          file_events-whole w l,
          others_in-append front (body_events N (inserted places l)),
          others_in-append front (body_events N l),
          both-bodies.0,
        )

    pub longer-notes : event_notes (file_events N o t (inserted places l)) ≡ place_notes places
    longer-notes =
        rw (
          file_events-whole w (inserted places l),
          event_notes-append front (body_events N (inserted places l)),
          nil-left (event_notes front) (event_notes (body_events N l)) both-none,
          both-bodies.1,
        )
