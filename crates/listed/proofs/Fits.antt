-- The room of a listing suffices for its text: docs/FORMAT.md, L1. No contract cites this file.
--
--   Held              tables with no more in them than their room; whatever events are settled, they stay so
--   reading-le        so a reading leaves no more words and notes than there is room for
--   listed_text-fits   so the buffer of `Roomy` takes every listing
--   lists-answer      and the answer of `list_into` in that room is a text
use Rattle.std.specs.Prelude.{Result, Ok, Err}
use Prim.Native.Nat.{ℕ, ◌+◌, ◌-◌, ◌*◌, ◌/◌, ◌≤◌}
use native.Mathlib.Omega.{arith}
use mathlib.Core.Path.{◌≡◌, sym, ◌∙◌}
use mathlib.Core.List.{List, [], ◌∷◌, ◌++◌}
use mathlib.Core.Bool.{cond}
use borrow.Author.Tests.{leb-true, ltb-true, le-leb}
use lib.ListN.{length, take, get_or, replicate, length-append, length-set, length-replicate, length-take}
use lib.Dec.{ltb, leb, eqb}
use Rattle.anomaly.specs.Note.{kind_index}
use Rattle.errors.specs.Refusal.{numbers_of}
use Rattle.errors.specs.declared.Refusal.{Refusal}
use Rattle.errors.specs.declared.Refusal.TheVariants.{AttributesFull, NotesFull, TooLargeError}
use Rattle.errors.proofs.Laws.{lines_numbers_of-unique}
use Rattle.head.specs.Entry.{reading_at, Check, passes, fails, first_of, entry_checks}
use Rattle.head.specs.Head.{opened_of}
use Rattle.xml_elements.proofs.Laws.{cond-by}
use Rattle.events.specs.declared.Event.{Event}
use Rattle.events.specs.declared.Event.TheVariants.{Nothing, Open, Attribute, LeftOut, Close, Note, Refuse, Finish}
use Rattle.records.specs.Words.{node_width, attribute_width}
use Rattle.records.specs.Limits.{listed_file, listed_nodes, listed_attributes, listed_cap}
use Rattle.system_types.specs.Names.{Lent, lends}
use Rattle.records.specs.Repeats.{Rule}
use Rattle.walk.specs.Settle.{Room, Tables, Out, going, refused, repeated, kept, noted, push, settle, nothing_yet}
use Rattle.walk.specs.Reading.{Reading, refuses, succeeds, nodes_kept, attributes_kept, zero_note, reading_by, settled_in, reading}
use Rattle.listing_text.specs.Size.{listed_bytes}
use Rattle.listing_text.specs.Printed.{listing_answer}
use Rattle.listing_text.proofs.Lengths.{listing_text-fits}
use Rattle.listed.specs.Roomy.{Roomy}
use Rattle.listed.specs.Lists.{listed_room, listed, listed_text, Lists}

-- ---- events settled in tables

pub record Held (r : Room) (t : Tables) : Type 0 where
  pub nodes : length t.nodes ≤ r.nodes
  pub attributes : length t.attributes ≤ r.attributes
  pub notes : length t.notes ≤ r.notes

abbrev pub InHeld : Room → Out → Type 0
InHeld r (going t) = Held r t
InHeld r (refused x) = Unit {0}

module _ (rule : Rule) (r : Room) where
  push-held : (t : Tables) (e : Event) → Held r t → InHeld r (push rule r (going t) e)
  push-held t Nothing h = h
  push-held t Finish h = h
  push-held t (LeftOut n) h = h
  push-held t (Refuse x) h = tt
  push-held t Close h = record { nodes = h.nodes; attributes = h.attributes; notes = h.notes }
  push-held t (Open name fixed line) h =
      cond-by (InHeld r) (leb (length t.nodes + node_width) r.nodes)
      (λ e. record {
        nodes = rw length-append (omega (arith, leb-true (length t.nodes + node_width) r.nodes e));
        attributes = h.attributes;
        notes = h.notes;
      })
      (λ e. tt)
  push-held t (Attribute p a) h =
      cond-by (InHeld r) (eqb (length t.nodes) 0) (λ e. h)
      (λ n. cond-by (InHeld r) (repeated rule t p a) {x = going t}
      {y = cond (leb (length t.attributes + attribute_width) r.attributes) (going (kept t p a)) (refused (AttributesFull (r.attributes / attribute_width)))}
      (λ e. h)
      (λ k. cond-by (InHeld r) (leb (length t.attributes + attribute_width) r.attributes) {x = going (kept t p a)}
      {y = refused (AttributesFull (r.attributes / attribute_width))}
      (λ e. record {
        nodes = rw length-set h.nodes;
        attributes = rw length-append (omega (arith, leb-true (length t.attributes + attribute_width) r.attributes e));
        notes = h.notes;
      })
      (λ e. tt)))
  push-held t (Note x) h =
      cond-by (InHeld r) (ltb (get_or t.counts (kind_index x) 0) r.cap)
      (λ d. cond-by (InHeld r) (ltb (length t.notes) r.notes) {x = going (noted t x)} {y = refused (NotesFull r.notes)}
      (λ e. record { nodes = h.nodes; attributes = h.attributes; notes = rw length-append (omega (arith, ltb-true (length t.notes) r.notes e)) })
      (λ e. tt))
      (λ d. h)

  settle-held : (o : Out) (es : List Event) → InHeld r o → InHeld r (settle rule r o es)
  unfolding settle
  settle-held o [] h = h
  settle-held (refused x) (e ∷ es) h = settle-held (refused x) es tt
  settle-held (going t) (e ∷ es) h = settle-held (push rule r (going t) e) es (push-held t e h)

-- ---- what a reading leaves

pub record Left (r : Room) (g : Reading) : Type 0 where
  pub nodes : length g.nodes ≤ r.nodes
  pub attributes : length g.attributes ≤ r.attributes
  pub notes : length g.notes ≤ r.notes

refuses-le : (r : Room) (x : Refusal) → Left r (refuses r x)
refuses-le r x = record {
  nodes = rw (length-replicate {A = ℕ} r.nodes 0) (omega arith);
  attributes = rw (length-replicate {A = ℕ} r.attributes 0) (omega arith);
  notes = rw (length-replicate r.notes zero_note) (omega arith);
}

-- the first k of a list that has no more than n, and zeros up to n
padded-le : (k n : ℕ) (l : List ℕ) → length l ≤ n → length (take k l ++ replicate (n - k) 0) ≤ n
padded-le k n l h = rw (length-append, length-take, length-replicate {A = ℕ} (n - k) 0) (omega arith)

succeeds-le : (r : Room) (t : Tables) → Held r t → Left r (succeeds r t)
succeeds-le r t h = record {
  nodes = padded-le (node_width * nodes_kept t) r.nodes t.nodes h.nodes;
  attributes = padded-le (attribute_width * attributes_kept t) r.attributes t.attributes h.attributes;
  notes = rw (length-append, length-replicate (r.notes - length t.notes) zero_note) (omega (arith, h.notes));
}

reading_by-le : (r : Room) (o : Out) (c : Check) → InHeld r o → Left r (reading_by r o c)
reading_by-le r (going t) passes h = succeeds-le r t h
reading_by-le r (refused x) passes h = refuses-le r x
reading_by-le r o (fails x) h = refuses-le r x

pub reading-le : (r : Room) (f : List ℕ) (lent : Lent) → Left r (reading r f lent)
unfolding reading
reading-le r f lent =
    reading_by-le r (settled_in r f lent (opened_of f)) (first_of (entry_checks f lent (reading_at r.cap r.mode)))
    (settle-held _ r nothing_yet _ (record { nodes = omega arith; attributes = omega arith; notes = omega arith }))

-- ---- the text of a listing

listed_le : (f : List ℕ) (ns ats : ℕ) → Left (listed_room ns ats) (listed f ns ats)
unfolding listed
listed_le f ns ats =
    cond-by (Left (listed_room ns ats)) (ltb listed_file (length f)) (λ e. refuses-le (listed_room ns ats) TooLargeError)
    (λ e. reading-le (listed_room ns ats) f (lends [] []))

pub listed_text-fits :
    (f : List ℕ) (ns ats : ℕ) → ns ≤ node_width * listed_nodes → ats ≤ attribute_width * listed_attributes → length (listed_text f ns ats) ≤ listed_bytes
listed_text-fits f ns ats h i =
    let g = listed f ns ats in
    let l = listed_le f ns ats in
    listing_text-fits listed_cap (numbers_of g.answer) g.nodes g.attributes g.notes (omega (arith, l.nodes)) (omega (arith, l.attributes))
    l.notes

-- ---- so that the answer is a text

module _ (f ns ats before ns' ats' after : List ℕ) where
  pub lists-text : (r : Result ℕ Refusal) (n : ℕ) → r ≡ Ok n → Lists f ns ats before r ns' ats' after → Lists f ns ats before (Ok n) ns' ats' after
  lists-text r n e h = rw e at h

  module _ (room : Roomy (length ns) (length ats) (length before)) where
    fits : length (listed_text f (length ns) (length ats)) ≤ length before
    fits =
        let h = listed_text-fits f (length ns) (length ats) (omega (arith, room.nodes)) (omega (arith, room.attributes)) in
        omega (arith, h, room.out)

    pub lists-answer : (r : Result ℕ Refusal) → Lists f ns ats before r ns' ats' after → r ≡ Ok (length (listed_text f (length ns) (length ats)))
    unfolding listing_answer
    lists-answer r h =
        lines_numbers_of-unique r (Ok (length (listed_text f (length ns) (length ats))))
        (h.printed.answer ∙ rw (le-leb (length (listed_text f (length ns) (length ats))) (length before) fits))

    pub lists-never : (r : Result ℕ Refusal) (x : Refusal) → r ≡ Err x → Lists f ns ats before r ns' ats' after → ⊥
    lists-never r x e h =
        let q : Err x ≡ Ok (length (listed_text f (length ns) (length ats))) = sym e ∙ lists-answer r h in
        let z : ◌≡◌ {A = ℕ} 1 0 = cc in
        let w : ⊥ = omega arith in
        w

    pub lists-le : (n : ℕ) → Lists f ns ats before (Ok n) ns' ats' after → n ≤ length before
    lists-le n h =
        let q : Ok n ≡ Ok (length (listed_text f (length ns) (length ats))) = lists-answer (Ok n) h in
        let e : n ≡ length (listed_text f (length ns) (length ats)) = cc in
        omega (arith, fits)
