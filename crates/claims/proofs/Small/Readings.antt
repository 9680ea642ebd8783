-- 32 bits hold each number of a reading of bytes: docs/FORMAT.md, B9 to B14, L9. For proofs/Calls/ListingBack.antt. No contract cites this file.
--
--   In32          32 bits hold each number of a reading: of its answer, and every word of its tables
--   Fitting       tables whose words all fit, with no more in them than their room; whatever events that fit are settled, they stay so
--   listed-in32   so it is of every reading that the listing program makes, read or refused, of a file of bytes
--
-- The model's bytes are numbers without a bound, so that they are bytes is what the law asks of the file, and nothing else.
use Prim.Native.Nat.{ℕ, zero, suc, ◌+◌, ◌-◌, ◌*◌, ◌/◌, ◌≤◌}
use native.Mathlib.Omega.{arith}
use mathlib.Core.Path.{◌≡◌, refl, sym, ◌∙◌, ap, subst}
use mathlib.Core.List.{List, [], ◌∷◌, ◌++◌}
use mathlib.Core.Bool.{Bool, true, false, cond}
use borrow.Author.Tests.{ltb-false}
use lib.ListN.{length, take, drop, get_or, set, replicate, length-append, length-set, length-drop, take-append-drop}
use lib.Dec.{ltb, eqb}
use Rattle.anomaly.specs.Note.{note_of}
use Rattle.anomaly.specs.declared.Note.{Note as NoteOf}
use Rattle.errors.specs.Refusal.{refusal_value, numbers_of}
use Rattle.errors.specs.declared.Refusal.{Refusal}
use Rattle.errors.specs.declared.Refusal.TheVariants.{TooLargeError}
use Rattle.records.specs.Limits.{listed_file}
use Rattle.records.specs.Words.{node_width, node_first, attribute_width, apart, own_prefix}
use Rattle.system_types.specs.Names.{lends, names_from}
use Rattle.utf.specs.Text.{Damage, whole, replaced, unpaired, cut, state_number}
use Rattle.text.specs.Content.{Content, content_of, has_text, is_android, damage_in}
use Rattle.head.specs.declared.Asker.TheVariants as askers
use Rattle.head.specs.Head.{opened_of, tables_in, body_in, head_len}
use Rattle.head.specs.Entry.{reading_at, Check, passes, fails, first_of, entry_checks}
use Rattle.xml_elements.proofs.Laws.{cond-by}
use Rattle.events.specs.declared.Event.{Event}
use Rattle.events.specs.Events.{prefix_in, names_in, file_events}
use Rattle.walk.specs.Settle.{Room, Tables, Out, going, refused, parent_in, closed_in, nothing_yet}
use Rattle.walk.specs.Reading.{Reading, zero_note, refuses, Dropped, none_dropped, dropped_from, dropped_in, nodes_kept_by, attributes_kept_by, nodes_kept, attributes_kept, succeeds, reading_by, settled_in, reading}
use Rattle.listed.specs.Lists.{listed_room, listed}
use Rattle.c_api.specs.Words.{words_of}
use Rattle.listing_back.specs.Due.{any_over}
use Rattle.listing_back.proofs.Lines.{any_over-first, any_over-others, neither}
use Rattle.listing_back.proofs.Steps.{any_over-cons, any_over-append, no-over}
use Rattle.claims.specs.Readers.{all_below}
use Rattle.claims.proofs.Calls.Listing.{listed-long, listed-short}
use Rattle.claims.proofs.Settle.ByEvent.{InOut, Goes, Stops, settle-by}
use Rattle.claims.proofs.Small.Bytes.{Fits, InBytes, below-bytes, drop-bytes}
use Rattle.claims.proofs.Small.Head.{opened-small}
use Rattle.claims.proofs.Small.Events.{SmallNote, Small, file-small}
use Rattle.claims.proofs.Settle.EntryChecks.{Under, first_under, length-under, cap-under, mode-under}

pub record In32 (g : Reading) : Type 0 where
  pub value : any_over ((numbers_of g.answer).value ∷ (numbers_of g.answer).starts ∷ []) ≡ false
  pub counts : any_over ((numbers_of g.answer).nodes ∷ (numbers_of g.answer).attributes ∷ (numbers_of g.answer).notes ∷ []) ≡ false
  pub nodes : any_over g.nodes ≡ false
  pub attributes : any_over g.attributes ≡ false
  pub notes : any_over (words_of g.notes) ≡ false

-- ---- words that fit

over-both : (a b : List ℕ) → any_over a ≡ false → any_over b ≡ false → any_over (a ++ b) ≡ false
over-both a b p q = any_over-append a b ∙ rw (p, q)

over-at : (l : List ℕ) (i : ℕ) → any_over l ≡ false → Fits (get_or l i 0)
over-at [] i h = omega arith
over-at (x ∷ l) zero h = any_over-first x l h
over-at (x ∷ l) (suc i) h = over-at l i (any_over-others x l h)

over-set : (l : List ℕ) (i v : ℕ) → Fits v → any_over l ≡ false → any_over (set l i v) ≡ false
over-set [] i v f h = h
over-set (x ∷ l) zero v f h = any_over-cons v l f (any_over-others x l h)
over-set (x ∷ l) (suc i) v f h = any_over-cons x (set l i v) (any_over-first x l h) (over-set l i v f (any_over-others x l h))

over_zeros : (n : ℕ) → any_over (replicate n 0) ≡ false
over_zeros zero = no-over
over_zeros (suc n) = any_over-cons 0 (replicate n 0) (omega arith) (over_zeros n)

pub over-take : (n : ℕ) (l : List ℕ) → any_over l ≡ false → any_over (take n l) ≡ false
over-take n l h =
    (neither (any_over (take n l)) (any_over (drop n l)) (sym (any_over-append (take n l) (drop n l)) ∙ (ap any_over (take-append-drop n l) ∙ h))).0

over-six : (a b c d e f : ℕ) → Fits a → Fits b → Fits c → Fits d → Fits e → Fits f → any_over (a ∷ b ∷ c ∷ d ∷ e ∷ f ∷ []) ≡ false
over-six a b c d e f p q r s t u =
    any_over-cons a _ p (any_over-cons b _ q (any_over-cons c _ r (any_over-cons d _ s (any_over-cons e _ t (any_over-cons f [] u no-over)))))

-- ---- notes that fit

abbrev SmallNotes : List NoteOf → Type 0
SmallNotes [] = Unit {0}
SmallNotes (o ∷ os) = SmallNote o × SmallNotes os

notes-both : (a b : List NoteOf) → SmallNotes a → SmallNotes b → SmallNotes (a ++ b)
notes-both [] b p q = q
notes-both (o ∷ a) b p q = (p.0, notes-both a b p.1 q)

notes-zeros : (n : ℕ) → SmallNotes (replicate n zero_note)
notes-zeros zero = tt
notes-zeros (suc n) = (record { kind = omega arith; first = omega arith; second = omega arith }, notes-zeros n)

notes-over : (os : List NoteOf) → SmallNotes os → any_over (words_of os) ≡ false
unfolding words_of
notes-over [] h = no-over
notes-over (o ∷ os) h =
    any_over-cons o.kind _ h.0.kind (any_over-cons o.a _ h.0.first (any_over-cons o.b (words_of os) h.0.second (notes-over os h.1)))

-- ---- events settled in tables

record Fitting (r : Room) (es : List Event) (t : Tables) : Type 0 where
  small : Small es
  nodes : any_over t.nodes ≡ false
  attributes : any_over t.attributes ≡ false
  stack : any_over t.stack ≡ false
  notes : SmallNotes t.notes
  few_nodes : length t.nodes ≤ r.nodes
  few_attributes : length t.attributes ≤ r.attributes
  few_notes : length t.notes ≤ r.notes

abbrev Told : Refusal → Type 0
Told x = Fits (refusal_value x)

parent-fits : (s : List ℕ) → any_over s ≡ false → Fits (parent_in s)
parent-fits [] h = omega arith
parent-fits (k ∷ s) h = any_over-first k s h

closed-fits : (s : List ℕ) → any_over s ≡ false → any_over (closed_in s) ≡ false
closed-fits [] h = h
closed-fits (k ∷ []) h = h
closed-fits (k ∷ j ∷ s) h = any_over-others k (j ∷ s) h

kept-fits : (n : ℕ) → Fits n → (s : List ℕ) → any_over s ≡ false → Fits (nodes_kept_by n (dropped_in s))
kept-fits n f [] h = f
kept-fits n f (k ∷ []) h = f
kept-fits n f (k ∷ j ∷ []) h = any_over-first k (j ∷ []) h
kept-fits n f (k ∷ j ∷ i ∷ s) h = kept-fits n f (j ∷ i ∷ s) (any_over-others k (j ∷ i ∷ s) h)

module _ (r : Room) (room_nodes : Fits r.nodes) (room_attributes : Fits r.attributes) (room_notes : Fits r.notes) where
  goes : Goes r (Fitting r)
  goes = record {
    idles = λ t e es i h. record {
      small = h.small.1;
      nodes = h.nodes;
      attributes = h.attributes;
      stack = h.stack;
      notes = h.notes;
      few_nodes = h.few_nodes;
      few_attributes = h.few_attributes;
      few_notes = h.few_notes;
    };
    closes = λ t es h. record {
      small = h.small.1;
      nodes = h.nodes;
      attributes = h.attributes;
      stack = closed-fits t.stack h.stack;
      notes = h.notes;
      few_nodes = h.few_nodes;
      few_attributes = h.few_attributes;
      few_notes = h.few_notes;
    };
    opens = λ t es n f l g h. record {
      small = h.small.1;
      nodes = over-both t.nodes _ h.nodes
          (over-six n.0 f (parent_in t.stack) (length t.attributes / attribute_width) 0 l h.small.0.0 h.small.0.1 (parent-fits t.stack h.stack)
          (omega (arith, h.few_attributes, room_attributes)) (omega arith) h.small.0.2);
      attributes = h.attributes;
      stack = any_over-cons (length t.nodes / node_width) t.stack (omega (arith, h.few_nodes, room_nodes)) h.stack;
      notes = h.notes;
      few_nodes = rw length-append (omega (arith, g));
      few_attributes = h.few_attributes;
      few_notes = h.few_notes;
    };
    keeps = λ t es p a some g h. record {
      small = h.small.1;
      nodes = over-set t.nodes _ ((length t.attributes + attribute_width - t.first) / attribute_width) (omega (arith, g, room_attributes)) h.nodes;
      attributes = over-both t.attributes _ h.attributes
          (over-six (length t.nodes / node_width - 1) p a.name.0 a.data_type a.«data» a.namespace_uri.0 (omega (arith, h.few_nodes, room_nodes)) h.small.0.0
          h.small.0.1.name h.small.0.1.sort h.small.0.1.value h.small.0.1.space);
      stack = h.stack;
      notes = h.notes;
      few_nodes = rw length-set h.few_nodes;
      few_attributes = rw length-append (omega (arith, g));
      few_notes = h.few_notes;
    };
    notes = λ t es x d g h. record {
      small = h.small.1;
      nodes = h.nodes;
      attributes = h.attributes;
      stack = h.stack;
      notes = notes-both t.notes (note_of x ∷ []) h.notes (h.small.0, tt);
      few_nodes = h.few_nodes;
      few_attributes = h.few_attributes;
      few_notes = rw length-append (omega (arith, g));
    };
    past = λ t es x d h. record {
      small = h.small.1;
      nodes = h.nodes;
      attributes = h.attributes;
      stack = h.stack;
      notes = h.notes;
      few_nodes = h.few_nodes;
      few_attributes = h.few_attributes;
      few_notes = h.few_notes;
    };
  }

  stops : Stops r (Fitting r) Told
  unfolding refusal_value
  stops = record {
    refuses = λ t es x h. h.small.0;
    nodes = λ t es n f l g h. omega (arith, room_nodes);
    attributes = λ t es p a g h. omega (arith, room_attributes);
    notes = λ t es x d g h. room_notes;
  }

  -- ---- what a reading leaves

  refused-in32 : (x : Refusal) → Told x → In32 (refuses r x)
  unfolding numbers_of
  refused-in32 x h = record {
    value = any_over-cons (refusal_value x) _ h (any_over-cons 0 [] (omega arith) no-over);
    counts = any_over-cons 0 _ (omega arith) (any_over-cons 0 _ (omega arith) (any_over-cons 0 [] (omega arith) no-over));
    nodes = over_zeros r.nodes;
    attributes = over_zeros r.attributes;
    notes = notes-over _ (notes-zeros r.notes);
  }

  nodes-kept : (t : Tables) → Fitting r [] t → Fits (nodes_kept t)
  nodes-kept t h = kept-fits (length t.nodes / node_width) (omega (arith, h.few_nodes, room_nodes)) t.stack h.stack

  attributes-kept : (t : Tables) → Fitting r [] t → Fits (attributes_kept t)
  attributes-kept t h = go (dropped_in t.stack)
    where
      go : (d : Dropped) → Fits (attributes_kept_by t.nodes (length t.attributes / attribute_width) d)
      go none_dropped = omega (arith, h.few_attributes, room_attributes)
      go (dropped_from k) = over-at t.nodes (node_width * k + node_first) h.nodes

  done-in32 : (t : Tables) → Fitting r [] t → In32 (succeeds r t)
  unfolding numbers_of
  done-in32 t h = record {
    value = any_over-cons 0 _ (omega arith) (any_over-cons (length t.nodes / node_width) [] (omega (arith, h.few_nodes, room_nodes)) no-over);
    counts = any_over-cons (nodes_kept t) _ (nodes-kept t h)
        (any_over-cons (attributes_kept t) _ (attributes-kept t h) (any_over-cons (length t.notes) [] (omega (arith, h.few_notes, room_notes)) no-over));
    nodes = over-both _ _ (over-take (node_width * nodes_kept t) t.nodes h.nodes) (over_zeros (r.nodes - node_width * nodes_kept t));
    attributes = over-both _ _ (over-take (attribute_width * attributes_kept t) t.attributes h.attributes)
        (over_zeros (r.attributes - attribute_width * attributes_kept t));
    notes = notes-over _ (notes-both t.notes _ h.notes (notes-zeros (r.notes - length t.notes)));
  }

  final-in32 : (o : Out) (c : Check) → InOut (Fitting r []) Told o → Under Told c → In32 (reading_by r o c)
  final-in32 (going t) passes p q = done-in32 t p
  final-in32 (refused x) passes p q = refused-in32 x p
  final-in32 o (fails x) p q = refused-in32 x q

  -- the entry checks, with no names lent: what they refuse has the value 0, or the mode
  module _ (mode : Fits r.mode) where
    entry-told : (f : List ℕ) → Under Told (first_of (entry_checks f (lends [] []) (reading_at r.cap r.mode)))
    unfolding names_from refusal_value
    entry-told f =
        let a = askers.Reading r.cap r.mode in
        first_under Told (entry_checks f (lends [] []) (reading_at r.cap r.mode))
        (length-under Told f (omega arith), (cap-under Told a (omega arith), (tt, (mode-under Told a mode, (tt, tt)))))

    prefix-fits : (c : Content) → Fits (prefix_in r.mode c)
    prefix-fits c =
        cond-by Fits (has_text c) {x = cond (eqb r.mode apart) (cond (is_android c) 1 own_prefix) 1} {y = 0}
        (λ e. cond-by Fits (eqb r.mode apart) {x = cond (is_android c) 1 own_prefix} {y = 1}
        (λ e. cond-by Fits (is_android c) {x = 1} {y = own_prefix} (λ e. omega arith) (λ e. omega arith)) (λ e. omega arith)) (λ e. omega arith)

    state-fits : (d : Damage) → Fits (state_number d)
    state-fits whole = omega arith
    state-fits (replaced n) = omega arith
    state-fits unpaired = omega arith
    state-fits cut = omega arith

    settled-in32 : (f : List ℕ) → InBytes f → Fits (8 + length f) → InOut (Fitting r []) Told (settled_in r f (lends [] []) (opened_of f))
    settled-in32 f h short =
        let o = opened_of f in
        let t = tables_in f o.head in
        let N = names_in r.mode o.head t (lends [] []) in
        let n = 8 + head_len o.head in
        settle-by N.repeats r (Fitting r) Told goes stops nothing_yet (file_events N o t (body_in f o.head)) (record {
          small =
              file-small o (opened-small f h short) t N (λ i. prefix-fits (content_of o.head t (lends [] []) i))
              (λ i. state-fits (damage_in (content_of o.head t (lends [] []) i))) (body_in f o.head) (drop-bytes n f h)
              (omega (arith, short, length-drop n f));
          nodes = no-over;
          attributes = no-over;
          stack = no-over;
          notes = tt;
          few_nodes = omega arith;
          few_attributes = omega arith;
          few_notes = omega arith;
        })

    reading-in32 : (f : List ℕ) → InBytes f → Fits (8 + length f) → In32 (reading r f (lends [] []))
    unfolding reading
    reading-in32 f h short =
        final-in32 (settled_in r f (lends [] []) (opened_of f)) (first_of (entry_checks f (lends [] []) (reading_at r.cap r.mode))) (settled-in32 f h short) (entry-told f)

-- ---- what is listed

pub listed-in32 : (f : List ℕ) (n m : ℕ) → all_below 256 f ≡ true → Fits n → Fits m → In32 (listed f n m)
unfolding refusal_value
listed-in32 f n m h p q = go (ltb listed_file (length f)) refl
  where
    go : (b : Bool) → ltb listed_file (length f) ≡ b → In32 (listed f n m)
    go true e = subst In32 (sym (listed-long f n m e)) (refused-in32 (listed_room n m) p q (omega arith) TooLargeError (omega arith))
    go false e =
        let short : length f ≤ listed_file = ltb-false listed_file (length f) e in
        subst In32 (sym (listed-short f n m e)) (reading-in32 (listed_room n m) p q (omega arith) (omega arith) f (below-bytes f h) (omega (arith, short)))
