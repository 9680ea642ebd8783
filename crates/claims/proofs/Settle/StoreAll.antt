-- What `settle` makes of all events, taken apart: docs/FORMAT.md, B3 to B6, B9 to B14. Of one event: proofs/Settle/StoreCases.antt. No contract cites this file.
--
--   Settles, settled   a success says the tables and the notes
--   settle-tells       a refusal is for want of room, or stood among the events
--   settle-roomy       where there is room (`Roomy`) and no event refuses, it is a success (`Going`)
--   SameButNotes       what two lists of events leave that differ in their notes alone; settle-same: the second leaves it, or is without room
--   same-roomy         where there is room for the first, and for the notes of the second
use Prim.Native.Nat.{ℕ, ◌+◌, ◌≤◌}
use native.Mathlib.Omega.{arith}
use native.Mathlib.Nat.{le_trans}
use mathlib.Core.Path.{◌≡◌, refl, sym, ◌∙◌, ap, subst}
use mathlib.Core.List.{List, [], ◌∷◌, ◌++◌, append_assoc, append-nil, map, map-append}
use mathlib.Core.Bool.{Bool, true, false}
use lib.ListN.{length, length-append, length-map}
use Rattle.anomaly.specs.Note.{kind_index, note_of}
use Rattle.anomaly.specs.Kept.{is_due, none, kept_from, kept_notes, counted}
use Rattle.anomaly.specs.declared.Note.{Note as NoteOf}
use Rattle.anomaly.specs.declared.ResAnomaly.{ResAnomaly}
use Rattle.anomaly.proofs.Laws.{kept_from-due, kept_from-past}
use Rattle.records.specs.Repeats.{Rule}
use Rattle.events.specs.declared.Event.{Event}
use Rattle.walk.specs.Settle.{Room, Tables, Out, going, refused, push, settle, nothing_yet}
use Rattle.walk.proofs.Settle.{settle-refused}
use Rattle.claims.specs.Counts.{event_note, event_notes}
use Rattle.claims.proofs.Events.NotesAndOthers.{others_in}
use Rattle.claims.proofs.Events.Refusals.{refuse-others, others-refuse}
use Rattle.claims.proofs.Settle.TableGrowth.{bare, grow, grown, grown-others, grown-more}
use Rattle.claims.proofs.Settle.StoreCases.{Full, Stays, AllStay, kept_of, Stored, Tells, push-tells, Fits}

-- of more notes a cap keeps no fewer
kept-front : (cap : ℕ) (a b : List ResAnomaly) (counts : List ℕ) → length (kept_from cap counts a) ≤ length (kept_from cap counts (a ++ b))
unfolding kept_from
kept-front cap [] b counts = omega arith
kept-front cap (x ∷ a) b counts =
    go (is_due cap counts (kind_index x)) refl (kept-front cap a b counts) (kept-front cap a b (counted counts (kind_index x)))
  where
    go : (c : Bool) → is_due cap counts (kind_index x) ≡ c → length (kept_from cap counts a) ≤ length (kept_from cap counts (a ++ b))
        → length (kept_from cap (counted counts (kind_index x)) a) ≤ length (kept_from cap (counted counts (kind_index x)) (a ++ b))
        → length (kept_from cap counts (x ∷ a)) ≤ length (kept_from cap counts (x ∷ (a ++ b)))
    go true d p q = rw (kept_from-due cap counts x a d, kept_from-due cap counts x (a ++ b) d) (omega (arith, q))
    go false d p q = rw (kept_from-past cap counts x a d, kept_from-past cap counts x (a ++ b) d) p

abbrev pub Going : Out → Type 0
Going (going t) = Unit {0}
Going (refused x) = ⊥

module _ (rule : Rule) (r : Room) where
  pub record Settles (t : Tables) (es : List Event) (u : Tables) : Type 0 where
    pub tree : bare u ≡ grown rule (bare t) es
    pub notes : u.notes ≡ t.notes ++ map note_of (kept_of rule r t (event_notes es))
    pub stay : AllStay es

  abbrev pub TellsAll : Tables → List Event → Out → Type 0
  TellsAll t es (going u) = Settles t es u
  TellsAll t es (refused x) = AllStay es → Full x

  -- ---- what a result says

  module _ (t : Tables) (e : Event) (es : List Event) where
    then-more : (t' : Tables) → Stored rule r t e t' → (o : Out) → TellsAll t' es o → TellsAll t (e ∷ es) o
    then-more t' p (refused x) s = λ h. s h.1
    then-more t' p (going u) s = record {
      tree = s.tree ∙ ap (λ (b : Tables). grown rule b es) p.tree;
      notes =
          s.notes ∙ ap (λ (l : List NoteOf). l ++ map note_of rest) p.notes ∙ append_assoc t.notes (map note_of here) (map note_of rest)
          ∙ ap (λ (l : List NoteOf). t.notes ++ l) (sym (ap (map note_of) (p.counts (event_notes es)) ∙ map-append note_of here rest));
      stay = (p.stays, s.stay);
    }
      where
        here : List ResAnomaly
        here = kept_of rule r t (event_note e)

        rest : List ResAnomaly
        rest = kept_of rule r t' (event_notes es)

    tells-step : (o : Out) → Tells rule r t e o → ((t' : Tables) → TellsAll t' es (settle rule r (going t') es)) → TellsAll t (e ∷ es) (settle rule r o es)
    tells-step (refused x) p rec = rw (settle-refused rule r x es) (λ h. (p h.0).0)
    tells-step (going t') p rec = then-more t' p (settle rule r (going t') es) (rec t')

  pub settle-tells : (es : List Event) (t : Tables) → TellsAll t es (settle rule r (going t) es)
  unfolding settle kept_from
  settle-tells [] t = record { tree = refl; notes = sym (append-nil t.notes); stay = tt }
  settle-tells (e ∷ es) t = tells-step t e es (push rule r (going t) e) (push-tells rule r t e) (settle-tells es)

  -- ---- where there is room

  pub record Roomy (t : Tables) (es : List Event) : Type 0 where
    pub nodes : length (grown rule (bare t) es).nodes ≤ r.nodes
    pub attributes : length (grown rule (bare t) es).attributes ≤ r.attributes
    pub notes : length t.notes + length (kept_of rule r t (event_notes es)) ≤ r.notes

  module _ (t : Tables) (e : Event) (es : List Event) (room : Roomy t (e ∷ es)) where
    roomy-rest : (t' : Tables) → Stored rule r t e t' → Roomy t' es
    roomy-rest t' p = record {
      nodes = rw p.tree room.nodes;
      attributes = rw p.tree room.attributes;
      notes =
          let here = kept_of rule r t (event_note e) in
          let rest = kept_of rule r t' (event_notes es) in
          let all = rw (p.counts (event_notes es), length-append) at room.notes in
          rw (p.notes, length-append, length-map) (omega (arith, all));
    }

    roomy-here : Fits rule r t e
    roomy-here =
        let more = grown-more rule es (grow rule (bare t) e) in
        record {
          nodes = le_trans more.nodes room.nodes;
          attributes = le_trans more.attributes room.attributes;
          notes = omega (arith, kept-front r.cap (event_note e) (event_notes es) t.counts, room.notes);
        }

    roomy-step : Stays e → (o : Out) → Tells rule r t e o → ((t' : Tables) → Roomy t' es → Going (settle rule r (going t') es)) → Going (settle rule r o es)
    roomy-step s (refused x) p rec = absurd ((p s).1 roomy-here)
    roomy-step s (going t') p rec = rec t' (roomy-rest t' p)

  pub settle-roomy : (es : List Event) (t : Tables) → AllStay es → Roomy t es → Going (settle rule r (going t) es)
  unfolding settle
  settle-roomy [] t h room = tt
  settle-roomy (e ∷ es) t h room = roomy-step t e es room h.0 (push rule r (going t) e) (push-tells rule r t e) (λ t' q. settle-roomy es t' h.1 q)

-- ---- two lists of events that differ in their notes alone

abbrev pub empty : Tables
empty = record { nodes = []; attributes = []; first = 0; stack = []; notes = []; counts = none }

-- u, settled from es, and u', settled from es' in tables of the room r'
pub record SameButNotes (r' : Room) (es' : List Event) (u u' : Tables) : Type 0 where
  pub tree : bare u' ≡ bare u
  pub notes : u'.notes ≡ map note_of (kept_notes r'.cap (event_notes es'))

module _ (rule : Rule) (r : Room) (es : List Event) (u : Tables) (base : settle rule r nothing_yet es ≡ going u) where
  pub settled : Settles rule r empty es u
  settled = subst (TellsAll rule r empty es) base (settle-tells rule r es empty)

  module _ (r' : Room) (es' : List Event) (others : others_in es' ≡ others_in es) where
    same-grown : grown rule (bare empty) es' ≡ grown rule (bare empty) es
    same-grown = grown-others rule (bare empty) es' ∙ ap (grown rule (bare empty)) others ∙ sym (grown-others rule (bare empty) es)

    pub same-stay : AllStay es'
    same-stay = others-refuse (λ x. ⊥) es' (rw others (refuse-others (λ x. ⊥) es settled.stay))

    abbrev pub SameOrFull : Out → Type 0
    SameOrFull (going u') = SameButNotes r' es' u u'
    SameOrFull (refused x) = Full x

    same-or-full : (o : Out) → TellsAll rule r' empty es' o → SameOrFull o
    same-or-full (refused x) s = s same-stay
    same-or-full (going u') s = record { tree = s.tree ∙ same-grown ∙ sym settled.tree; notes = s.notes }

    pub settle-same : SameOrFull (settle rule r' nothing_yet es')
    settle-same = same-or-full (settle rule r' nothing_yet es') (settle-tells rule r' es' empty)

    -- tables that are no smaller have room, if that of the notes has
    pub same-roomy : length u.nodes ≤ r'.nodes → length u.attributes ≤ r'.attributes
        → length (kept_notes r'.cap (event_notes es')) ≤ r'.notes → Going (settle rule r' nothing_yet es')
    same-roomy n a o =
        let g : grown rule (bare empty) es' ≡ bare u = same-grown ∙ sym settled.tree in
        settle-roomy rule r' es' empty same-stay (record { nodes = rw g n; attributes = rw g a; notes = omega (arith, o) })
