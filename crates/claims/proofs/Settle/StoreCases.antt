-- What `push` makes of one event, taken apart: docs/FORMAT.md, B3 to B6, B9 to B14. Of all events: proofs/Settle/StoreAll.antt. No contract cites this file.
--
--   Full, Stays    refusals 8, 9 and 10; an event that does not refuse
--   Stored         what an event leaves that has its place: tables that are grown, and the notes that the cap keeps
--   Fits           there is room for it
--   push-tells     one event is stored; or it is refused, and if it did not refuse itself, then for want of room
use Prim.Native.Nat.{ℕ, ◌+◌, ◌≤◌}
use native.Mathlib.Omega.{arith}
use mathlib.Core.Path.{◌≡◌, refl, sym, ◌∙◌}
use mathlib.Core.List.{List, [], ◌∷◌, ◌++◌, append-nil, map}
use mathlib.Core.Bool.{true, false}
use borrow.Author.Tests.{leb-false, ltb-false}
use lib.ListN.{length, length-append}
use lib.Dec.{ltb, leb}
use Rattle.anomaly.specs.Note.{note_of}
use Rattle.anomaly.specs.Kept.{kept_from}
use Rattle.anomaly.specs.declared.ResAnomaly.{ResAnomaly}
use Rattle.anomaly.proofs.Laws.{kept_from-due, kept_from-past}
use Rattle.errors.specs.Refusal.{refusal_number}
use Rattle.errors.specs.declared.Refusal.{Refusal}
use Rattle.events.specs.declared.Event.{Event}
use Rattle.records.specs.Words.{node_width, attribute_width}
use Rattle.records.specs.Repeats.{Rule}
use Rattle.walk.specs.Settle.{Room, Tables, Out, going, refused, push}
use Rattle.claims.specs.Room.{is_full}
use Rattle.claims.specs.Counts.{event_note}
use Rattle.claims.proofs.Events.Refusals.{RefuseOf, AllRefuse}
use Rattle.claims.proofs.Settle.TableGrowth.{bare, grow}
use Rattle.claims.proofs.Settle.ByEvent.{push-cases}

-- refusals 8, 9, 10
abbrev pub Full : Refusal → Type 0
Full x = is_full x ≡ true

-- no event refuses
abbrev pub Stays : Event → Type 0
Stays e = RefuseOf (λ x. ⊥) e

abbrev pub AllStay : List Event → Type 0
AllStay es = AllRefuse (λ x. ⊥) es

-- more than there is room for, by the two tests of `push`
over : (n room : ℕ) → leb n room ≡ false → n ≤ room → ⊥
over n room e h = omega (arith, leb-false n room e)

one-over : (n room : ℕ) → ltb n room ≡ false → n + 1 ≤ room → ⊥
one-over n room e h = omega (arith, ltb-false n room e)

module _ (rule : Rule) (r : Room) where
  -- the notes that are kept of those to come
  abbrev pub kept_of : Tables → List ResAnomaly → List ResAnomaly
  kept_of t ns = kept_from r.cap t.counts ns

  -- ---- one event

  pub record Stored (t : Tables) (e : Event) (t' : Tables) : Type 0 where
    pub tree : bare t' ≡ grow rule (bare t) e
    pub notes : t'.notes ≡ t.notes ++ map note_of (kept_of t (event_note e))
    pub counts : (ns : List ResAnomaly) → kept_of t (event_note e ++ ns) ≡ kept_of t (event_note e) ++ kept_of t' ns
    pub stays : Stays e

  -- there is room for it
  pub record Fits (t : Tables) (e : Event) : Type 0 where
    pub nodes : length (grow rule (bare t) e).nodes ≤ r.nodes
    pub attributes : length (grow rule (bare t) e).attributes ≤ r.attributes
    pub notes : length t.notes + length (kept_of t (event_note e)) ≤ r.notes

  abbrev pub Tells : Tables → Event → Out → Type 0
  Tells t e (going t') = Stored t e t'
  Tells t e (refused x) = Stays e → Full x × (Fits t e → ⊥)

  -- an event that is no note
  silent : {t : Tables} {e : Event} {t' : Tables} → bare t' ≡ grow rule (bare t) e → t'.notes ≡ t.notes → t'.counts ≡ t.counts → event_note e ≡ []
      → Stays e → Stored t e t'
  unfolding kept_from
  silent {t = t} g o c n s = record { tree = g; notes = o ∙ rw n (sym (append-nil t.notes)); counts = λ ns. rw (n, c); stays = s }

  pub push-tells : (t : Tables) (e : Event) → Tells t e (push rule r (going t) e)
  unfolding kept_from refusal_number
  push-tells t e =
      push-cases rule r t (Tells t) (record {
        makes-nothing = silent refl refl refl refl tt;
        finishes = silent refl refl refl refl tt;
        leaves-out = λ n. silent refl refl refl refl tt;
        refuses = λ x s. absurd s;
        closes = silent refl refl refl refl tt;
        opens = λ n f l e. silent refl refl refl refl tt;
        no_node = λ n f l e s. (refl, λ h. over (length t.nodes + node_width) r.nodes e (rw length-append at h.nodes));
        before-all = λ p a z. silent (rw z) refl refl refl tt;
        repeats = λ p a z k. silent (rw (z, k)) refl refl refl tt;
        keeps = λ p a z k e. silent (rw (z, k)) refl refl refl tt;
        no-attribute = λ p a z k e s. (refl, λ h. over (length t.attributes + attribute_width) r.attributes e (rw (z, k, length-append) at h.attributes));
        notes = λ x d e.
            let due = kept_from-due r.cap t.counts x in
            record { tree = refl; notes = rw (due [] d); counts = λ ns. due ns d ∙ rw (due [] d); stays = tt };
        no_note = λ x d e s. (refl, λ h. one-over (length t.notes) r.notes e (rw (kept_from-due r.cap t.counts x [] d) at h.notes));
        past = λ x d.
            let past = kept_from-past r.cap t.counts x in
            record { tree = refl; notes = rw (past [] d) (sym (append-nil t.notes)); counts = λ ns. past ns d ∙ rw (past [] d); stays = tt };
      }) e
