-- Note 12 is the last of the notes that are kept: docs/FORMAT.md, W27, B12, B13. For proofs/Lost/Theorem.antt.
--
--   kept_from-last   an anomaly behind others, whose kind none of them has, is kept behind those that are kept, where the cap keeps one
--   walked-last     so it is with note 12 at the end of a whole walk
use Prim.Native.Nat.{ℕ, ◌+◌, ◌≤◌, ◌<◌}
use native.Mathlib.Omega.{arith}
use mathlib.Core.Path.{◌≡◌, refl, sym, ◌∙◌, ap}
use mathlib.Core.List.{List, [], ◌∷◌, ◌++◌}
use mathlib.Core.Bool.{Bool, true, false, not}
use borrow.Author.Tests.{lt-ltb, ne_eqb, eqb-false}
use lib.ListN.{get_or}
use lib.Seq.{get_or-set_other}
use Rattle.anomaly.specs.Note.{kinds, kind_index, note_of}
use Rattle.anomaly.specs.Kept.{is_due, counted, none, kept_from, kept_notes}
use Rattle.anomaly.specs.declared.ResAnomaly.{ResAnomaly}
use Rattle.anomaly.specs.declared.ResAnomaly.TheVariants.{UnclosedElements}
use Rattle.anomaly.proofs.Laws.{kept_from-due, kept_from-past}
use Rattle.anomaly.proofs.Numbers.{kind-place}
use Rattle.events.specs.declared.Event.{Event}
use Rattle.events.specs.declared.Event.TheVariants.{Note}
use Rattle.events.specs.Events.{event_if}
use Rattle.claims.specs.Counts.{event_notes, depth_from}
use Rattle.claims.proofs.Events.KeptNotes.{All, all_of}
use Rattle.claims.proofs.Structure.StartDepth.{NotTwelve}
use Rattle.claims.proofs.Structure.WalkDepth.{WalkedFile}
use Rattle.claims.proofs.Structure.NoteTwelve.{last_note, walked-notes, walked-depth}
use Rattle.claims.proofs.Settle.Success.{get_d-zeros}

-- an anomaly of another kind
abbrev Unlike : ResAnomaly → ResAnomaly → Type 0
Unlike x y = kind_index y ≡ kind_index x → ⊥

kept_from-last : (cap : ℕ) (counts : List ℕ) (a : List ResAnomaly) (x : ResAnomaly) → get_or counts (kind_index x) 0 < cap → All (Unlike x) a
    → kept_from cap counts (a ++ (x ∷ [])) ≡ kept_from cap counts a ++ (x ∷ [])
unfolding kept_from
kept_from-last cap counts [] x l h = kept_from-due cap counts x [] (lt-ltb (get_or counts (kind_index x) 0) cap l)
kept_from-last cap counts (y ∷ a) x l h =
    let same = get_or-set_other counts (kind_index y) (kind_index x) (get_or counts (kind_index y) 0 + 1) 0 (λ e. h.0 (sym e)) in
    go (is_due cap counts (kind_index y)) refl (kept_from-last cap counts a x l h.1)
    (kept_from-last cap (counted counts (kind_index y)) a x (omega (arith, same)) h.1)
  where
    go : (b : Bool) → is_due cap counts (kind_index y) ≡ b → kept_from cap counts (a ++ (x ∷ [])) ≡ kept_from cap counts a ++ (x ∷ [])
        → kept_from cap (counted counts (kind_index y)) (a ++ (x ∷ [])) ≡ kept_from cap (counted counts (kind_index y)) a ++ (x ∷ [])
        → kept_from cap counts (y ∷ (a ++ (x ∷ []))) ≡ kept_from cap counts (y ∷ a) ++ (x ∷ [])
    go true d p q =
        kept_from-due cap counts y (a ++ (x ∷ [])) d ∙ ap (λ (z : List ResAnomaly). y ∷ z) q
        ∙ sym (ap (λ (z : List ResAnomaly). z ++ (x ∷ [])) (kept_from-due cap counts y a d))
    go false d p q =
        kept_from-past cap counts y (a ++ (x ∷ [])) d ∙ p
        ∙ sym (ap (λ (z : List ResAnomaly). z ++ (x ∷ [])) (kept_from-past cap counts y a d))

plain-unlike : (d : ℕ) (y : ResAnomaly) → NotTwelve y → Unlike (UnclosedElements d) y
unfolding note_of
plain-unlike d y h = eqb-false _ _ (sym (kind-place y (UnclosedElements d)) ∙ ne_eqb (note_of y).kind 12 h)

module _ (es : List Event) (w : WalkedFile es) (cap : ℕ) where
  pub walked-last : 1 ≤ cap → (depth_from 0 es ≡ 0 → ⊥)
      → kept_notes cap (event_notes es) ≡ kept_notes cap (event_notes w.body) ++ (UnclosedElements (depth_from 0 es) ∷ [])
  walked-last one some =
      let d = w.depth in
      let deep : d ≡ depth_from 0 es = sym (walked-depth es w) in
      let last : event_notes (last_note d) ≡ UnclosedElements d ∷ [] =
      ap (λ (b : Bool). event_notes (event_if (not b) (Note (UnclosedElements d)))) (ne_eqb d 0 (λ z. some (sym deep ∙ z))) in
      ap (kept_notes cap) (walked-notes es w ∙ ap (λ (z : List ResAnomaly). event_notes w.body ++ z) last)
      ∙ kept_from-last cap none (event_notes w.body) (UnclosedElements d) (omega (arith, get_d-zeros kinds (kind_index (UnclosedElements d)), one))
      (all_of NotTwelve (Unlike (UnclosedElements d)) (plain-unlike d) (event_notes w.body) w.plain)
      ∙ ap (λ (n : ℕ). kept_notes cap (event_notes w.body) ++ (UnclosedElements n ∷ [])) deep
