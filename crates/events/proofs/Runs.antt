-- A stretch of foreign chunks of one sort is passed at once: behind its first chunk the others make nothing. No contract cites this file.
--
--   Passed      what the walk makes at q it makes behind the run that begins at q, which lies inside the body
--   run-passed  that is so of every place q, if the chunk before was of the run's sort
use Prim.Native.Nat.{ℕ, suc, ◌+◌, ◌-◌, ◌≤◌, ◌<◌}
use native.Mathlib.Omega.{arith}
use mathlib.Core.Path.{◌≡◌, refl, ◌∙◌}
use mathlib.Core.List.{List}
use borrow.Author.Tests.{eq-eqb}
use lib.ListN.{length, drop, length-drop}
use lib.Seq.{drop-drop}
use Rattle.common.proofs.Laws.{header_here}
use Rattle.chunk.specs.Inner.Run.{run_used, skip_run}
use Rattle.chunk.proofs.Walk.{walk-ind}
use Rattle.chunk.proofs.Laws.{run_used-fits, skip_run-stop, skip_run-step}
use Rattle.xml_elements.specs.declared.Turn.TheVariants.{Foreign}
use Rattle.xml_elements.specs.Chunk.{foreign_number, turn_of}
use Rattle.xml_elements.proofs.Laws.{turn_of-run}
use Rattle.events.specs.Events.{Names, WalkState, passed, events_on}
use Rattle.events.proofs.Model.{events_on-turn}

pub record Passed (N : Names) (b : List ℕ) (p : WalkState) (k q : ℕ) : Type 0 where
  pub same : events_on N (drop q b) (passed p k) ≡ events_on N (drop (skip_run b q k) b) (passed p k)
  pub more : q ≤ skip_run b q k
  pub fits : q ≤ length b → skip_run b q k ≤ length b

module _ (N : Names) (b : List ℕ) (p : WalkState) (k : ℕ) (small : k < 2) where
  -- one further chunk of the sort makes nothing
  one : (q m : ℕ) → run_used k (drop q b) ≡ suc m → events_on N (drop q b) (passed p k) ≡ events_on N (drop (q + suc m) b) (passed p k)
  one q m e =
      let t : turn_of (drop q b) ≡ Foreign k (foreign_number (header_here (drop q b))) (suc m) = rw e at (turn_of-run k (drop q b) small (omega arith)) in
      events_on-turn N b q (passed p k) (suc m) t refl (omega arith) ∙ rw (eq-eqb k k refl)

  stop : (l : List ℕ) (q : ℕ) → run_used k l ≡ 0 → l ≡ drop q b → Passed N b p k q
  stop l q e d =
      let u : skip_run b q k ≡ q = skip_run-stop b q k (rw d at e) in
      record { same = rw u; more = rw u (omega arith); fits = λ h. rw u h }

  more : (l : List ℕ) (q m : ℕ) → run_used k l ≡ suc m → suc m ≤ length l
      → (drop (suc m) l ≡ drop (q + run_used k l) b → Passed N b p k (q + run_used k l)) → l ≡ drop q b → Passed N b p k q
  more l q m e f rec d =
      let e' : run_used k (drop q b) ≡ suc m = rw d at e in
      let f' : suc m ≤ length b - q = rw (d, length-drop) at f in
      let rec' : drop (suc m) l ≡ drop (q + suc m) b → Passed N b p k (q + suc m) = rw e at rec in
      let r : Passed N b p k (q + suc m) = rec' (rw (d, drop-drop)) in
      let u : skip_run b q k ≡ skip_run b (q + suc m) k = skip_run-step b q k (suc m) e' (omega arith) in
      record { same = one q m e' ∙ (r.same ∙ rw u); more = rw u (omega (arith, r.more)); fits = λ h. rw u (r.fits (omega arith)) }

  pub run-passed : (q : ℕ) → Passed N b p k q
  run-passed q =
      walk-ind (λ l q. run_used k l) (λ l q. q + run_used k l) (λ l q. run_used-fits k l) (λ l q. l ≡ drop q b → Passed N b p k q) stop more (drop q b) q refl
