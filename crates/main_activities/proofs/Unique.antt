-- What follows from the promise of specs/Activities.antt: two results are equal (`main-unique`), by their numbers (`main_numbers_of-unique`); zeros beside
-- a refusal and behind the names (`main-refused`, `main-done`). No contract cites this file.
use Rattle.std.specs.Prelude.{Result, Ok, Err}
use Prim.Native.Nat.{ℕ, ◌-◌, ◌≤◌}
use native.Mathlib.Omega.{arith}
use mathlib.Core.Path.{◌≡◌, refl, sym, ◌∙◌, ap}
use mathlib.Core.Bool.{Bool, true, false, cond}
use mathlib.Core.List.{List, ◌++◌}
use borrow.Author.Tests.{leb-true}
use lib.ListN.{length, drop, replicate, length-append, length-replicate}
use lib.Seq.{drop_at}
use lib.Dec.{leb}
use Rattle.errors.specs.Refusal.{pair_numbers_of}
use Rattle.errors.specs.declared.Refusal.{Refusal}
use Rattle.errors.specs.declared.Refusal.TheVariants.{ListFull}
use Rattle.errors.specs.declared.PairNumbers.{PairNumbers}
use Rattle.errors.proofs.Laws.{pair_numbers_of-unique}
use Rattle.system_types.specs.Names.{Lent}
use Rattle.text.specs.declared.Head.{Head}
use Rattle.main_activities.specs.declared.MainNumbers.{MainNumbers}
use Rattle.main_activities.specs.Activities.{answer_by, answer_in, list_in, main_open, activities_in, main_answer, list_after, main_numbers_of, MainReads}

-- ---- numbers: those of many pairs' answer are the same three

many_of : Result ℕ Refusal → Result ℕ Refusal
many_of (Ok n) = Ok n
many_of (Err r) = Err r

main_of : Result ℕ Refusal → Result ℕ Refusal
main_of (Ok n) = Ok n
main_of (Err r) = Err r

main_of-back : (a : Result ℕ Refusal) → main_of (many_of a) ≡ a
unfolding main_of many_of
main_of-back (Ok n) = refl
main_of-back (Err r) = refl

alike : MainNumbers → PairNumbers
alike n = record { refusal = n.refusal; value = n.value; count = n.count }

many-numbers : (a : Result ℕ Refusal) → pair_numbers_of (many_of a) ≡ alike (main_numbers_of a)
unfolding pair_numbers_of many_of alike main_numbers_of
many-numbers (Ok n) = refl
many-numbers (Err r) = refl

pub main_numbers_of-unique : (a b : Result ℕ Refusal) → main_numbers_of a ≡ main_numbers_of b → a ≡ b
main_numbers_of-unique a b e =
    sym (main_of-back a) ∙ ap main_of (pair_numbers_of-unique (many_of a) (many_of b) (many-numbers a ∙ ap alike e ∙ sym (many-numbers b))) ∙ main_of-back b

-- ---- the promise

-- the answer of success, and its list
record Listed (m : ℕ) (z : List ℕ) (n : ℕ) : Type 0 where
  count : n ≡ length z
  room : length z ≤ m

listed : (m : ℕ) (z : List ℕ) (n : ℕ) → answer_by m z ≡ Ok n → Listed m z n
listed m z n e = go (leb (length z) m) refl e
  where
    go : (b : Bool) → leb (length z) m ≡ b → cond b (Ok (length z)) (Err (ListFull m)) ≡ Ok n → Listed m z n
    go true l q = let y : length z ≡ n = cc in record { count = sym y; room = leb-true (length z) m l }
    go false l q = let y : ◌≡◌ {A = ℕ} 0 1 = cc in absurd (let v : ⊥ = omega arith in v)

module _ (f : List ℕ) (lent : Lent) (items area ns ats before : List ℕ) (nodes attributes : ℕ) where
  -- P4
  pub main-unique : {r r' : Result ℕ Refusal} {after after' : List ℕ} → MainReads f lent items area ns ats before nodes attributes r after
      → MainReads f lent items area ns ats before nodes attributes r' after' → (r ≡ r') × (after ≡ after')
  main-unique p q = (main_numbers_of-unique _ _ (p.answer ∙ sym q.answer), p.list ∙ sym q.list)

  told : {r : Result ℕ Refusal} {after : List ℕ} → MainReads f lent items area ns ats before nodes attributes r after
      → main_answer f lent items area ns ats nodes attributes (length before) ≡ r
  told p = sym (main_numbers_of-unique _ _ p.answer)

  -- the list goes by the answer
  by_answer : (m : ℕ) (z : Head → List ℕ) (x : Result Head Refusal) (r : Refusal) → answer_in m z x ≡ Err r → list_in m z x ≡ replicate m 0
  by_answer m z (Err y) r e = refl
  by_answer m z (Ok h) r e = rw e

  pub main-refused : (x : Refusal) (after : List ℕ) → MainReads f lent items area ns ats before nodes attributes (Err x) after
      → after ≡ replicate (length before) 0
  unfolding list_after main_answer
  main-refused x after p =
      p.list ∙ by_answer (length before) (activities_in f lent items area ns ats nodes attributes)
      (main_open f lent items area ns ats nodes attributes) x (told p)

  done-by : (m : ℕ) (z : Head → List ℕ) (x : Result Head Refusal) (n : ℕ) (after : List ℕ) → answer_in m z x ≡ Ok n → after ≡ list_in m z x
      → (n ≤ m) × (length after ≡ m) × (drop n after ≡ replicate (m - n) 0)
  done-by m z (Err y) n after e l = let v : ◌≡◌ {A = ℕ} 0 1 = cc in absurd (let u : ⊥ = omega arith in u)
  done-by m z (Ok h) n after e l =
      let a = listed m (z h) n e in
      let c = a.count in
      let b = a.room in
      let s : after ≡ z h ++ replicate (m - n) 0 = l ∙ rw e in
      let long : length after ≡ m =
      ap length s ∙ length-append (z h) (replicate (m - n) 0) ∙ rw (length-replicate {A = ℕ} (m - n) 0) (omega (arith, c, b)) in
      (omega (arith, c, b), long, ap (drop n) s ∙ drop_at (z h) (replicate (m - n) 0) n (sym c))

  -- the names that there are have places, and zeros stand behind them
  pub main-done : (n : ℕ) (after : List ℕ) → MainReads f lent items area ns ats before nodes attributes (Ok n) after
      → (n ≤ length before) × (length after ≡ length before) × (drop n after ≡ replicate (length before - n) 0)
  unfolding list_after main_answer
  main-done n after p =
      done-by (length before) (activities_in f lent items area ns ats nodes attributes)
      (main_open f lent items area ns ats nodes attributes) n after (told p)
      p.list
