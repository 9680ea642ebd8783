-- Laws of specs/Question.antt on the search and the question. No contract cites this file.
-- In order: record by record (`findNode-..`, `findValue-..`), the attributes of a node that is found lie in a table that fits
-- (`run_inside`, `run_fits`), their values (`value-run`), what is asked once (`shared-..`), the question by whether the file is open
-- (`first-open`, `first-closed`),
-- and two answers that its promise allows are equal (`first-unique`).
use Rattle.std.specs.Prelude.{Option, Some, None, Result, Ok, Err}
use Rattle.std.proofs.lemmas.Option.{some_pair_parts}
use Prim.Native.Nat.{ℕ, zero, suc, ◌+◌, ◌-◌, ◌*◌, ◌≤◌, ◌<◌}
use native.Mathlib.Omega.{arith}
use mathlib.Core.Path.{◌≡◌, refl, sym, ◌∙◌, ap}
use mathlib.Core.List.{List}
use mathlib.Core.Bool.{Bool, true, false, cond}
use borrow.Author.Tests.{ltb-false}
use lib.ListN.{length, take, drop, get_or}
use lib.Seq.{get_or-drop}
use lib.Dec.{ltb}
use Rattle.errors.specs.Refusal.{first_numbers_of}
use Rattle.errors.specs.declared.Refusal.{Refusal}
use Rattle.errors.specs.declared.Refusal.TheVariants.{NothingFound}
use Rattle.errors.proofs.Laws.{first_numbers_of-unique}
use Rattle.text.specs.declared.Head.{Head}
use Rattle.head.specs.Head.{tables_in}
use Rattle.head.specs.Ask.{open_of}
use Rattle.head.proofs.Cases.{rest_all}
use Rattle.records.specs.Words.{node_width, node_name, node_fixed, node_first, node_count}
use Rattle.records.specs.Words.{attribute_width, attribute_prefix, attribute_name, attribute_type, attribute_data}
use Rattle.records.proofs.Places.{drop-record}
use Rattle.system_types.specs.Names.{Lent}
use Rattle.first_value.specs.Question.{runs_from, fit_of, tag_is, name_is, found_by, find_node, find_value}
use Rattle.first_value.specs.Question.{value_by, fitted_by, shared_by, shared_of, first_answer, FirstReads}
use Rattle.first_value.specs.Inner.Run.{RunFits}
use Rattle.first_value.proofs.Laws.{fit_of-fits}
use Rattle.errors.specs.declared.FirstValue.{FirstValue}

-- ---- record by record

module _ (h : Head) (t : List ℕ) (lent : Lent) (s : List ℕ) (n : ℕ) (w : List ℕ) (k : ℕ) where
  pub find_node-end : n ≤ k → find_node h t lent s (n - k) (drop (node_width * k) w) ≡ None
  unfolding find_node
  find_node-end p = let e : n - k ≡ 0 = omega arith in rw e

  find_node-step
      : k < n
      → find_node h t lent s (n - k) (drop (node_width * k) w)
      ≡ cond (tag_is h t lent s (get_or w (node_width * k + node_fixed) 0) (get_or w (node_width * k + node_name) 0)) (Some ((get_or w (node_width * k + node_first) 0), (get_or w (node_width * k + node_count) 0)))
      (find_node h t lent s (n - (k + 1)) (drop (node_width * (k + 1)) w))
  unfolding find_node
  find_node-step p =
      let e : n - k ≡ suc (n - (k + 1)) = omega arith in
      rw (
        e,
        drop-record node_width k w,
        get_or-drop (node_width * k) w node_name 0,
        get_or-drop (node_width * k) w node_fixed 0,
        get_or-drop (node_width * k) w
            node_first 0,
        get_or-drop (node_width * k) w node_count 0,
      )

  pub find_node-found
      : {j : ℕ} {b : Bool}
      → k < n
      → j ≡ node_width * k
      → b ≡ tag_is h t lent s (get_or w (j + node_fixed) 0) (get_or w (j + node_name) 0)
      → b ≡ true
      → find_node h t lent s (n - k) (drop (node_width * k) w) ≡ Some ((get_or w (j + node_first) 0), (get_or w (j + node_count) 0))
  find_node-found p i e q = let e' = rw i at e in rw i (find_node-step p ∙ rw (← e', q))

  pub find_node-next
      : {j : ℕ} {b : Bool}
      → k < n
      → j ≡ node_width * k
      → b ≡ tag_is h t lent s (get_or w (j + node_fixed) 0) (get_or w (j + node_name) 0)
      → b ≡ false
      → find_node h t lent s (n - k) (drop (node_width * k) w) ≡ find_node h t lent s (n - (k + 1)) (drop (node_width * (k + 1)) w)
  find_node-next p i e q = let e' = rw i at e in find_node-step p ∙ rw (← e', q)

module _ (h : Head) (t : List ℕ) (lent : Lent) (s : List ℕ) (n : ℕ) (w : List ℕ) (k : ℕ) where
  pub find_value-end : n ≤ k → find_value h t lent s (n - k) (drop (attribute_width * k) w) ≡ Err NothingFound
  unfolding find_value
  find_value-end p = let e : n - k ≡ 0 = omega arith in rw e

  find_value-step
      : k < n
      → find_value h t lent s (n - k) (drop (attribute_width * k) w)
      ≡ cond (name_is h t lent s (get_or w (attribute_width * k + attribute_prefix) 0) (get_or w (attribute_width * k + attribute_name) 0))
      (found_by (get_or w (attribute_width * k + attribute_type) 0) (get_or w (attribute_width * k + attribute_data) 0))
      (find_value h t lent s (n - (k + 1)) (drop (attribute_width * (k + 1)) w))
  unfolding find_value
  find_value-step p =
      let e : n - k ≡ suc (n - (k + 1)) = omega arith in
      rw (
        e,
        drop-record attribute_width k w,
        get_or-drop (attribute_width * k) w attribute_prefix 0,
        get_or-drop (attribute_width * k) w attribute_name 0,
        get_or-drop (attribute_width * k) w attribute_type 0,
        get_or-drop (attribute_width * k) w attribute_data 0,
      )

  pub find_value-found
      : {j : ℕ} {b : Bool} {r : Result FirstValue Refusal}
      → k < n
      → j ≡ attribute_width * k
      → b ≡ name_is h t lent s (get_or w (j + attribute_prefix) 0) (get_or w (j + attribute_name) 0)
      → b ≡ true
      → r ≡ found_by (get_or w (j + attribute_type) 0) (get_or w (j + attribute_data) 0)
      → find_value h t lent s (n - k) (drop (attribute_width * k) w) ≡ r
  find_value-found p i e q f =
      let e' = rw i at e in
      let f' = rw i at f in
      find_value-step p ∙ rw (← e', q) (sym f')

  pub find_value-next
      : {j : ℕ} {b : Bool}
      → k < n
      → j ≡ attribute_width * k
      → b ≡ name_is h t lent s (get_or w (j + attribute_prefix) 0) (get_or w (j + attribute_name) 0)
      → b ≡ false
      → find_value h t lent s (n - k) (drop (attribute_width * k) w) ≡ find_value h t lent s (n - (k + 1)) (drop (attribute_width * (k + 1)) w)
  find_value-next p i e q = let e' = rw i at e in find_value-step p ∙ rw (← e', q)

-- the attributes of a node that is found do not pass the count
pub run_inside
    : (h : Head) (t : List ℕ) (lent : Lent) (tag : List ℕ) (attributes k n : ℕ) (w : List ℕ) {first number : ℕ}
    → runs_from attributes k n w ≡ (Ok tt)
    → find_node h t lent tag n w ≡ Some (first, number)
    → first + number ≤ attributes
unfolding runs_from find_node
run_inside h t lent tag attributes k zero w f e = let z : ◌≡◌ {A = ℕ} 0 1 = cc in absurd (let y : ⊥ = omega arith in y)
run_inside h t lent tag attributes k (suc n) w {first} {number} f e =
    go (ltb attributes (get_or w node_first 0 + get_or w node_count 0)) refl f (tag_is h t lent tag (get_or w node_fixed 0) (get_or w node_name 0)) e
    (run_inside h t lent tag attributes (k + 1) n (drop node_width w))
  where
    go
        : (b : Bool)
        → ltb attributes (get_or w node_first 0 + get_or w node_count 0) ≡ b
        → cond b (Err k) (runs_from attributes (k + 1) n (drop node_width w)) ≡ (Ok tt)
        → (c : Bool)
        → cond c (Some ((get_or w node_first 0), (get_or w node_count 0))) (find_node h t lent tag n (drop node_width w)) ≡ Some (first, number)
        → (runs_from attributes (k + 1) n (drop node_width w) ≡ (Ok tt) → find_node h t lent tag n (drop node_width w) ≡ Some (first, number) → first + number ≤ attributes)
        → first + number ≤ attributes
    go true p f' c e' ind = let z : ◌≡◌ {A = ℕ} 0 1 = cc in absurd (let y : ⊥ = omega arith in y)
    go false p f' true e' ind =
        let parts = some_pair_parts (get_or w node_first 0) first (get_or w node_count 0) number e' in
        let a = parts.0 in
        let b = parts.1 in
        let q = ltb-false attributes (get_or w node_first 0 + get_or w node_count 0) p in
        omega arith
    go false p f' false e' ind = ind f' e'

-- so they lie in the table
pub run_fits
    : (h : Head) (t : List ℕ) (lent : Lent) (tag ns ats : List ℕ) (n a : ℕ) {r : Option (ℕ × ℕ)}
    → fit_of ns ats n a ≡ (Ok tt)
    → r ≡ find_node h t lent tag n ns
    → RunFits ats r
run_fits h t lent tag ns ats n a f e =
    record {
      inside = λ first number q.
          let g = fit_of-fits ns ats n a f in
          let p = run_inside h t lent tag a 0 n ns {first = first} {number = number} g.runs (sym e ∙ q) in
          omega (arith, g.attributes, p);
    }

-- its values, in the table from there on, j being where they begin
pub value-run
    : (h : Head) (t : List ℕ) (lent : Lent) (name ats : List ℕ) {node : Option (ℕ × ℕ)} {r : Result FirstValue Refusal} {first number j : ℕ}
    → node ≡ Some (first, number)
    → j ≡ attribute_width * first
    → r ≡ find_value h t lent name number (take (length ats - j) (drop j ats))
    → r ≡ value_by h t lent name ats node
value-run h t lent name ats {j = j} q i g = let g' = rw (rest_all j ats, i) at g in rw q g'

-- ---- what is asked once

-- a head that is opened beside tables: the file is open, and they fit
pub record Shared (f : List ℕ) (lent : Lent) (ns ats : List ℕ) (nodes attributes : ℕ) (h : Head) : Type 0 where
  pub opens : open_of f lent ≡ Ok h
  pub fits : fit_of ns ats nodes attributes ≡ (Ok tt)

module _ (f : List ℕ) (lent : Lent) (ns ats : List ℕ) (nodes attributes : ℕ) where
  pub shared-open : {h : Head} {fit : Result (Unit {0}) ℕ} {r : Result Head Refusal} → open_of f lent ≡ Ok h → fit ≡ fit_of ns ats nodes attributes → r ≡ fitted_by h fit
      → r ≡ shared_of f lent ns ats nodes attributes
  unfolding shared_of
  shared-open e q g = rw (e, ← q) g

  pub shared-closed : {why : Refusal} → open_of f lent ≡ Err why → Err why ≡ shared_of f lent ns ats nodes attributes
  unfolding shared_of
  shared-closed e = rw e

  pub shared-opens : {h : Head} → shared_of f lent ns ats nodes attributes ≡ Ok h → Shared f lent ns ats nodes attributes h
  unfolding shared_of
  shared-opens {h} e = go (open_of f lent) refl (fit_of ns ats nodes attributes) refl e
    where
      go
          : (x : Result Head Refusal) → open_of f lent ≡ x
          → (y : Result (Unit {0}) ℕ) → fit_of ns ats nodes attributes ≡ y
          → shared_by y x ≡ Ok h
          → Shared f lent ns ats nodes attributes h
      go (Err r) p y q g = let z : ◌≡◌ {A = ℕ} 0 1 = cc in absurd (let v : ⊥ = omega arith in v)
      go (Ok h') p (Err k) q g = let z : ◌≡◌ {A = ℕ} 0 1 = cc in absurd (let v : ⊥ = omega arith in v)
      go (Ok h') p (Ok tt) q g = record { opens = p ∙ g; fits = q }

-- ---- the question

module _ (f : List ℕ) (lent : Lent) (ns ats tag name : List ℕ) (nodes attributes : ℕ) where
  -- the answer where the head is open and the tables fit
  pub first-shared
      : {h : Head}
      → shared_of f lent ns ats nodes attributes ≡ Ok h
      → first_answer f lent ns ats tag name nodes attributes
      ≡ value_by h (tables_in f h) lent name ats (find_node h (tables_in f h) lent tag nodes ns)
  unfolding first_answer
  first-shared e = rw e

  pub first-open
      : {h : Head} {t : List ℕ} {r : Result FirstValue Refusal}
      → shared_of f lent ns ats nodes attributes ≡ Ok h
      → t ≡ tables_in f h
      → r ≡ value_by h t lent name ats (find_node h t lent tag nodes ns)
      → FirstReads f lent ns ats tag name nodes attributes r
  first-open {r = r} e q g =
      let same : r ≡ first_answer f lent ns ats tag name nodes attributes = rw (first-shared e) (rw q at g) in record { answer = ap first_numbers_of same }

  pub first-closed
      : {why : Refusal} → shared_of f lent ns ats nodes attributes ≡ Err why → FirstReads f lent ns ats tag name nodes attributes (Err why)
  unfolding first_answer
  first-closed e = record { answer = rw e }

  -- P4
  pub first-unique
      : {r r' : Result FirstValue Refusal}
      → FirstReads f lent ns ats tag name nodes attributes r
      → FirstReads f lent ns ats tag name nodes attributes r'
      → r ≡ r'
  first-unique a b = first_numbers_of-unique _ _ (a.answer ∙ sym b.answer)
