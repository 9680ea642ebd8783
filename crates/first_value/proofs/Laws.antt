-- Laws of specs/Question.antt on the tables, for this crate. No contract cites this file.
-- In order: a table from a record on (`rest-words`), node by node whether its attributes pass the count (`runsFrom-..`), both tables
-- (`fitOf-..`). The search: proofs/Search.antt.
use Rattle.std.specs.Prelude.{Ok, Err}
use Prim.Native.Nat.{ℕ, suc, ◌+◌, ◌-◌, ◌*◌, ◌≤◌, ◌<◌}
use native.Mathlib.Omega.{arith}
use mathlib.Core.Path.{◌≡◌, refl, sym, ◌∙◌}
use mathlib.Core.List.{List}
use mathlib.Core.Bool.{Bool, true, false, cond}
use borrow.Author.Tests.{ltb-true, ltb-false, lt-ltb, le-ltb}
use lib.ListN.{length, take, drop, get_or, length-drop}
use lib.Seq.{get_or-drop}
use lib.Dec.{ltb}
use Rattle.head.proofs.Cases.{rest_all}
use Rattle.records.specs.Words.{node_width, node_first, node_count, attribute_width}
use Rattle.records.proofs.Places.{drop-record}
use Rattle.first_value.specs.Question.{runs_from, fit_of}

-- how many words the part of a table from a place on has
pub rest-words : (w : List ℕ) (n m : ℕ) → n + m ≤ length w → m ≤ length (take (length w - n) (drop n w))
rest-words w n m p = rw (rest_all n w, length-drop n w) (omega arith)

-- ---- whether the tables fit

module _ (attributes n : ℕ) (w : List ℕ) (k : ℕ) where
  pub runs_from-end : n ≤ k → runs_from attributes k (n - k) (drop (node_width * k) w) ≡ (Ok tt)
  unfolding runs_from
  runs_from-end p = let e : n - k ≡ 0 = omega arith in rw e

  runs_from-step
      : k < n
      → runs_from attributes k (n - k) (drop (node_width * k) w)
      ≡ cond (ltb attributes (get_or w (node_width * k + node_first) 0 + get_or w (node_width * k + node_count) 0)) (Err k) (runs_from attributes (k + 1) (n - (k + 1)) (drop (node_width * (k + 1)) w))
  unfolding runs_from
  runs_from-step p =
      let e : n - k ≡ suc (n - (k + 1)) = omega arith in
      rw (e, drop-record node_width k w, get_or-drop (node_width * k) w node_first 0, get_or-drop (node_width * k) w node_count 0)

  pub runs_from-unfit
      : {j : ℕ} {b : Bool}
      → k < n
      → j ≡ node_width * k
      → b ≡ ltb attributes (get_or w (j + node_first) 0 + get_or w (j + node_count) 0)
      → b ≡ true
      → runs_from attributes k (n - k) (drop (node_width * k) w) ≡ Err k
  runs_from-unfit p i e q = let e' = rw i at e in runs_from-step p ∙ rw (← e', q)

  pub runs_from-next
      : {j : ℕ} {b : Bool}
      → k < n
      → j ≡ node_width * k
      → b ≡ ltb attributes (get_or w (j + node_first) 0 + get_or w (j + node_count) 0)
      → b ≡ false
      → runs_from attributes k (n - k) (drop (node_width * k) w) ≡ runs_from attributes (k + 1) (n - (k + 1)) (drop (node_width * (k + 1)) w)
  runs_from-next p i e q = let e' = rw i at e in runs_from-step p ∙ rw (← e', q)

module _ (ns ats : List ℕ) (nodes attributes : ℕ) where
  pub fit_of-nodes : length ns < node_width * nodes → fit_of ns ats nodes attributes ≡ Err nodes
  unfolding fit_of
  fit_of-nodes p = rw (lt-ltb (length ns) (node_width * nodes) p)

  pub fit_of-attributes : node_width * nodes ≤ length ns → length ats < attribute_width * attributes → fit_of ns ats nodes attributes ≡ Err nodes
  unfolding fit_of
  fit_of-attributes p q = rw (le-ltb (length ns) (node_width * nodes) p, lt-ltb (length ats) (attribute_width * attributes) q)

  pub fit_of-runs
      : node_width * nodes ≤ length ns
      → attribute_width * attributes ≤ length ats
      → fit_of ns ats nodes attributes ≡ runs_from attributes 0 nodes ns
  unfolding fit_of
  fit_of-runs p q = rw (le-ltb (length ns) (node_width * nodes) p, le-ltb (length ats) (attribute_width * attributes) q)

-- what a fit tells
pub record TablesFit (ns ats : List ℕ) (n a : ℕ) : Type 0 where
  pub nodes : node_width * n ≤ length ns
  pub attributes : attribute_width * a ≤ length ats
  pub runs : runs_from a 0 n ns ≡ (Ok tt)

pub fit_of-fits : (ns ats : List ℕ) (n a : ℕ) → fit_of ns ats n a ≡ (Ok tt) → TablesFit ns ats n a
fit_of-fits ns ats n a e = go (ltb (length ns) (node_width * n)) refl (ltb (length ats) (attribute_width * a)) refl
  where
    go : (b : Bool) → ltb (length ns) (node_width * n) ≡ b → (c : Bool) → ltb (length ats) (attribute_width * a) ≡ c → TablesFit ns ats n a
    go true p c q =
        let u = fit_of-nodes ns ats n a (ltb-true (length ns) (node_width * n) p) in
        let z : ◌≡◌ {A = ℕ} 0 1 = cc in
        absurd (let y : ⊥ = omega arith in y)
    go false p true q =
        let u = fit_of-attributes ns ats n a (ltb-false (length ns) (node_width * n) p) (ltb-true (length ats) (attribute_width * a) q) in
        let z : ◌≡◌ {A = ℕ} 0 1 = cc in
        absurd (let y : ⊥ = omega arith in y)
    go false p false q =
        let p' = ltb-false (length ns) (node_width * n) p in
        let q' = ltb-false (length ats) (attribute_width * a) q in
        record { nodes = p'; attributes = q'; runs = sym (fit_of-runs ns ats n a p' q') ∙ e }
