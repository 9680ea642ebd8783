-- The shape of the tables while events are put away: docs/FORMAT.md, W26, B9 to B11. For proofs/Structure/Theorem.antt and proofs/Calls/Zeros.antt.
--
--   Falls         the open elements, the innermost first: each below the one before, the last is the first node
--   DroppedBelow  so what is dropped begins at a node, not the first (`dropped-below`)
--   run-le        a run ends within the attributes; runs-cut: what an earlier node's run begins with ends the runs before it
--   covered       each attribute lies in a run
--   opens-..      what holds of parents, runs and owners, where a node opens; kept-.. where an attribute is kept
use Prim.Native.Nat.{ℕ, zero, suc, ◌+◌, ◌-◌, ◌*◌, ◌≤◌, ◌<◌}
use native.Mathlib.Omega.{arith}
use mathlib.Core.Path.{◌≡◌, refl, sym, ◌∙◌}
use mathlib.Core.List.{List, [], ◌∷◌, ◌++◌}
use mathlib.Core.Bool.{Bool, true, false}
use borrow.Author.Tests.{ltb-true, ltb-false, leb-true, leb-false}
use lib.ListN.{length}
use lib.Dec.{ltb, leb}
use Rattle.records.specs.Words.{node_width, node_parent, node_first, node_count, node_words, attribute_width, attribute_owner, attribute_words}
use Rattle.walk.specs.Settle.{parent_in, closed_in}
use Rattle.walk.specs.Reading.{Dropped, none_dropped, dropped_from, dropped_in}
use Rattle.claims.specs.Shape.{attribute_word, Parent, Descends, begin, end, Runs, Owns}
use Rattle.claims.proofs.Structure.Words.{counting, word-old, word-new, word-other, word_same}

-- ---- the open elements

abbrev pub Falls : ℕ → List ℕ → Type 0
Falls n [] = n ≡ 0
Falls n (k ∷ []) = (k ≡ 0) × (0 < n)
Falls n (k ∷ j ∷ s) = (k < n) × Falls k (j ∷ s)

falls-more : (n m k : ℕ) (s : List ℕ) → n ≤ m → Falls n (k ∷ s) → Falls m (k ∷ s)
falls-more n m k [] h f = (f.0, omega (arith, f.1))
falls-more n m k (j ∷ s) h f = (omega (arith, f.0), f.1)

pub falls-opened : (n : ℕ) (s : List ℕ) → Falls n s → Falls (n + 1) (n ∷ s)
falls-opened n [] f = (f, omega arith)
falls-opened n (j ∷ s) f = (omega arith, f)

pub falls-closed : (n : ℕ) (s : List ℕ) → Falls n s → Falls n (closed_in s)
falls-closed n [] f = f
falls-closed n (k ∷ []) f = f
falls-closed n (k ∷ j ∷ s) f = falls-more k n j s (omega (arith, f.0)) f.1

-- the first node that is dropped is one of the n, and not the first of all
abbrev pub DroppedBelow : ℕ → Dropped → Type 0
DroppedBelow n none_dropped = Unit {0}
DroppedBelow n (dropped_from k) = (0 < k) × (k < n)

below_more : (n m : ℕ) (d : Dropped) → n ≤ m → DroppedBelow n d → DroppedBelow m d
below_more n m none_dropped l h = tt
below_more n m (dropped_from k) l h = (h.0, omega (arith, h.1))

pub dropped-below : (n : ℕ) (s : List ℕ) → Falls n s → DroppedBelow n (dropped_in s)
dropped-below n [] f = tt
dropped-below n (k ∷ []) f = tt
dropped-below n (k ∷ j ∷ []) f = (f.1.1, f.0)
dropped-below n (k ∷ j ∷ i ∷ s) f = below_more k n (dropped_in (j ∷ i ∷ s)) (omega (arith, f.0)) (dropped-below k (j ∷ i ∷ s) f.1)

-- ---- the nodes

pub run-le : (w : List ℕ) (n m d i : ℕ) → Runs w n m → i + d + 1 ≡ n → end w i ≤ m
run-le w n m zero i h e = omega (arith, h.ends i (omega arith))
run-le w n m (suc d) i h e = omega (arith, h.follows i (omega arith), run-le w n m d (i + 1) h (omega arith))

pub runs-cut : (w : List ℕ) (n m s : ℕ) → Runs w n m → s < n → Runs w s (begin w s)
runs-cut w n m s h l = record {
  none = λ z. rw z (h.begins (omega arith));
  begins = λ z. h.begins (omega arith);
  follows = λ i g. h.follows i (omega arith);
  ends = λ i e. rw (← e) (sym (h.follows i (omega arith)));
}

-- the run that an attribute lies in
pub record Covered (w : List ℕ) (n j : ℕ) : Type 0 where
  pub node : ℕ
  pub below : node < n
  pub from : begin w node ≤ j
  pub upto : j < end w node

pub covered : (w : List ℕ) (n m j : ℕ) → Runs w n m → j < m → Covered w n j
covered w zero m j h l = absurd (let y : ⊥ = omega (arith, h.none refl) in y)
covered w (suc n) m j h l = go (covered w n (begin w n) j (runs-cut w (suc n) m n h (omega arith))) (leb (begin w n) j) refl
  where
    go : (j < begin w n → Covered w n j) → (b : Bool) → leb (begin w n) j ≡ b → Covered w (suc n) j
    go low true e = record { node = n; below = omega arith; from = leb-true _ _ e; upto = omega (arith, h.ends n (omega arith)) }
    go low false e =
        let c = low (leb-false _ _ e) in
        record { node = c.node; below = omega (arith, c.below); from = c.from; upto = c.upto }

-- a number below n + 1 is below n, or n
pub split-lt : (P : ℕ → Type 0) (n i : ℕ) → i < n + 1 → (i < n → P i) → P n → P i
split-lt P n i h low top = go (ltb i n) refl
  where
    go : (b : Bool) → ltb i n ≡ b → P i
    go true e = low (ltb-true i n e)
    go false e = let q : i ≡ n = omega (arith, ltb-false i n e) in rw q top

-- ---- a node opens

module _ (w v : List ℕ) (n m name fixed parent line : ℕ) (len : length w ≡ node_width * n) where
  abbrev node : List ℕ
  node = node_words name fixed parent m 0 line

  pub opens-parents : (s : List ℕ) → parent ≡ parent_in s → Falls n s → Descends w n → Descends (w ++ node) (n + 1)
  opens-parents s p f h i l = split-lt (λ i. Parent (w ++ node) i) n i l
      (λ g. record {
        first = λ z. rw (word-old node_width w node n len i node_parent g (omega arith)) ((h i g).first z);
        later = λ z. rw (word-old node_width w node n len i node_parent g (omega arith)) ((h i g).later z);
      }) (new s p f)
    where
      new : (s : List ℕ) → parent ≡ parent_in s → Falls n s → Parent (w ++ node) n
      new [] p f = record {
        first = λ z. word-new node_width w node n len node_parent ∙ p;
        later = λ z. absurd (let y : ⊥ = omega arith in y);
      }
      new (k ∷ []) p f = record {
        first = λ z. absurd (let y : ⊥ = omega (arith, f.1) in y);
        later = λ z. omega (arith, word-new node_width w node n len node_parent, f.0);
      }
      new (k ∷ j ∷ s) p f = record {
        first = λ z. absurd (let y : ⊥ = omega (arith, f.0) in y);
        later = λ z. omega (arith, word-new node_width w node n len node_parent, f.0);
      }

  pub opens-runs : Runs w n m → Runs (w ++ node) (n + 1) m
  opens-runs h = record {
    none = λ z. absurd (let y : ⊥ = omega arith in y);
    begins = λ z. begins (ltb 0 n) refl;
    follows = λ i l. follows i l (ltb (i + 1) n) refl;
    ends = λ i e. let q : i ≡ n = omega arith in rw q (omega (arith, word-new node_width w node n len node_first, word-new node_width w node n len node_count));
  }
    where
      begins : (b : Bool) → ltb 0 n ≡ b → ◌≡◌ {A = ℕ} (begin (w ++ node) 0) 0
      begins true e = let g = ltb-true 0 n e in omega (arith, word-old node_width w node n len 0 node_first g (omega arith), h.begins g)
      begins false e =
          let z : n ≡ 0 = omega (arith, ltb-false 0 n e) in
          let q = rw z at (word-new node_width w node n len node_first) in
          omega (arith, q, h.none z)

      follows : (i : ℕ) → i + 1 < n + 1 → (b : Bool) → ltb (i + 1) n ≡ b → begin (w ++ node) (i + 1) ≡ end (w ++ node) i
      follows i l true e =
          let g = ltb-true (i + 1) n e in
          omega (
            arith,
            word-old node_width w node n len (i + 1) node_first g (omega arith),
            word-old node_width w node n len i node_first (omega arith) (omega arith),
            word-old node_width w node n len i node_count (omega arith) (omega arith),
            h.follows i g,
          )
      follows i l false e =
          let q : i + 1 ≡ n = omega (arith, ltb-false (i + 1) n e) in
          rw q (omega (
            arith,
            word-new node_width w node n len node_first,
            word-old node_width w node n len i node_first (omega arith) (omega arith),
            word-old node_width w node n len i node_count (omega arith) (omega arith),
            h.ends i q,
          ))

  pub opens-owns : Owns w v n → Owns (w ++ node) v (n + 1)
  opens-owns h i j l = split-lt (λ i. begin (w ++ node) i ≤ j → j < end (w ++ node) i → attribute_word v j attribute_owner ≡ i) n i l
      (λ g a b. h i j g (omega (arith, word-old node_width w node n len i node_first g (omega arith)))
      (omega (arith, word-old node_width w node n len i node_first g (omega arith), word-old node_width w node n len i node_count g (omega arith))))
      (λ a b. absurd (let y : ⊥ = omega (arith, word-new node_width w node n len node_first, word-new node_width w node n len node_count) in y))

-- ---- an attribute is kept: the last node counts one more

module _ (w v : List ℕ) (k m p name type «data» ns : ℕ) (lw : length w ≡ node_width * (k + 1)) (lv : length v ≡ attribute_width * m) (h : Runs w (k + 1) m) where
  abbrev more : List ℕ
  more = counting w k (m + 1 - begin w k)

  abbrev attribute : List ℕ
  attribute = attribute_words k p name type «data» ns

  pub kept-parents : Descends w (k + 1) → Descends more (k + 1)
  kept-parents d i l =
      let q = word-other w k i node_parent (m + 1 - begin w k) (λ a b. omega arith) (omega arith) in
      record { first = λ z. q ∙ (d i l).first z; later = λ z. omega (arith, q, (d i l).later z) }

  pub kept-begin : (i : ℕ) → i < k + 1 → begin more i ≡ begin w i
  kept-begin i l = word-other w k i node_first (m + 1 - begin w k) (λ a b. omega arith) (omega arith)

  kept-end : (i : ℕ) → i < k → end more i ≡ end w i
  kept-end i l = omega (arith, kept-begin i (omega arith), word-other w k i node_count (m + 1 - begin w k) (λ a b. omega arith) (omega arith))

  kept-last : end more k ≡ m + 1
  kept-last = omega (arith, kept-begin k (omega arith), word_same w k (m + 1 - begin w k) (omega arith), h.ends k refl)

  pub kept-runs : Runs more (k + 1) (m + 1)
  kept-runs = record {
    none = λ z. absurd (let y : ⊥ = omega arith in y);
    begins = λ z. kept-begin 0 z ∙ h.begins z;
    follows = λ i l. kept-begin (i + 1) l ∙ h.follows i l ∙ sym (kept-end i (omega arith));
    ends = λ i e. let q : i ≡ k = omega arith in rw q kept-last;
  }

  pub kept-owns : Owns w v (k + 1) → Owns more (v ++ attribute) (k + 1)
  kept-owns o i j l = split-lt (λ i. begin more i ≤ j → j < end more i → attribute_word (v ++ attribute) j attribute_owner ≡ i) k i l low top
    where
      low : i < k → begin more i ≤ j → j < end more i → attribute_word (v ++ attribute) j attribute_owner ≡ i
      low g a b =
          let e = kept-end i g in
          let c = kept-begin i l in
          let r = run-le w (k + 1) m (k - i) i h (omega arith) in
          word-old attribute_width v attribute m lv j attribute_owner (omega arith) (omega arith) ∙ o i j l (omega arith) (omega arith)

      top : begin more k ≤ j → j < end more k → attribute_word (v ++ attribute) j attribute_owner ≡ k
      top a b = split-lt (λ j. begin more k ≤ j → attribute_word (v ++ attribute) j attribute_owner ≡ k) m j (omega (arith, kept-last))
          (λ g a. word-old attribute_width v attribute m lv j attribute_owner g (omega arith)
          ∙ o k j (omega arith) (omega (arith, kept-begin k (omega arith))) (omega (arith, h.ends k refl)))
          (λ a. word-new attribute_width v attribute m lv attribute_owner) a
