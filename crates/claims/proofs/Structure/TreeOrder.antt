-- The tables of a reading are in the order of the tree: docs/FORMAT.md, W26, S2. Of every result of success that the promise allows.
--
--   Nested      once a record stands behind p whose parent is before p, no later record has the parent p
--   nested      so it is with the tables of every reading
--   children    so the children of p, as crate main_activities tells them, are the records whose parent word is p
use Rattle.std.specs.Prelude.{Ok}
use Prim.Native.Nat.{ℕ, zero, suc, ◌+◌, ◌-◌, ◌*◌, ◌/◌, ◌≤◌, ◌<◌}
use native.Mathlib.Omega.{arith}
use mathlib.Core.Path.{◌≡◌, refl, sym, ◌∙◌, ap}
use mathlib.Core.List.{List, [], ◌∷◌, ◌++◌}
use mathlib.Core.Bool.{Bool, true, false, cond}
use borrow.Author.Tests.{ne_eqb, ltb-true}
use lib.ListN.{length, length-append, length-set}
use lib.Dec.{ltb, eqb}
use Rattle.anomaly.specs.declared.Note.{Note}
use Rattle.anomaly.specs.declared.ResAnomaly.{ResAnomaly}
use Rattle.errors.specs.declared.ReadCounts.{ReadCounts}
use Rattle.events.specs.declared.Event.{Event}
use Rattle.records.specs.Words.{node_width, node_parent, node_words, no_parent, attribute_width}
use Rattle.records.specs.Repeats.{Rule}
use Rattle.system_types.specs.Names.{Lent}
use Rattle.xml_elements.specs.declared.XmlAttributeElement.{XmlAttributeElement}
use Rattle.walk.specs.Settle.{Room, Tables, settle, nothing_yet, opened, closed, kept, noted, parent_in, closed_in}
use Rattle.walk.specs.Reading.{Reading, reading, nodes_kept, Reads}
use Rattle.main_activities.specs.Activities.{children_from, parent_of}
use Rattle.claims.specs.Readers.{names_for, events_of}
use Rattle.claims.specs.Shape.{node_word, Descends}
use Rattle.claims.specs.Screens.{with_parent}
use Rattle.claims.proofs.Settle.ByEvent.{InTables, settle-keeps}
use Rattle.claims.proofs.Structure.Words.{word-old, word-new, word-other}
use Rattle.claims.proofs.Structure.Shape.{Falls, falls-opened, falls-closed, split-lt}
use Rattle.claims.proofs.Structure.Tables.{kept_in}
use Rattle.claims.proofs.Structure.Done.{room, out_of, DoneBy, done-by, done-shaped}
use Rattle.claims.proofs.Structure.Theorem as tree

-- ---- the open elements

-- p is not among them
abbrev Off : ℕ → List ℕ → Type 0
Off p [] = Unit {0}
Off p (k ∷ s) = (k ≡ p → ⊥) × Off p s

off-closed : (p : ℕ) (s : List ℕ) → Off p s → Off p (closed_in s)
off-closed p [] o = o
off-closed p (k ∷ []) o = o
off-closed p (k ∷ j ∷ s) o = o.1

-- all of them are before n
off-falls : (p n : ℕ) (s : List ℕ) → Falls n s → n ≤ p → Off p s
off-falls p n [] f l = tt
off-falls p n (k ∷ []) f l = (λ e. (let y : ⊥ = omega (arith, f.0, f.1, l, e) in y), tt)
off-falls p n (k ∷ j ∷ s) f l = (λ e. (let y : ⊥ = omega (arith, f.0, l, e) in y), off-falls p k (j ∷ s) f.1 (omega (arith, f.0, l)))

-- the innermost is before p, so none is p
off-top : (p n : ℕ) (s : List ℕ) → Falls n s → p < n → parent_in s < p → Off p s
off-top p n [] f l g = tt
off-top p n (k ∷ []) f l g = (λ e. (let y : ⊥ = omega (arith, g, e) in y), tt)
off-top p n (k ∷ j ∷ s) f l g = (λ e. (let y : ⊥ = omega (arith, g, e) in y), off-falls p k (j ∷ s) f.1 (omega (arith, g)))

-- p is open no more, so it is not the innermost
off-parent : (p n : ℕ) (s : List ℕ) → Falls n s → p < n → Off p s → parent_in s ≡ p → ⊥
off-parent p n [] f l o e = (let y : ⊥ = omega (arith, f, l) in y)
off-parent p n (k ∷ s) f l o e = o.0 e

-- ---- the nodes

abbrev parent_at : List ℕ → ℕ → ℕ
parent_at w i = node_word w i node_parent

abbrev pub Nested : List ℕ → ℕ → Type 0
Nested w n = (p j k : ℕ) → p < j → j < k → k < n → parent_at w j < p → parent_at w k ≡ p → ⊥

record InTreeOrder (t : Tables) : Type 0 where
  n : ℕ
  nodes : length t.nodes ≡ node_width * n
  stack : Falls n t.stack
  left : (p j : ℕ) → p < j → j < n → parent_at t.nodes j < p → Off p t.stack
  later : Nested t.nodes n

nest-none : InTables InTreeOrder nothing_yet
nest-none = record {
  n = 0;
  nodes = refl;
  stack = refl;
  left = λ p j l g. absurd (let y : ⊥ = omega arith in y);
  later = λ p j k l g h. absurd (let y : ⊥ = omega arith in y);
}

-- a node opens
module _ (t : Tables) (name fixed line : ℕ) (h : InTreeOrder t) where
  abbrev node : List ℕ
  node = node_words name fixed (parent_in t.stack) (length t.attributes / attribute_width) 0 line

  old : (i : ℕ) → i < h.n → parent_at (t.nodes ++ node) i ≡ parent_at t.nodes i
  old i l = word-old node_width t.nodes node h.n h.nodes i node_parent l (omega arith)

  new : parent_at (t.nodes ++ node) h.n ≡ parent_in t.stack
  new = word-new node_width t.nodes node h.n h.nodes node_parent

  opened-left : (p j : ℕ) → p < j → j < h.n + 1 → parent_at (t.nodes ++ node) j < p → Off p (h.n ∷ t.stack)
  opened-left p j l g = split-lt (λ i. p < i → parent_at (t.nodes ++ node) i < p → Off p (h.n ∷ t.stack)) h.n j g low top l
    where
      low : j < h.n → p < j → parent_at (t.nodes ++ node) j < p → Off p (h.n ∷ t.stack)
      low a b d = (λ e. (let y : ⊥ = omega (arith, a, b, e) in y), h.left p j b a (omega (arith, old j a, d)))

      top : p < h.n → parent_at (t.nodes ++ node) h.n < p → Off p (h.n ∷ t.stack)
      top b d = (λ e. (let y : ⊥ = omega (arith, b, e) in y), off-top p h.n t.stack h.stack b (omega (arith, new, d)))

  opened-later : Nested (t.nodes ++ node) (h.n + 1)
  opened-later p j k l g m = split-lt (λ i. j < i → parent_at (t.nodes ++ node) j < p → parent_at (t.nodes ++ node) i ≡ p → ⊥) h.n k m low top g
    where
      low : k < h.n → j < k → parent_at (t.nodes ++ node) j < p → parent_at (t.nodes ++ node) k ≡ p → ⊥
      low a b d e = h.later p j k l b a (omega (arith, old j (omega (arith, a, b)), d)) (sym (old k a) ∙ e)

      top : j < h.n → parent_at (t.nodes ++ node) j < p → parent_at (t.nodes ++ node) h.n ≡ p → ⊥
      top b d e =
          off-parent p h.n t.stack h.stack (omega (arith, l, b)) (h.left p j l b (omega (arith, old j b, d))) (sym new ∙ e)

nest-opened : (r : Room) (t : Tables) (name fixed line : ℕ) → length t.nodes + node_width ≤ r.nodes → InTreeOrder t → InTreeOrder (opened t name fixed line)
nest-opened r t name fixed line room h =
    let dn : length t.nodes / node_width ≡ h.n = omega (arith, h.nodes) in
    rw dn (record {
      n = h.n + 1;
      nodes = rw length-append (omega (arith, h.nodes));
      stack = falls-opened h.n t.stack h.stack;
      left = opened-left t name fixed line h;
      later = opened-later t name fixed line h;
    })

nest-closed : (t : Tables) → InTreeOrder t → InTreeOrder (closed t)
nest-closed t h = record {
  n = h.n;
  nodes = h.nodes;
  stack = falls-closed h.n t.stack h.stack;
  left = λ p j l g d. off-closed p t.stack (h.left p j l g d);
  later = h.later;
}

nest-noted : (r : Room) (t : Tables) (x : ResAnomaly) → length t.notes < r.notes → InTreeOrder t → InTreeOrder (noted t x)
nest-noted r t x l h = record { n = h.n; nodes = h.nodes; stack = h.stack; left = h.left; later = h.later }

-- the count of a node is written, and no parent
nest_kept : (r : Room) (t : Tables) (p : ℕ) (a : XmlAttributeElement) → (length t.nodes ≡ 0 → ⊥)
    → length t.attributes + attribute_width ≤ r.attributes → InTreeOrder t → InTreeOrder (kept t p a)
nest_kept r t p a some room h =
    let last = length t.nodes / node_width - 1 in
    let count = (length t.attributes + attribute_width - t.first) / attribute_width in
    let same : (i : ℕ) → parent_at (kept t p a).nodes i ≡ parent_at t.nodes i =
    λ i. word-other t.nodes last i node_parent count (λ x y. omega arith) (omega arith) in
    record {
      n = h.n;
      nodes = rw length-set h.nodes;
      stack = h.stack;
      left = λ q j l g d. h.left q j l g (omega (arith, same j, d));
      later = λ q j k l g m d e. h.later q j k l g m (omega (arith, same j, d)) (sym (same k) ∙ e);
    }

settled-nest : (r : Room) (rule : Rule) (es : List Event) → InTables InTreeOrder (settle rule r nothing_yet es)
settled-nest r rule es = settle-keeps rule r InTreeOrder (nest-opened r) nest-closed (nest_kept r) (nest-noted r) nothing_yet es nest-none

-- ---- a reading

module _ (f : List ℕ) (lent : Lent) (ns ats : List ℕ) (os : List Note) (cap mode : ℕ) (c : ReadCounts) (ns' ats' : List ℕ) (os' : List Note)
    (reads : Reads f lent ns ats os cap mode (Ok c) ns' ats' os') where
  d : DoneBy (room f lent ns ats os cap mode) (out_of f lent ns ats os cap mode) c (reading (room f lent ns ats os cap mode) f lent)
  d = done-by f lent ns ats os cap mode c ns' ats' os' reads

  pub nested : Nested ns' c.nodes
  nested =
      let t = d.tables in
      let h = done-shaped f lent ns ats os cap mode t d.out in
      let g : InTreeOrder t = rw d.out at (settled-nest (room f lent ns ats os cap mode) (names_for mode f lent).repeats (events_of mode f lent)) in
      let k = kept_in (room f lent ns ats os cap mode) t h in
      let same = tree.kept_same node_width t.nodes ns' _ (nodes_kept t) (omega (arith, k.nodes, h.nodes))
      (reads.nodes ∙ ap (λ (x : Reading). x.nodes) d.whole) in
      let m : c.nodes ≤ g.n = omega (arith, d.nodes, k.nodes, h.nodes, g.nodes) in
      let n = d.nodes in
      λ p i j a b l x y.
      g.later p i j a b (omega (arith, l, m)) (omega (arith, same i node_parent (omega (arith, n, b, l)) (omega arith), x))
      (sym (same j node_parent (omega (arith, n, l)) (omega arith)) ∙ y)

-- ---- the children

module _ (ns : List ℕ) (p n : ℕ) where
  -- none of the records from k on has the parent p
  none_from : (k m : ℕ) → k + m ≡ n → ((i : ℕ) → k ≤ i → i < n → parent_of ns i ≡ p → ⊥) → with_parent ns p k m ≡ []
  unfolding with_parent
  none_from k zero e h = refl
  none_from k (suc m) e h =
      rw (ne_eqb (parent_of ns k) p (h k (omega arith) (omega arith)))
      (none_from (k + 1) m (omega arith) (λ i l g. h i (omega arith) g))

  from-behind : (k m : ℕ) → k + m ≡ n → p < k → Nested ns n → children_from ns p k m ≡ with_parent ns p k m
  unfolding children_from with_parent
  from-behind k zero e l h = refl
  from-behind k (suc m) e l h = go (ltb (parent_of ns k) p) refl (from-behind (k + 1) m (omega arith) (omega arith) h)
    where
      go : (b : Bool) → ltb (parent_of ns k) p ≡ b → children_from ns p (k + 1) m ≡ with_parent ns p (k + 1) m
          → cond b [] (cond (eqb (parent_of ns k) p) (k ∷ children_from ns p (k + 1) m) (children_from ns p (k + 1) m))
          ≡ cond (eqb (parent_of ns k) p) (k ∷ with_parent ns p (k + 1) m) (with_parent ns p (k + 1) m)
      go true q s =
          let a = ltb-true (parent_of ns k) p q in
          rw (ne_eqb (parent_of ns k) p (λ z. (let y : ⊥ = omega arith in y)))
          (sym (none_from (k + 1) m (omega arith) (λ i g j. h p k i l (omega arith) j a)))
      go false q s = rw s

  -- those up to p have parents before them, or none
  from_all : (k m : ℕ) → k + m ≡ n → (i : ℕ) → k + i ≡ p + 1 → ((j : ℕ) → j < p + 1 → parent_of ns j ≡ p → ⊥) → p < n
      → with_parent ns p k m ≡ with_parent ns p (p + 1) (n - (p + 1))
  unfolding with_parent
  from_all k m e zero z h l =
      let a : k ≡ p + 1 = omega arith in
      let b : m ≡ n - (p + 1) = omega arith in
      ap (λ (x : ℕ). with_parent ns p x m) a ∙ ap (λ (x : ℕ). with_parent ns p (p + 1) x) b
  from_all k zero e (suc i) z h l = absurd (let y : ⊥ = omega arith in y)
  from_all k (suc m) e (suc i) z h l =
      rw (ne_eqb (parent_of ns k) p (h k (omega arith))) (from_all (k + 1) m (omega arith) i (omega arith) h l)

pub children :
    (ns : List ℕ) (n p : ℕ) → Descends ns n → Nested ns n → p < n → p < no_parent → children_from ns p (p + 1) (n - (p + 1)) ≡ with_parent ns p 0 n
children ns n p d h l s =
    from-behind ns p n (p + 1) (n - (p + 1)) (omega arith) (omega arith) h
    ∙ sym (from_all ns p n 0 n (omega arith) (p + 1) (omega arith) up l)
  where
    up : (j : ℕ) → j < p + 1 → parent_of ns j ≡ p → ⊥
    up zero g e = (let y : ⊥ = omega (arith, (d 0 (omega (arith, l))).first refl, e, l, s) in y)
    up (suc j) g e = (let y : ⊥ = omega (arith, (d (suc j) (omega (arith, l, g))).later (omega arith), e, g) in y)
