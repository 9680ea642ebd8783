-- The tables of the two modes beside each other: docs/FORMAT.md, W22, W23, B16. For proofs/Modes/Theorem.antt. No contract cites this file.
--
--   Mark          where a node's attributes begin in both, those before are merged
--   Covers        a repeat among the attributes of the second is one among those of the first
--   TablesBeside  all that holds of both; tables-none, tables-all: of no event, and of all of them
--   tables-kept   so what is kept of the first is what is kept of the second, merged
use Prim.Native.Nat.{ℕ, ◌+◌, ◌-◌, ◌*◌, ◌/◌, ◌≤◌, ◌<◌}
use native.Mathlib.Omega.{arith}
use mathlib.Core.Path.{◌≡◌, refl, sym, ◌∙◌, ap, subst}
use mathlib.Core.List.{List, [], ◌∷◌, ◌++◌}
use mathlib.Core.Bool.{Bool, true, false, cond, ◌||◌, true≢false}
use lib.ListN.{length, take, drop, length-append, length-set, length-drop}
use lib.Seq.{take-append-le, drop-append-le, take-length, drop-length}
use lib.Dec.{eqb}
use Rattle.xml_elements.specs.declared.XmlAttributeElement.{XmlAttributeElement}
use Rattle.events.specs.declared.Event.{Event}
use Rattle.events.specs.declared.Event.TheVariants.{Nothing, Open, Attribute, LeftOut, Close, Note, Refuse, Finish}
use Rattle.records.specs.Words.{node_width, node_first, node_words, attribute_width, attribute_words}
use Rattle.records.specs.Repeats.{Rule, by_prefix, repeats_one, is_repeat}
use Rattle.walk.specs.Settle.{Tables, opened, closed, kept, last_node, record_of, repeated, parent_in, closed_in}
use Rattle.walk.specs.Reading.{Dropped, none_dropped, dropped_from, dropped_in, attributes_kept_by, attributes_kept}
use Rattle.claims.specs.Shape.{begin}
use Rattle.claims.specs.Modes.{merged_prefix, Merges, none, both, lost}
use Rattle.claims.proofs.Settle.TableGrowth.{bare, grow, grown}
use Rattle.claims.proofs.Settle.StoreAll.{empty}
use Rattle.claims.proofs.Structure.Words.{counting, word-old, word-new, word-other}
use Rattle.claims.proofs.Structure.Shape.{Falls, DroppedBelow, dropped-below, split-lt}
use Rattle.claims.proofs.Modes.MergedEvents.{merge_all}
use Rattle.claims.proofs.Modes.Repeats.{or_right, or-by, no_true, merged-not-own, repeat-append, repeat-other, hit-of, hit-merged}

module _ (same : ℕ → ℕ → Bool) (trans : (i j k : ℕ) → same i j ≡ true → same j k ≡ true → same i k ≡ true) where
  abbrev rule : Rule
  rule = by_prefix same

  -- the attributes before the node's first, in both
  pub record Mark (v₁ v₂ : List ℕ) (b₁ b₂ : ℕ) : Type 0 where
    pub low₁ : attribute_width * b₁ ≤ length v₁
    pub low₂ : attribute_width * b₂ ≤ length v₂
    pub here : Merges (take (attribute_width * b₁) v₁) (take (attribute_width * b₂) v₂)

  mark-both : {v₁ v₂ : List ℕ} {b₁ b₂ : ℕ} (x₁ x₂ : List ℕ) → Mark v₁ v₂ b₁ b₂ → Mark (v₁ ++ x₁) (v₂ ++ x₂) b₁ b₂
  mark-both {v₁} {v₂} {b₁} {b₂} x₁ x₂ m = record {
    low₁ = rw length-append (omega (arith, m.low₁));
    low₂ = rw length-append (omega (arith, m.low₂));
    here = rw (take-append-le (attribute_width * b₁) v₁ x₁ m.low₁, take-append-le (attribute_width * b₂) v₂ x₂ m.low₂) m.here;
  }

  mark-second : {v₁ v₂ : List ℕ} {b₁ b₂ : ℕ} (x₂ : List ℕ) → Mark v₁ v₂ b₁ b₂ → Mark v₁ (v₂ ++ x₂) b₁ b₂
  mark-second {v₁} {v₂} {b₁} {b₂} x₂ m = record {
    low₁ = m.low₁;
    low₂ = rw length-append (omega (arith, m.low₂));
    here = rw (take-append-le (attribute_width * b₂) v₂ x₂ m.low₂) m.here;
  }

  abbrev pub Covers : List ℕ → List ℕ → Type 0
  Covers own₁ own₂ = (o p n k v s : ℕ) → is_repeat rule (attribute_words o p n k v s) own₂ ≡ true
      → is_repeat rule (attribute_words o (merged_prefix p) n k v s) own₁ ≡ true

  pub record TablesBeside (t u : Tables) : Type 0 where
    pub n : ℕ
    pub m₁ : ℕ
    pub m₂ : ℕ
    pub j₁ : ℕ
    pub j₂ : ℕ
    pub stack : t.stack ≡ u.stack
    pub nodes₁ : length t.nodes ≡ node_width * n
    pub nodes₂ : length u.nodes ≡ node_width * n
    pub many₁ : length t.attributes ≡ attribute_width * m₁
    pub many₂ : length u.attributes ≡ attribute_width * m₂
    pub first₁ : t.first + attribute_width * j₁ ≡ attribute_width * m₁
    pub first₂ : u.first + attribute_width * j₂ ≡ attribute_width * m₂
    pub all : Merges t.attributes u.attributes
    pub marks : (k : ℕ) → k < n → Mark t.attributes u.attributes (begin t.nodes k) (begin u.nodes k)
    pub covers : Covers (drop t.first t.attributes) (drop u.first u.attributes)

  pub tables-none : TablesBeside (bare empty) (bare empty)
  unfolding repeats_one
  tables-none = record {
    n = 0;
    m₁ = 0;
    m₂ = 0;
    j₁ = 0;
    j₂ = 0;
    stack = refl;
    nodes₁ = refl;
    nodes₂ = refl;
    many₁ = refl;
    many₂ = refl;
    first₁ = refl;
    first₂ = refl;
    all = none;
    marks = λ k l. absurd (let z : ⊥ = omega arith in z);
    covers = λ o p n k v s e. no_true e;
  }

  beside-closed : (t u : Tables) → TablesBeside t u → TablesBeside (closed t) (closed u)
  beside-closed t u h = record {
    n = h.n;
    m₁ = h.m₁;
    m₂ = h.m₂;
    j₁ = h.j₁;
    j₂ = h.j₂;
    stack = ap closed_in h.stack;
    nodes₁ = h.nodes₁;
    nodes₂ = h.nodes₂;
    many₁ = h.many₁;
    many₂ = h.many₂;
    first₁ = h.first₁;
    first₂ = h.first₂;
    all = h.all;
    marks = h.marks;
    covers = h.covers;
  }

  beside-opened : (t u : Tables) (name fixed line : ℕ) → TablesBeside t u → TablesBeside (opened t name fixed line) (opened u name fixed line)
  unfolding repeats_one
  beside-opened t u name fixed line h =
      let a₁ : length t.attributes / attribute_width ≡ h.m₁ = omega (arith, h.many₁) in
      let a₂ : length u.attributes / attribute_width ≡ h.m₂ = omega (arith, h.many₂) in
      let c₁ : length t.nodes / node_width ≡ h.n = omega (arith, h.nodes₁) in
      let c₂ : length u.nodes / node_width ≡ h.n = omega (arith, h.nodes₂) in
      rw (a₁, a₂, c₁, c₂) (record {
        n = h.n + 1;
        m₁ = h.m₁;
        m₂ = h.m₂;
        j₁ = 0;
        j₂ = 0;
        stack = ap (λ (s : List ℕ). h.n ∷ s) h.stack;
        nodes₁ = rw length-append (omega (arith, h.nodes₁));
        nodes₂ = rw length-append (omega (arith, h.nodes₂));
        many₁ = h.many₁;
        many₂ = h.many₂;
        first₁ = omega (arith, h.many₁);
        first₂ = omega (arith, h.many₂);
        all = h.all;
        marks = λ k l. split-lt (λ (j : ℕ). Mark t.attributes u.attributes
            (begin (t.nodes ++ node_words name fixed (parent_in t.stack) h.m₁ 0 line) j)
            (begin (u.nodes ++ node_words name fixed (parent_in u.stack) h.m₂ 0 line) j)) h.n k l
            (λ g.
            rw (
              word-old node_width t.nodes (node_words name fixed (parent_in t.stack) h.m₁ 0 line) h.n h.nodes₁ k node_first g (omega arith),
              word-old node_width u.nodes (node_words name fixed (parent_in u.stack) h.m₂ 0 line) h.n h.nodes₂ k node_first g (omega arith),
            ) (h.marks k g))
            (rw (
              word-new node_width t.nodes (node_words name fixed (parent_in t.stack) h.m₁ 0 line) h.n h.nodes₁ node_first,
              word-new node_width u.nodes (node_words name fixed (parent_in u.stack) h.m₂ 0 line) h.n h.nodes₂ node_first,
            ) (record {
              low₁ = omega (arith, h.many₁);
              low₂ = omega (arith, h.many₂);
              here = rw (← h.many₁, ← h.many₂, take-length t.attributes, take-length u.attributes) h.all;
            }));
        covers = λ o p n k v s e. no_true (rw (drop-length u.attributes) at e);
      })

  -- ---- an attribute

  module _ (t u : Tables) (h : TablesBeside t u) (p : ℕ) (a : XmlAttributeElement) where
    abbrev new₁ : List ℕ
    new₁ = record_of t (merged_prefix p) a

    abbrev new₂ : List ℕ
    new₂ = record_of u p a

    abbrev own₁ : List ℕ
    own₁ = drop t.first t.attributes

    abbrev own₂ : List ℕ
    own₂ = drop u.first u.attributes

    same-last : last_node t ≡ last_node u
    same-last = ap (λ (x : ℕ). x / node_width - 1) (h.nodes₁ ∙ sym h.nodes₂)

    inside₁ : t.first ≤ length t.attributes
    inside₁ = omega (arith, h.first₁, h.many₁)

    inside₂ : u.first ≤ length u.attributes
    inside₂ = omega (arith, h.first₂, h.many₂)

    long₁ : length own₁ ≡ attribute_width * h.j₁
    long₁ = rw length-drop (omega (arith, h.first₁, h.many₁))

    long₂ : length own₂ ≡ attribute_width * h.j₂
    long₂ = rw length-drop (omega (arith, h.first₂, h.many₂))

    -- what the second mode leaves out the first does
    never : repeated rule t (merged_prefix p) a ≡ false → repeated rule u p a ≡ true → ⊥
    never n r =
        let c = h.covers (last_node u) p a.name.0 a.data_type a.«data» a.namespace_uri.0 r in
        true≢false (sym (rw (← same-last) at c) ∙ n)

    covers-lost : repeated rule t (merged_prefix p) a ≡ true → Covers own₁ (own₂ ++ new₂)
    covers-lost r o q n k v s e =
        or-by (is_repeat rule (attribute_words o q n k v s) own₂) (rule (attribute_words o q n k v s) new₂)
        (sym (repeat-append same trans (attribute_words o q n k v s) new₂ refl h.j₂ own₂ long₂) ∙ e)
        (λ x. h.covers o q n k v s x)
        (λ x.
        let y = hit-of same trans o q n k v s (last_node u) p a.name.0 a.data_type a.«data» a.namespace_uri.0 x in
        let z = repeat-other same trans (last_node t) (merged_prefix p) a.name.0 a.data_type a.«data» a.namespace_uri.0 o n k v s
        (merged-not-own p) y.1 (length own₁ / attribute_width) own₁ r in
        subst (λ (w : ℕ). is_repeat rule (attribute_words o (merged_prefix w) n k v s) own₁ ≡ true) y.0 z)

    covers-both : Covers (own₁ ++ new₁) (own₂ ++ new₂)
    covers-both o q n k v s e =
        or-by (is_repeat rule (attribute_words o q n k v s) own₂) (rule (attribute_words o q n k v s) new₂)
        (sym (repeat-append same trans (attribute_words o q n k v s) new₂ refl h.j₂ own₂ long₂) ∙ e)
        (λ x. more ∙ rw (h.covers o q n k v s x))
        (λ x.
        let y = hit-of same trans o q n k v s (last_node u) p a.name.0 a.data_type a.«data» a.namespace_uri.0 x in
        let z = hit-merged same trans o p n k v s (last_node t) a.name.0 a.data_type a.«data» a.namespace_uri.0 y.1 in
        let w : rule (attribute_words o (merged_prefix q) n k v s) new₁ ≡ true =
        subst (λ (w : ℕ). rule (attribute_words o (merged_prefix w) n k v s) new₁ ≡ true) y.0 z in
        more ∙ or_right (is_repeat rule (attribute_words o (merged_prefix q) n k v s) own₁) w)
      where
        more : is_repeat rule (attribute_words o (merged_prefix q) n k v s) (own₁ ++ new₁)
            ≡ (is_repeat rule (attribute_words o (merged_prefix q) n k v s) own₁ || rule (attribute_words o (merged_prefix q) n k v s) new₁)
        more = repeat-append same trans (attribute_words o (merged_prefix q) n k v s) new₁ refl h.j₁ own₁ long₁

    -- the count of a node says nothing of where it begins
    begin-kept : (w : List ℕ) (l x k : ℕ) → begin (counting w l x) k ≡ begin w k
    begin-kept w l x k = word-other w l k node_first x (λ e z. omega arith) (omega arith)

    beside-lost : repeated rule t (merged_prefix p) a ≡ true → TablesBeside t (kept u p a)
    beside-lost r = record {
      n = h.n;
      m₁ = h.m₁;
      m₂ = h.m₂ + 1;
      j₁ = h.j₁;
      j₂ = h.j₂ + 1;
      stack = h.stack;
      nodes₁ = h.nodes₁;
      nodes₂ = rw length-set h.nodes₂;
      many₁ = h.many₁;
      many₂ = rw length-append (omega (arith, h.many₂));
      first₁ = h.first₁;
      first₂ = omega (arith, h.first₂);
      all = lost (last_node u) p a.name.0 a.data_type a.«data» a.namespace_uri.0 h.all;
      marks = λ k l. rw (begin-kept u.nodes (last_node u) _ k) (mark-second new₂ (h.marks k l));
      covers = rw (drop-append-le u.first u.attributes new₂ inside₂) (covers-lost r);
    }

    beside-both : TablesBeside (kept t (merged_prefix p) a) (kept u p a)
    beside-both = record {
      n = h.n;
      m₁ = h.m₁ + 1;
      m₂ = h.m₂ + 1;
      j₁ = h.j₁ + 1;
      j₂ = h.j₂ + 1;
      stack = h.stack;
      nodes₁ = rw length-set h.nodes₁;
      nodes₂ = rw length-set h.nodes₂;
      many₁ = rw length-append (omega (arith, h.many₁));
      many₂ = rw length-append (omega (arith, h.many₂));
      first₁ = omega (arith, h.first₁);
      first₂ = omega (arith, h.first₂);
      all = rw same-last (both (last_node u) p a.name.0 a.data_type a.«data» a.namespace_uri.0 h.all);
      marks = λ k l.
          rw (begin-kept t.nodes (last_node t) _ k, begin-kept u.nodes (last_node u) _ k) (mark-both new₁ new₂ (h.marks k l));
      covers = rw (drop-append-le t.first t.attributes new₁ inside₁, drop-append-le u.first u.attributes new₂ inside₂) covers-both;
    }

    beside-attribute : TablesBeside (grow rule t (Attribute (merged_prefix p) a)) (grow rule u (Attribute p a))
    beside-attribute =
        let e : eqb (length u.nodes) 0 ≡ eqb (length t.nodes) 0 = ap (λ (x : ℕ). eqb x 0) (h.nodes₂ ∙ sym h.nodes₁) in
        rw e (go (eqb (length t.nodes) 0) (repeated rule t (merged_prefix p) a) (repeated rule u p a) refl refl)
      where
        go : (z b₁ b₂ : Bool) → repeated rule t (merged_prefix p) a ≡ b₁ → repeated rule u p a ≡ b₂
            → TablesBeside (cond z t (cond b₁ t (kept t (merged_prefix p) a))) (cond z u (cond b₂ u (kept u p a)))
        go true b₁ b₂ e₁ e₂ = h
        go false true true e₁ e₂ = h
        go false true false e₁ e₂ = beside-lost e₁
        go false false true e₁ e₂ = absurd (never e₁ e₂)
        go false false false e₁ e₂ = beside-both

  -- ---- all events

  pub tables-all : (es : List Event) (t u : Tables) → TablesBeside t u → TablesBeside (grown rule t (merge_all es)) (grown rule u es)
  tables-all [] t u h = h
  tables-all (Nothing ∷ es) t u h = tables-all es t u h
  tables-all (Finish ∷ es) t u h = tables-all es t u h
  tables-all (LeftOut n ∷ es) t u h = tables-all es t u h
  tables-all (Refuse x ∷ es) t u h = tables-all es t u h
  tables-all (Note x ∷ es) t u h = tables-all es t u h
  tables-all (Close ∷ es) t u h = tables-all es (closed t) (closed u) (beside-closed t u h)
  tables-all (Open name fixed line ∷ es) t u h =
      tables-all es (opened t name.0 fixed line) (opened u name.0 fixed line) (beside-opened t u name.0 fixed line h)
  tables-all (Attribute p a ∷ es) t u h =
      tables-all es (grow rule t (Attribute (merged_prefix p) a)) (grow rule u (Attribute p a)) (beside-attribute t u h p a)

  -- what is kept of both
  pub tables-kept : (t u : Tables) → TablesBeside t u → (n : ℕ) → length u.nodes ≡ node_width * n → Falls n u.stack
      → Merges (take (attribute_width * attributes_kept t) t.attributes) (take (attribute_width * attributes_kept u) u.attributes)
  tables-kept t u h n len falls = rw h.stack (go (dropped_in u.stack) (dropped-below n u.stack falls))
    where
      go : (d : Dropped) → DroppedBelow n d
          → Merges (take (attribute_width * attributes_kept_by t.nodes (length t.attributes / attribute_width) d) t.attributes)
          (take (attribute_width * attributes_kept_by u.nodes (length u.attributes / attribute_width) d) u.attributes)
      go none_dropped b =
          let a₁ : attribute_width * (length t.attributes / attribute_width) ≡ length t.attributes = omega (arith, h.many₁) in
          let a₂ : attribute_width * (length u.attributes / attribute_width) ≡ length u.attributes = omega (arith, h.many₂) in
          rw (a₁, a₂, take-length t.attributes, take-length u.attributes) h.all
      go (dropped_from s) b = (h.marks s (omega (arith, b.1, len, h.nodes₂))).here
