-- What an attribute does to the tables, as one push of specs/Settle.antt. No contract cites this file.
-- In order: the words of the last node's attributes, the four ways (`attribute-none`, `-same`, `-full`, `-kept`), and the same as `keep` says it.
use Rattle.std.specs.Prelude.{Option, Some, None, Result, Ok, Err, unwrap_or}
use Prim.Native.Nat.{ℕ, ◌+◌, ◌-◌, ◌*◌, ◌/◌, ◌≤◌, ◌<◌}
use native.Mathlib.Omega.{arith}
use mathlib.Core.Path.{◌≡◌, refl, sym, ◌∙◌, ap}
use mathlib.Core.List.{List, ◌++◌}
use mathlib.Core.Bool.{Bool, true, false}
use borrow.Author.Tests.{le-leb, lt-leb, eq-eqb, ne_eqb, eqb-true, eqb-false}
use lib.ListN.{length, take, drop, set}
use lib.Seq.{drop_at, take-add, length-take-le, get_or-set_other}
use lib.Dec.{eqb}
use Rattle.errors.specs.declared.Refusal.{Refusal}
use Rattle.errors.specs.declared.Refusal.TheVariants.{AttributesFull}
use Rattle.xml_elements.specs.declared.XmlAttributeElement.{XmlAttributeElement}
use Rattle.records.specs.Words.{node_width, node_first, node_count, attribute_width}
use Rattle.records.specs.Repeats.{Rule, is_repeat}
use Rattle.events.specs.declared.Event.TheVariants.{Attribute}
use Rattle.tables.specs.Inner.Keys.{Key}
use Rattle.walk.specs.declared.tree.Tree.{Tree}
use Rattle.walk.specs.declared.placing.Stop.TheVariants.{Full}
use Rattle.walk.specs.Inner.Tree.{kept_tree, own_words, new_words, Tied, Chained, PlacesBy, Keeps}
use Rattle.walk.proofs.Trees.{take_put, linked-set}

-- the words of the last node's attributes, from the table and from its front
own : (l : List ℕ) (a b : ℕ) → a ≤ b → b ≤ length l → take (b - a) (drop a l) ≡ drop a (take b l)
own l a b h k =
    let e : a + (b - a) ≡ b = omega arith in
    sym
    (ap (λ (x : List ℕ). drop a x) (ap (λ (j : ℕ). take j l) (sym e) ∙ take-add a (b - a) l)
    ∙ drop_at (take a l) (take (b - a) (drop a l)) a (length-take-le a l (omega arith)))

module _ (rule : Rule) (key : Key) (ns ats : List ℕ) (t : Tree) (o : List ℕ) (h : Tied ns ats t o) (p : ℕ) (a : XmlAttributeElement) where
  lu : length (take (node_width * t.nodes) ns) ≡ node_width * t.nodes
  lu = length-take-le (node_width * t.nodes) ns h.sized.nodes

  la : length (take (attribute_width * t.attributes) ats) ≡ attribute_width * t.attributes
  la = length-take-le (attribute_width * t.attributes) ats h.sized.attributes

  dn : node_width * t.nodes / node_width ≡ t.nodes
  dn = omega arith

  owned : own_words t ats ≡ drop (attribute_width * t.first) (take (attribute_width * t.attributes) ats)
  owned = own ats (attribute_width * t.first) (attribute_width * t.attributes) (omega (arith, h.sized.first)) h.sized.attributes

  some : (t.nodes ≡ 0 → ⊥) → length (take (node_width * t.nodes) ns) ≡ 0 → ⊥
  some z e = z (omega (arith, lu))

  pub attribute-none : Chained key ns ats t → t.nodes ≡ 0 → PlacesBy rule key (Ok t) ns ats t o (Attribute p a) ns ats
  attribute-none l z =
      let y : length (take (node_width * t.nodes) ns) ≡ 0 = omega (arith, lu) in
      record { stack = o; tied = h; few = omega arith; chained = l; pushed = λ r os cs rn ra. rw (eq-eqb _ 0 y) }

  pub attribute-same : Chained key ns ats t → (t.nodes ≡ 0 → ⊥) → is_repeat rule (new_words t p a) (own_words t ats) ≡ true
      → PlacesBy rule key (Ok t) ns ats t o (Attribute p a) ns ats
  attribute-same l z e = record { stack = o; tied = h; few = omega arith; chained = l; pushed = λ r os cs rn ra. rw (ne_eqb _ 0 (some z), lu, dn, ← owned, e) }

  pub attribute-full : (ns' ats' : List ℕ) → (t.nodes ≡ 0 → ⊥) → is_repeat rule (new_words t p a) (own_words t ats) ≡ false
      → length ats < attribute_width * t.attributes + attribute_width
      → PlacesBy rule key (Err (Full (AttributesFull (length ats / attribute_width)))) ns ats t o (Attribute p a) ns' ats'
  attribute-full ns' ats' z e none r os cs rn ra =
      let over : r.attributes < length (take (attribute_width * t.attributes) ats) + attribute_width = omega (arith, la) in
      rw (ne_eqb _ 0 (some z), lu, dn, ← owned, e, lt-leb _ _ over, ra)

  pub attribute-kept : (ns' ats' : List ℕ) → (t.nodes ≡ 0 → ⊥) → is_repeat rule (new_words t p a) (own_words t ats) ≡ false
      → attribute_width * t.attributes + attribute_width ≤ length ats
      → length ns' ≡ length ns → length ats' ≡ length ats
      → ats' ≡ take (attribute_width * t.attributes) ats ++ new_words t p a ++ drop (attribute_width * t.attributes + attribute_width) ats
      → take (node_width * t.nodes) ns' ≡ set (take (node_width * t.nodes) ns) (node_width * (t.nodes - 1) + node_count) (t.attributes + 1 - t.first)
      → Chained key ns' ats' (kept_tree t)
      → PlacesBy rule key (Ok (kept_tree t)) ns ats t o (Attribute p a) ns' ats'
  attribute-kept ns' ats' z e room ln lats put words l = record {
    stack = o;
    tied = record {
      sized = record {
        nodes = rw ln h.sized.nodes;
        attributes = rw lats (omega arith);
        first = omega (arith, h.sized.first);
        inside = h.sized.inside;
      };
      linked =
          rw words
          (linked-set (take (node_width * t.nodes) ns) (node_width * (t.nodes - 1) + node_count) (t.attributes + 1 - t.first) (t.nodes - 1) o refl h.linked);
      top = h.top;
      above_root = h.above_root;
      attributes_before_it = λ q.
          rw words
          (get_or-set_other (take (node_width * t.nodes) ns) (node_width * (t.nodes - 1) + node_count) (node_width * t.above_root + node_first)
          (t.attributes + 1 - t.first) 0 (λ y. omega arith)
          ∙ h.attributes_before_it q);
      below = omega (arith, h.below);
    };
    few = omega arith;
    chained = l;
    pushed = λ r os cs rn ra. (
        let fit : length (take (attribute_width * t.attributes) ats) + attribute_width ≤ r.attributes = omega (arith, la) in
        let count : (attribute_width * t.attributes + attribute_width - attribute_width * t.first) / attribute_width ≡ t.attributes + 1 - t.first =
        omega (arith, h.sized.first) in
        rw (ne_eqb _ 0 (some z), lu, dn, ← owned, e, le-leb _ _ fit, words, more, la, count));
  }
    where
      more : take (attribute_width * (t.attributes + 1)) ats' ≡ take (attribute_width * t.attributes) ats ++ new_words t p a
      more =
          let q : attribute_width * t.attributes + attribute_width ≡ attribute_width * (t.attributes + 1) = omega arith in
          take_put ats ats' (new_words t p a) (attribute_width * t.attributes) (attribute_width * (t.attributes + 1)) (omega arith) q (rw q at put)

-- ---- as `keep` says it

module _ (rule : Rule) (key : Key) (ns ats ns' ats' : List ℕ) (t : Tree) (o : List ℕ) (h : Tied ns ats t o) (l : Chained key ns ats t) (p : ℕ)
    (a : XmlAttributeElement) where
  pub keep_same : {r : Result (Option Tree) Refusal} → r ≡ Ok None → Keeps rule key r t p a ns ats ns' ats'
      → PlacesBy rule key (Ok t) ns ats t o (Attribute p a) ns' ats'
  keep_same e q₀ = let q = rw e at q₀ in rw (q.nodes, q.attributes) (go (eqb t.nodes 0) refl q.there)
    where
      go : (b : Bool) → eqb t.nodes 0 ≡ b → ((t.nodes ≡ 0 → ⊥) → is_repeat rule (new_words t p a) (own_words t ats) ≡ true)
          → PlacesBy rule key (Ok t) ns ats t o (Attribute p a) ns ats
      go true z q = attribute-none rule key ns ats t o h p a l (eqb-true _ _ z)
      go false z q = attribute-same rule key ns ats t o h p a l (eqb-false _ _ z) (q (eqb-false _ _ z))

  pub keep-full : {r : Result (Option Tree) Refusal} (x : Refusal) → r ≡ Err x → Keeps rule key r t p a ns ats ns' ats'
      → PlacesBy rule key (Err (Full x)) ns ats t o (Attribute p a) ns' ats'
  keep-full x e q₀ = let q = rw e at q₀ in rw q.0 (attribute-full rule key ns ats t o h p a ns' ats' q.1.some q.1.new q.1.full)

  pub keep-stored : {r : Result (Option Tree) Refusal} (u : Tree) → r ≡ Ok (Some u) → Keeps rule key r t p a ns ats ns' ats' → length ns' ≡ length ns
      → length ats' ≡ length ats
      → PlacesBy rule key (Ok u) ns ats t o (Attribute p a) ns' ats'
  keep-stored u e q₀ ln la =
      let q = rw e at q₀ in
      rw q.tree (attribute-kept rule key ns ats t o h p a ns' ats' q.some q.new q.room ln la q.attributes q.nodes (rw q.tree at q.chained))

  -- the tree behind an attribute that was not refused: the one before it, where it is not stored
  pub keep-kept : (k : Option Tree) {r : Result (Option Tree) Refusal} → r ≡ Ok k → Keeps rule key r t p a ns ats ns' ats' → length ns' ≡ length ns
      → length ats' ≡ length ats → PlacesBy rule key (Ok (unwrap_or k t)) ns ats t o (Attribute p a) ns' ats'
  keep-kept None e q ln la = keep_same e q
  keep-kept (Some u) e q ln la = keep-stored u e q ln la
