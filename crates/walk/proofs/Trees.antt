-- What an element that opens or closes does to the tables, as one push of specs/Settle.antt. No contract cites this file.
-- In order: words put at a place, the list of open elements, a node opens (`node_opens`), an element closes (`node-closes`).
-- Not here: attributes (Attributes.antt).
use Rattle.std.specs.Prelude.{Result, Ok, Err, IsErrAnd}
use Rattle.std.proofs.lemmas.Result.{err_from_is_err_and}
use Prim.Native.Nat.{ℕ, ◌+◌, ◌*◌, ◌/◌, ◌≤◌, ◌<◌}
use native.Mathlib.Omega.{arith}
use mathlib.Core.Path.{◌≡◌, refl, sym, ◌∙◌, ap, subst}
use mathlib.Core.List.{List, [], ◌∷◌, ◌++◌}
use mathlib.Core.Bool.{cond}
use borrow.Author.Tests.{le-leb, lt-leb, eq-eqb, ne_eqb}
use lib.ListN.{length, take, drop, set, get_or, length-append, length-set, get_or-append}
use lib.Seq.{take_at, length-take-le, get_or-set_other, get_or-append-add, get_or-take}
use lib.Dec.{eqb}
use Rattle.common.specs.declared.StringIndex.{StringIndex}
use Rattle.anomaly.specs.declared.Note.{Note as NoteOf}
use Rattle.records.specs.Words.{node_width, node_parent, node_first, node_count, attribute_width}
use Rattle.records.specs.Repeats.{Rule}
use Rattle.errors.specs.declared.Refusal.TheVariants.{NodesFull}
use Rattle.events.specs.declared.Event.TheVariants.{Open, Close}
use Rattle.tables.specs.Inner.Keys.{Key, keys_of}
use Rattle.tables.specs.Inner.Ways.{front_words}
use Rattle.tables.proofs.Ways.{hung-none}
use Rattle.walk.specs.declared.placing.Stop.TheVariants.{Full}
use Rattle.walk.specs.declared.tree.Tree.{Tree}
use Rattle.walk.specs.Settle.{Room, going, push, parent_in, closed_in}
use Rattle.walk.specs.Reading.{Dropped, none_dropped, dropped_from, dropped_in}
use Rattle.walk.specs.Inner.Tree.{parent_of, opened_tree, closed_tree, opened_words, Linked, above_root_of, Tied, tables_of, behind_of, Chained, PlacesBy}

pub take_put : (l l' w : List ℕ) (i j : ℕ) → i ≤ length l → i + length w ≡ j → l' ≡ take i l ++ w ++ drop j l → take j l' ≡ take i l ++ w
take_put l l' w i j h e q = rw (q, take_at (take i l ++ w) (drop j l) j (length-append (take i l) w ∙ rw (length-take-le i l h) e))

get_d-behind : (w v : List ℕ) (n m : ℕ) → length w ≡ n → get_or (w ++ v) (n + m) 0 ≡ get_or v m 0
get_d-behind w v n m e = ap (λ (i : ℕ). get_or (w ++ v) (i + m) 0) (sym e) ∙ get_or-append-add w v m 0

-- what the exit of a `?` answers, where the refusal is known
pub err_is : {T E : Type 0} (r : Result T E) (x : E) → IsErrAnd r (λ y. y ≡ x) → r ≡ Err x
err_is r x h = let e = err_from_is_err_and r h in e.1 ∙ ap Err e.2

-- ---- the list of open elements

linked-some : (w : List ℕ) (k : ℕ) (r : List ℕ) → Linked w (k ∷ r) → node_width ≤ length w
linked-some w k [] h = h.1
linked-some w k (j ∷ r) h = omega (arith, h.1)

linked-append : (w v : List ℕ) (k : ℕ) (r : List ℕ) → Linked w (k ∷ r) → Linked (w ++ v) (k ∷ r)
linked-append w v k [] h = (h.0, rw length-append (omega (arith, h.1)))
linked-append w v k (j ∷ r) h = (
  h.0,
  rw length-append (omega (arith, h.1)),
  get_or-append w v 0 (node_width * k + node_parent) (omega (arith, h.1)) ∙ h.2,
  linked-append w v j r h.3,
)

-- a count of attributes is no parent
pub linked-set : (w : List ℕ) (i x n : ℕ) (o : List ℕ) → i ≡ node_width * n + node_count → Linked w o → Linked (set w i x) o
linked-set w i x n [] e h = rw length-set h
linked-set w i x n (k ∷ []) e h = (h.0, rw length-set h.1)
linked-set w i x n (k ∷ j ∷ r) e h = (
  h.0,
  rw length-set h.1,
  get_or-set_other w i (node_width * k + node_parent) x 0 (λ z. omega arith) ∙ h.2,
  linked-set w i x n (j ∷ r) e h.3,
)

-- the first node that is dropped is not the first of all, and it is stored
abbrev pub DroppedStored : List ℕ → Dropped → Type 0
DroppedStored w none_dropped = Unit {0}
DroppedStored w (dropped_from k) = (0 < k) × (node_width * k + node_width ≤ length w)

pub dropped-stored : (w o : List ℕ) → Linked w o → DroppedStored w (dropped_in o)
dropped-stored w [] h = tt
dropped-stored w (k ∷ []) h = tt
dropped-stored w (k ∷ j ∷ []) h = (h.0, h.1)
dropped-stored w (k ∷ j ∷ i ∷ r) h = dropped-stored w (j ∷ i ∷ r) h.3

pub above_in : (w : List ℕ) (d : Dropped) (n : ℕ) → DroppedStored w d → above_root_of d ≡ n → (n ≡ 0 → ⊥) → node_width * n + node_width ≤ length w
above_in w none_dropped n h e some = absurd (some (sym e))
above_in w (dropped_from k) n h e some = omega (arith, h.1)

-- ---- a node opens

module _ (rule : Rule) (key : Key) (ns ats ns' : List ℕ) (t : Tree) (name : StringIndex) (fixed line : ℕ) (room : node_width * t.nodes + node_width ≤ length ns)
    (len : length ns' ≡ length ns)
    (put : ns' ≡ take (node_width * t.nodes) ns ++ opened_words t name.0 fixed line ++ drop (node_width * t.nodes + node_width) ns) where
  abbrev w : List ℕ
  w = take (node_width * t.nodes) ns

  abbrev opening : List ℕ
  opening = opened_words t name.0 fixed line

  lw : length w ≡ node_width * t.nodes
  lw = length-take-le (node_width * t.nodes) ns (omega arith)

  words : take (node_width * (t.nodes + 1)) ns' ≡ w ++ opening
  words =
      let e : node_width * t.nodes + node_width ≡ node_width * (t.nodes + 1) = omega arith in
      take_put ns ns' opening (node_width * t.nodes) (node_width * (t.nodes + 1)) (omega arith) e (rw e at put)

  parent : (o : List ℕ) → Tied ns ats t o → parent_of t ≡ parent_in o
  parent [] h = let z : t.nodes ≡ 0 = omega (arith, h.linked, lw) in rw (eq-eqb t.nodes 0 z)
  parent (k ∷ r) h = let q = linked-some w k r h.linked in rw (ne_eqb t.nodes 0 (λ z. omega (arith, lw))) (sym h.top)

  linked : (o : List ℕ) → Tied ns ats t o → Linked (w ++ opening) (t.nodes ∷ o)
  linked [] h = (omega (arith, h.linked, lw), rw length-append (omega (arith, lw)))
  linked (k ∷ r) h =
      let q = linked-some w k r h.linked in (
        omega (arith, lw),
        rw length-append (omega (arith, lw)),
        get_d-behind w opening (node_width * t.nodes) node_parent lw ∙ parent (k ∷ r) h,
        linked-append w opening k r h.linked,
      )

  module _ (o : List ℕ) (h : Tied ns ats t o) (u : Tree) (un : u.nodes ≡ t.nodes + 1) (ua : u.attributes ≡ t.attributes)
      (uf : u.first ≡ t.attributes) (ui : u.inner ≡ t.nodes) (us : above_root_of (dropped_in (t.nodes ∷ o)) ≡ u.above_root)
      (uu : (u.above_root ≡ 0 → ⊥) → get_or (w ++ opening) (node_width * u.above_root + node_first) 0 ≡ u.attributes_before_it)
      (ub : u.attributes_before_it ≤ t.attributes) where
    pushed : (r : Room) (os : List NoteOf) (cs : List ℕ) → r.nodes ≡ length ns → r.attributes ≡ length ats
        → push rule r (going (tables_of ns ats t o os cs)) (Open name fixed line) ≡ going (tables_of ns' ats u (t.nodes ∷ o) os cs)
    pushed r os cs rn ra =
        let la : length (take (attribute_width * t.attributes) ats) ≡ attribute_width * t.attributes =
        length-take-le (attribute_width * t.attributes) ats h.sized.attributes in
        let fit : length w + node_width ≤ r.nodes = omega (arith, lw) in
        let da : attribute_width * t.attributes / attribute_width ≡ t.attributes = omega arith in
        let dn : node_width * t.nodes / node_width ≡ t.nodes = omega arith in
        rw (le-leb _ _ fit, un, ua, uf, words, ← parent o h, la, lw, da, dn)

    tied : Tied ns' ats u (t.nodes ∷ o)
    tied = record {
      sized = record {
        nodes = rw (un, len) (omega arith);
        attributes = rw ua h.sized.attributes;
        first = rw (uf, ua) (omega arith);
        inside = λ _. rw (un, ui) (omega arith);
      };
      linked = subst (λ (v : List ℕ). Linked v (t.nodes ∷ o)) (sym (ap (λ (n : ℕ). take (node_width * n) ns') un ∙ words)) (linked o h);
      top = sym ui;
      above_root = us;
      attributes_before_it = rw (un, words) uu;
      below = rw ua ub;
    }

    chained : Chained key ns' ats u
    chained _ =
        hung-none (keys_of key (drop (attribute_width * u.first + front_words) ats)) (drop (node_width * u.nodes) ns') (behind_of u) (omega (arith, ua, uf))

    done : PlacesBy rule key (Ok u) ns ats t o (Open name fixed line) ns' ats
    done = record { stack = t.nodes ∷ o; tied = tied; few = rw (un, ua) (omega arith); chained = chained; pushed = pushed }

  pub node_opens : (o : List ℕ) → Tied ns ats t o → PlacesBy rule key (Ok (opened_tree t)) ns ats t o (Open name fixed line) ns' ats
  node_opens [] h =
      let z : t.nodes ≡ 0 = omega (arith, h.linked, lw) in
      rw (eq-eqb t.nodes 0 z)
      (done [] h (record t { nodes = 1; first = t.attributes; inner = 0; above_root = 0; attributes_before_it = 0 }) (omega arith) refl refl (sym z)
      refl (λ n. absurd (n refl)) (omega arith))
  node_opens (k ∷ []) h =
      let q = linked-some w k [] h.linked in
      let e : t.inner ≡ 0 = sym h.top ∙ h.linked.0 in
      rw (ne_eqb t.nodes 0 (λ z. omega (arith, lw)), eq-eqb t.inner 0 e)
      (done (k ∷ []) h
      (record t { nodes = t.nodes + 1; first = t.attributes; inner = t.nodes; above_root = t.nodes; attributes_before_it = t.attributes })
      refl refl refl refl refl (λ _. get_d-behind w opening (node_width * t.nodes) node_first lw) (omega arith))
  node_opens (k ∷ j ∷ r) h =
      let q = linked-some w k (j ∷ r) h.linked in
      let e : (t.inner ≡ 0 → ⊥) = λ z. omega (arith, h.top, h.linked.0) in
      let b = above_in w (dropped_in (k ∷ j ∷ r)) t.above_root (dropped-stored w (k ∷ j ∷ r) h.linked) h.above_root in
      rw (ne_eqb t.nodes 0 (λ z. omega (arith, lw)), ne_eqb t.inner 0 e)
      (done (k ∷ j ∷ r) h
      (record t { nodes = t.nodes + 1; first = t.attributes; inner = t.nodes })
      refl refl refl refl h.above_root
      (λ n. get_or-append w opening 0 (node_width * t.above_root + node_first) (omega (arith, b n)) ∙ h.attributes_before_it n) h.below)

-- no place for it
pub node-full : (rule : Rule) (key : Key) (ns ats ns' : List ℕ) (t : Tree) (name : StringIndex) (fixed line : ℕ) (o : List ℕ) → Tied ns ats t o
    → length ns < node_width * t.nodes + node_width → PlacesBy rule key (Err (Full (NodesFull (length ns / node_width)))) ns ats t o (Open name fixed line) ns' ats
node-full rule key ns ats ns' t name fixed line o h none r os cs rn ra =
    let lw : length (take (node_width * t.nodes) ns) ≡ node_width * t.nodes = length-take-le (node_width * t.nodes) ns h.sized.nodes in
    let over : r.nodes < length (take (node_width * t.nodes) ns) + node_width = omega (arith, lw) in
    rw (lt-leb _ _ over, rn)

-- ---- an element closes

module _ (rule : Rule) (key : Key) (ns ats : List ℕ) (t : Tree) where
  abbrev u : List ℕ
  u = take (node_width * t.nodes) ns

  stays : (o : List ℕ) → Tied ns ats t o → Chained key ns ats t → closed_in o ≡ o → PlacesBy rule key (Ok t) ns ats t o Close ns ats
  stays o h l e = record { stack = o; tied = h; few = omega arith; chained = l; pushed = λ r os cs rn ra. rw e }

  -- the parent word of the innermost is the next of the open elements
  parent-word : (k j : ℕ) (r : List ℕ) → Tied ns ats t (k ∷ j ∷ r) → get_or ns (node_width * t.inner + node_parent) 0 ≡ j
  parent-word k j r h =
      let lu : length u ≡ node_width * t.nodes = length-take-le (node_width * t.nodes) ns h.sized.nodes in
      rw (← h.top) (sym (get_or-take (node_width * t.nodes) ns (node_width * k + node_parent) 0 (omega (arith, h.linked.1, lu))) ∙ h.linked.2)

  pub node-closes : (o : List ℕ) → Tied ns ats t o → Chained key ns ats t
      → PlacesBy rule key (Ok (cond (eqb t.inner 0) t (closed_tree t (get_or ns (node_width * t.inner + node_parent) 0)))) ns ats t o Close ns ats
  node-closes [] h l = rw (eq-eqb t.inner 0 (sym h.top)) (stays [] h l refl)
  node-closes (k ∷ []) h l = rw (eq-eqb t.inner 0 (sym h.top ∙ h.linked.0)) (stays (k ∷ []) h l refl)
  node-closes (k ∷ j ∷ []) h l =
      let e : (t.inner ≡ 0 → ⊥) = λ z. omega (arith, h.top, h.linked.0) in
      rw (ne_eqb t.inner 0 e, parent-word k j [] h, eq-eqb j 0 h.linked.3.0)
      (record {
        stack = j ∷ [];
        tied = record {
          sized = record { nodes = h.sized.nodes; attributes = h.sized.attributes; first = h.sized.first; inside = λ n. absurd (n refl) };
          linked = h.linked.3;
          top = h.linked.3.0;
          above_root = refl;
          attributes_before_it = λ n. absurd (n refl);
          below = omega arith;
        };
        few = omega arith;
        chained = l;
        pushed = λ r os cs rn ra. refl;
      })
  node-closes (k ∷ j ∷ i ∷ r) h l =
      let lu : length u ≡ node_width * t.nodes = length-take-le (node_width * t.nodes) ns h.sized.nodes in
      let e : (t.inner ≡ 0 → ⊥) = λ z. omega (arith, h.top, h.linked.0) in
      let p : (j ≡ 0 → ⊥) = λ z. omega (arith, h.linked.3.0) in
      let in_tree : j < t.nodes = omega (arith, h.linked.3.1, lu) in
      rw (ne_eqb t.inner 0 e, parent-word k j (i ∷ r) h, ne_eqb j 0 p)
      (record {
        stack = j ∷ i ∷ r;
        tied = record {
          sized = record { nodes = h.sized.nodes; attributes = h.sized.attributes; first = h.sized.first; inside = λ n. in_tree };
          linked = h.linked.3;
          top = refl;
          above_root = h.above_root;
          attributes_before_it = h.attributes_before_it;
          below = h.below;
        };
        few = omega arith;
        chained = l;
        pushed = λ s os cs rn ra. refl;
      })
