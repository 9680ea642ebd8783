-- The last node's attributes behind the first 32, as `keep_far` finds and leaves them: linked, in the words behind the nodes. No contract cites this file.
-- In order: which attributes are far (`far-of`), what is compared one by one (`front-found`, `front-near`, `front-first`), the words behind the first 32
-- (`behind-hung`, `own_behind`), the node's count (`counted-nodes`), one more where it is not linked (`chained-near`), and where it is (`linked-nodes`,
-- `chained-far`).
use Rattle.std.specs.Prelude.{Option, is_none}
use Prim.Native.Nat.{ℕ, ◌+◌, ◌-◌, ◌*◌, ◌/◌, ◌≤◌, ◌<◌}
use native.Mathlib.Omega.{arith}
use native.Mathlib.Nat.{pos_of_ne-zero}
use mathlib.Core.Path.{◌≡◌, refl, sym, ◌∙◌, ap, subst}
use mathlib.Core.List.{List, ◌++◌, append-nil}
use mathlib.Core.Bool.{Bool, true, false, cond, ◌&&◌, true≢false}
use lib.ListN.{length, take, drop, set, get_or, length-append, length-drop, length-set, drop_of_length-le, get_or-append}
use lib.Dec.{leb}
use lib.Seq.{take_at, take_all, take-take, drop_at, drop-drop, length-take-le, get_or-take, get_or-drop, get_or-append-add, take-set-lt, drop-set-lt}
use borrow.Author.Tests.{leb-true, leb-false}
use borrow.Rule.Slice.PartMut.{mid_of, put_mid}
use Rattle.xml_elements.specs.declared.XmlAttributeElement.{XmlAttributeElement}
use Rattle.records.specs.Words.{node_width, node_count, attribute_width, attribute_prefix, attribute_name, attribute_namespace}
use Rattle.records.specs.Repeats.{Rule, by_prefix, is_repeat}
use Rattle.tables.specs.Inner.Keys.{Key, keys_of}
use Rattle.tables.specs.declared.links.WayEnd.{WayEnd}
use Rattle.tables.specs.Inner.Ways.{link_width, Hung, Ends, Sought, front_words, is_far}
use Rattle.tables.proofs.Ways.{hung-none, hung-as, repeat-front, repeat_split, drop-take}
use Rattle.walk.specs.declared.tree.Tree.{Tree}
use Rattle.walk.specs.Inner.Tree.{kept_tree, own_words, new_words, front_of, behind_of, Sized, Chained, Far, Puts}

-- ---- which are far

both : (a b : Bool) → (a && b) ≡ true → (a ≡ true) × (b ≡ true)
both true b e = (refl, e)
both false b e = absurd (true≢false (sym e))

pub far-of : (ns ats : List ℕ) (t : Tree) (own links : ℕ) → (t.nodes ≡ 0 → ⊥) → Sized ns ats t
    → own ≡ attribute_width * t.attributes - attribute_width * t.first
    → links ≡ length ns - node_width * t.nodes → is_far own links ≡ true → Far ns t
far-of ns ats t own links z h eo el e =
    let b = both (leb front_words own) (leb (link_width * ((own - front_words) / attribute_width) + link_width) links) e in
    let m : front_words ≤ own = leb-true front_words own b.0 in
    let r : link_width * ((own - front_words) / attribute_width) + link_width ≤ links =
    leb-true (link_width * ((own - front_words) / attribute_width) + link_width) links b.1 in
    let q : (own - front_words) / attribute_width ≡ behind_of t = omega (arith, h.first) in
    record { some = pos_of_ne-zero z; many = omega (arith, h.first); room = omega arith }

-- what `has` says of them: yes for one of them is yes for all
module _ (ns ats : List ℕ) (t : Tree) (h : Sized ns ats t) (rule : Rule) (new : List ℕ) (f u own links front : ℕ) (ef : f ≡ attribute_width * t.first)
    (eu : u ≡ attribute_width * t.attributes) (eo : own ≡ u - f) where
  abbrev D : List ℕ
  D = drop (attribute_width * t.first) ats

  own-length : length (own_words t ats) ≡ attribute_width * t.attributes - attribute_width * t.first
  own-length =
      let l : length D ≡ length ats - attribute_width * t.first = length-drop (attribute_width * t.first) ats in
      length-take-le (attribute_width * t.attributes - attribute_width * t.first) D (omega (arith, h.attributes, h.first))

  front-as : (n : ℕ) → front ≡ n → take (f + front - f) (drop f ats) ≡ take n D
  front-as n q = let z : f + front - f ≡ n = omega arith in rw (z, ef)

  front-far : front_words ≤ own → front_of t ats ≡ take (attribute_width * 32) (own_words t ats)
  front-far m = sym (take-take (attribute_width * 32) (attribute_width * t.attributes - attribute_width * t.first) D (omega arith))

  pub front-near : (far r b : Bool) → far ≡ false → front ≡ cond far front_words own → r ≡ is_repeat rule new (take (f + front - f) (drop f ats)) → r ≡ b
      → is_repeat rule new (own_words t ats) ≡ b
  front-near far r b z q e x =
      let n : front ≡ attribute_width * t.attributes - attribute_width * t.first =
      (rw z at q) ∙ eo ∙ ap (λ (k : ℕ). k - f) eu ∙ ap (λ (k : ℕ). attribute_width * t.attributes - k) ef in
      sym (e ∙ ap (is_repeat rule new) (front-as (attribute_width * t.attributes - attribute_width * t.first) n)) ∙ x

  pub front-first : (far r b : Bool) → far ≡ true → front ≡ cond far front_words own → r ≡ is_repeat rule new (take (f + front - f) (drop f ats)) → r ≡ b
      → is_repeat rule new (front_of t ats) ≡ b
  front-first far r b z q e x = sym (e ∙ ap (is_repeat rule new) (front-as front_words (rw z at q))) ∙ x

  pub front-found : (far r : Bool) → far ≡ is_far own links → front ≡ cond far front_words own → r ≡ is_repeat rule new (take (f + front - f) (drop f ats))
      → r ≡ true
      → is_repeat rule new (own_words t ats) ≡ true
  front-found true r z q e x =
      let m : front_words ≤ own =
      leb-true front_words own (both (leb front_words own) (leb (link_width * ((own - front_words) / attribute_width) + link_width) links) (sym z)).0 in
      repeat-front rule new 32 (own_words t ats) (front_of t ats) (omega (arith, own-length)) (front-far m) (front-first true r true refl q e x)
  front-found false r z q e x = front-near false r true refl q e x

-- ---- the words behind the first 32

module _ (ns ats : List ℕ) (t : Tree) (h : Sized ns ats t) (far : Far ns t) where
  abbrev F : ℕ
  F = attribute_width * t.first + front_words

  abbrev U : ℕ
  U = attribute_width * t.attributes

  abbrev P : ℕ
  P = node_width * t.nodes

  behind-length : length (take (U - F) (drop F ats)) ≡ attribute_width * behind_of t
  behind-length =
      let l : length (drop F ats) ≡ length ats - F = length-drop F ats in
      let e : length (take (U - F) (drop F ats)) ≡ U - F = length-take-le (U - F) (drop F ats) (omega (arith, h.attributes, far.many)) in
      omega (arith, far.many)

  behind-count : length (take (U - F) (drop F ats)) / attribute_width ≡ behind_of t
  behind-count = omega (arith, behind-length)

  pub behind-room : (f u p : ℕ) → f ≡ F → u ≡ U → p ≡ P
      → link_width * (length (take (u - f) (drop f ats)) / attribute_width) ≤ length (take (length ns - p) (drop p ns))
  behind-room f u p ef eu ep =
      let l : length (drop P ns) ≡ length ns - P = length-drop P ns in
      let e : length (take (length ns - P) (drop P ns)) ≡ length ns - P = length-take-le (length ns - P) (drop P ns) (omega arith) in
      rw (ef, eu, ep, behind-count) (omega (arith, far.room))

  pub count-is : (f u : ℕ) → f ≡ F → u ≡ U → (u - f) / attribute_width ≡ behind_of t
  count-is f u ef eu = omega (arith, far.many)

  -- as many as `seek` counted
  pub count-seen : (f u : ℕ) → f ≡ F → u ≡ U → length (take (u - f) (drop f ats)) / attribute_width ≡ (u - f) / attribute_width
  count-seen f u ef eu = rw (ef, eu) (behind-count ∙ sym (count-is F U refl refl))

  pub link-room : (ns₁ : List ℕ) (f u p : ℕ) → length ns₁ ≡ length ns → f ≡ F → u ≡ U → p ≡ P
      → link_width * ((u - f) / attribute_width) + link_width ≤ length (take (length ns₁ - p) (drop p ns₁))
  link-room ns₁ f u p ln ef eu ep =
      let l : length (drop p ns₁) ≡ length ns₁ - p = length-drop p ns₁ in
      let e : length (take (length ns₁ - p) (drop p ns₁)) ≡ length ns₁ - p = length-take-le (length ns₁ - p) (drop p ns₁) (omega arith) in
      let c : (u - f) / attribute_width ≡ behind_of t = count-is f u ef eu in
      omega (arith, far.room)

  keys-behind : (key : Key) (i : ℕ) → i < behind_of t → keys_of key (drop F ats) i ≡ keys_of key (take (U - F) (drop F ats)) i
  keys-behind key i l =
      sym (rw (
        get_or-take (U - F) (drop F ats) (attribute_width * i + attribute_prefix) 0 (omega (arith, far.many)),
        get_or-take (U - F) (drop F ats) (attribute_width * i + attribute_name) 0 (omega (arith, far.many)),
        get_or-take (U - F) (drop F ats) (attribute_width * i + attribute_namespace) 0 (omega (arith, far.many)),
      ))

  links-all : take (length ns - P) (drop P ns) ≡ drop P ns
  links-all = take_all (length ns - P) (drop P ns) (omega (arith, length-drop P ns))

  pub behind-hung : (key : Key) (f u p : ℕ) → f ≡ F → u ≡ U → p ≡ P → Chained key ns ats t
      → Hung (keys_of key (take (u - f) (drop f ats))) (take (length ns - p) (drop p ns)) (length (take (u - f) (drop f ats)) / attribute_width)
  behind-hung key f u p ef eu ep l =
      rw (ef, eu, ep, behind-count, links-all)
      (hung-as (keys_of key (drop F ats)) (keys_of key (take (U - F) (drop F ats))) (drop P ns) (behind_of t) (keys-behind key) (l far.room))

  -- where none of the first 32 is repeated, those behind them decide
  pub own_behind : (rule : Rule) (new : List ℕ) (f u : ℕ) (r b : Bool) → f ≡ F → u ≡ U → is_repeat rule new (front_of t ats) ≡ false
      → r ≡ is_repeat rule new (take (u - f) (drop f ats)) → r ≡ b → is_repeat rule new (own_words t ats) ≡ b
  own_behind rule new f u r b ef eu none e q =
      let m : ℕ = U - attribute_width * t.first in
      let d : List ℕ = drop (attribute_width * t.first) ats in
      let ld : length d ≡ length ats - attribute_width * t.first = length-drop (attribute_width * t.first) ats in
      let lo : length (own_words t ats) ≡ m = length-take-le m d (omega (arith, h.attributes, far.many)) in
      let front : front_of t ats ≡ take (attribute_width * 32) (own_words t ats) = sym (take-take (attribute_width * 32) m d (omega (arith, far.many))) in
      let rest : drop (attribute_width * 32) (own_words t ats) ≡ take (U - F) (drop F ats) =
      drop-take (attribute_width * 32) m d (omega (arith, far.many)) (omega (arith, h.attributes, far.many))
      ∙ ap (take (m - attribute_width * 32)) (drop-drop (attribute_width * 32) (attribute_width * t.first) ats)
      ∙ ap (λ (k : ℕ). take k (drop F ats)) (let z : m - attribute_width * 32 ≡ U - F = omega arith in z) in
      repeat_split rule new 32 (own_words t ats) (front_of t ats) (omega (arith, lo, far.many)) front none
      ∙ ap (is_repeat rule new) rest ∙ sym (rw (ef, eu) at e) ∙ q

  pub far-repeat : (key : Key) (same : ℕ → ℕ → Bool) (p : ℕ) (a : XmlAttributeElement) (f u q k : ℕ) (r : Option WayEnd) (b : Bool) → f ≡ F → u ≡ U → q ≡ P
      → Chained key ns ats t
      → Sought key same (take (u - f) (drop f ats)) (take (length ns - q) (drop q ns)) k p a.name.0 a.namespace_uri.0 r → k ≡ key p a.name.0 a.namespace_uri.0
      → is_repeat (by_prefix same) (new_words t p a) (front_of t ats) ≡ false → is_none r ≡ b → is_repeat (by_prefix same) (new_words t p a) (own_words t ats) ≡ b
  far-repeat key same p a f u q k r b ef eu eq l s ek none x =
      own_behind (by_prefix same) (new_words t p a) f u (is_none r) b ef eu none
      (s.answer (behind-hung key f u q ef eu eq l) ek (t.nodes - 1) a.data_type a.«data») x

-- ---- one more

put-behind : (f : ℕ) (l ys : List ℕ) → put_mid f (length l - f) l ys ≡ take f l ++ ys
put-behind f l ys =
    let m : length (drop f l) ≤ length l - f = omega (arith, length-drop f l) in
    ap (λ (r : List ℕ). take f l ++ (ys ++ r)) (drop_of_length-le (drop f l) m) ∙ ap (λ (r : List ℕ). take f l ++ r) (append-nil ys)

module _ (ns ats ns₁ ats' : List ℕ) (t u : Tree) (p : ℕ) (a : XmlAttributeElement) (h : Sized ns ats t) (some : 0 < t.nodes)
    (room : attribute_width * t.attributes + attribute_width ≤ length ats) (w : Puts u t p a ns ats ns₁ ats') where
  pub counted-nodes : take (node_width * t.nodes) ns₁
      ≡ set (take (node_width * t.nodes) ns) (node_width * (t.nodes - 1) + node_count) (t.attributes + 1 - t.first)
  counted-nodes = rw w.nodes (take-set-lt (node_width * t.nodes) ns (node_width * (t.nodes - 1) + node_count) (t.attributes + 1 - t.first) (omega arith))

  links-same : drop (node_width * t.nodes) ns₁ ≡ drop (node_width * t.nodes) ns
  links-same = rw w.nodes (drop-set-lt (node_width * t.nodes) ns (node_width * (t.nodes - 1) + node_count) (t.attributes + 1 - t.first) (omega arith))

  nodes-length : length ns₁ ≡ length ns
  nodes-length = rw w.nodes (length-set ns (node_width * (t.nodes - 1) + node_count) (t.attributes + 1 - t.first))

  -- where it is not to be linked, nothing is asked
  pub chained-near : (key : Key) (own links : ℕ) → own ≡ attribute_width * t.attributes - attribute_width * t.first → links ≡ length ns - node_width * t.nodes
      → is_far own links ≡ false → Chained key ns₁ ats' u
  chained-near key own links eo el e =
      rw w.tree
      (λ l. near l (leb front_words own) refl (leb (link_width * ((own - front_words) / attribute_width) + link_width) links) refl e)
    where
      near : link_width * behind_of (kept_tree t) + link_width ≤ length ns₁ - node_width * t.nodes → (b : Bool) → leb front_words own ≡ b
          → (c : Bool) → leb (link_width * ((own - front_words) / attribute_width) + link_width) links ≡ c → (b && c) ≡ false
          → Hung (keys_of key (drop (attribute_width * t.first + front_words) ats')) (drop (node_width * t.nodes) ns₁) (behind_of (kept_tree t))
      near l true eb true ec z = absurd (true≢false z)
      near l true eb false ec z =
          let m : front_words ≤ own = leb-true front_words own eb in
          let q = leb-false (link_width * ((own - front_words) / attribute_width) + link_width) links ec in
          absurd (let y : ⊥ = omega (arith, h.first, nodes-length) in y)
      near l false eb c ec z =
          let m = leb-false front_words own eb in
          hung-none (keys_of key (drop (attribute_width * t.first + front_words) ats')) (drop (node_width * t.nodes) ns₁) (behind_of (kept_tree t))
          (omega (arith, h.first))

  -- ---- where it is linked

  module _ (far : Far ns t) (key : Key) where
    abbrev base : ℕ
    base = attribute_width * t.first + front_words

    abbrev M : ℕ
    M = behind_of t

    abbrev before-it : List ℕ
    before-it = take (attribute_width * t.attributes) ats

    abbrev behind-it : List ℕ
    behind-it = drop (attribute_width * t.attributes + attribute_width) ats

    before-length : length before-it ≡ attribute_width * t.attributes
    before-length = length-take-le (attribute_width * t.attributes) ats h.attributes

    with-length : length (before-it ++ new_words t p a) ≡ attribute_width * t.attributes + attribute_width
    with-length =
        length-append before-it (new_words t p a) ∙
        (let z : length before-it + attribute_width ≡ attribute_width * t.attributes + attribute_width = omega (arith, before-length) in z)

    word-old : (j : ℕ) → j < attribute_width * t.attributes → get_or ats' j 0 ≡ get_or ats j 0
    word-old j l =
        ap (λ (x : List ℕ). get_or x j 0) w.attributes
        ∙ get_or-append (before-it ++ new_words t p a) behind-it 0 j (omega (arith, with-length))
        ∙ get_or-append before-it (new_words t p a) 0 j (omega (arith, before-length))
        ∙ get_or-take (attribute_width * t.attributes) ats j 0 l

    word-new : (i : ℕ) → i < attribute_width → get_or ats' (attribute_width * t.attributes + i) 0 ≡ get_or (new_words t p a) i 0
    word-new i l =
        ap (λ (x : List ℕ). get_or x (attribute_width * t.attributes + i) 0) w.attributes
        ∙ get_or-append (before-it ++ new_words t p a) behind-it 0 (attribute_width * t.attributes + i) (omega (arith, with-length))
        ∙ ap (λ (k : ℕ). get_or (before-it ++ new_words t p a) (k + i) 0) (sym before-length)
        ∙ get_or-append-add before-it (new_words t p a) i 0

    -- the keys of those before it, and its own
    keys-old : (i : ℕ) → i < M → keys_of key (drop base ats) i ≡ keys_of key (drop base ats') i
    keys-old i l =
        rw (
          get_or-drop base ats (attribute_width * i + attribute_prefix) 0,
          get_or-drop base ats (attribute_width * i + attribute_name) 0,
          get_or-drop base ats (attribute_width * i + attribute_namespace) 0,
          get_or-drop base ats' (attribute_width * i + attribute_prefix) 0,
          get_or-drop base ats' (attribute_width * i + attribute_name) 0,
          get_or-drop base ats' (attribute_width * i + attribute_namespace) 0,
          word-old (base + (attribute_width * i + attribute_prefix)) (omega (arith, far.many)),
          word-old (base + (attribute_width * i + attribute_name)) (omega (arith, far.many)),
          word-old (base + (attribute_width * i + attribute_namespace)) (omega (arith, far.many)),
        )

    place-new : (i : ℕ) → get_or (drop base ats') (attribute_width * M + i) 0 ≡ get_or ats' (attribute_width * t.attributes + i) 0
    place-new i =
        let e : base + (attribute_width * M + i) ≡ attribute_width * t.attributes + i = omega (arith, far.many) in
        get_or-drop base ats' (attribute_width * M + i) 0 ∙ ap (λ (k : ℕ). get_or ats' k 0) e

    keys-new : keys_of key (drop base ats') M ≡ key p a.name.0 a.namespace_uri.0
    keys-new =
        rw (
          place-new attribute_prefix ∙ word-new attribute_prefix (omega arith),
          place-new attribute_name ∙ word-new attribute_name (omega arith),
          place-new attribute_namespace ∙ word-new attribute_namespace (omega arith),
        )

    -- what `link` leaves in the words behind the nodes, put there
    module _ (free : ℕ) (ys : List ℕ) (ef : free ≡ node_width * t.nodes) where
      abbrev ns' : List ℕ
      ns' = put_mid free (length ns₁ - free) ns₁ ys

      fit : node_width * t.nodes ≤ length ns₁
      fit = omega (arith, nodes-length, h.nodes)

      front_length : length (take free ns₁) ≡ node_width * t.nodes
      front_length = rw ef (length-take-le (node_width * t.nodes) ns₁ fit)

      after : drop (node_width * t.nodes) ns' ≡ ys
      after = rw (put-behind free ns₁ ys) (drop_at (take free ns₁) ys (node_width * t.nodes) front_length)

      pub linked-nodes : take (node_width * t.nodes) ns'
          ≡ set (take (node_width * t.nodes) ns) (node_width * (t.nodes - 1) + node_count) (t.attributes + 1 - t.first)
      linked-nodes =
          rw (put-behind free ns₁ ys) (take_at (take free ns₁) ys (node_width * t.nodes) front_length) ∙ ap (λ (k : ℕ). take k ns₁) ef ∙ counted-nodes

      mid : mid_of free (length ns₁ - free) ns₁ ≡ drop (node_width * t.nodes) ns
      mid =
          rw ef
          (take_all (length ns₁ - node_width * t.nodes) (drop (node_width * t.nodes) ns₁) (omega (arith, length-drop (node_width * t.nodes) ns₁)) ∙ links-same)

      part_same : take (length ns - free) (drop free ns) ≡ mid_of free (length ns₁ - free) ns₁
      part_same =
          rw ef (take_all (length ns - node_width * t.nodes) (drop (node_width * t.nodes) ns) (omega (arith, length-drop (node_width * t.nodes) ns))) ∙ sym mid

      -- the end that `seek` found is there still
      pub ends-here : (n count k e g : ℕ) → n ≡ count → Ends n (take (length ns - free) (drop free ns)) k e g
          → Ends count (mid_of free (length ns₁ - free) ns₁) k e g
      ends-here n count k e g q x =
          subst (λ (m : ℕ). Ends m (mid_of free (length ns₁ - free) ns₁) k e g) q (subst (λ (l : List ℕ). Ends n l k e g) part_same x)

      pub chained-far : (k count : ℕ) → Chained key ns ats t → count ≡ M → k ≡ key p a.name.0 a.namespace_uri.0
          → ((keys : ℕ → ℕ) → keys count ≡ k → Hung keys (mid_of free (length ns₁ - free) ns₁) count → Hung keys ys (count + 1)) → Chained key ns' ats' u
      chained-far k count l ec ek more =
          rw w.tree (λ _. subst (λ (m : ℕ). Hung (keys_of key (drop base ats')) (drop (node_width * t.nodes) ns') m) one linked)
        where
          one : count + 1 ≡ behind_of (kept_tree t)
          one = omega (arith, far.many)

          before : Hung (keys_of key (drop base ats')) (mid_of free (length ns₁ - free) ns₁) count
          before = rw (mid, ec) (hung-as (keys_of key (drop base ats)) (keys_of key (drop base ats')) (drop (node_width * t.nodes) ns) M keys-old (l far.room))

          linked : Hung (keys_of key (drop base ats')) (drop (node_width * t.nodes) ns') (count + 1)
          linked = rw after (more (keys_of key (drop base ats')) (ap (keys_of key (drop base ats')) ec ∙ keys-new ∙ sym ek) before)
