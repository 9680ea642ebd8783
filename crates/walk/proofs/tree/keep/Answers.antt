-- `walk::tree::keep` meets its contract: a repeat changes nothing, a new attribute is stored where it has a place; many are linked (proofs/Chains.antt).
use Prim.Native.Nat.{◌+◌, ◌-◌, ◌*◌, ◌≤◌}
use native.Mathlib.Omega.{arith}
use native.Mathlib.Nat.{pos_of_ne-zero}
use mathlib.Core.Path.{refl, sym, ◌∙◌}
use mathlib.Core.Bool.{false}
use lib.ListN.{length}
use Rattle.records.specs.Words.{attribute_width}
use Rattle.records.specs.Repeats.{by_prefix}
use Rattle.system_types.specs.Names.{lends}
use Rattle.text.specs.Content.{same_name}
use Rattle.tables.specs.Inner.Keys.{key_by}
use Rattle.walk.specs.Inner.Tree.{new_words}
use Rattle.walk.proofs.Chains.{far-of, front-found, front-near, front-first, counted-nodes, chained-near}
use Rattle.walk.proofs.tree.keep.Goals as goal

pub returns-then-has : goal.returns-then-has
returns-then-has c = (
  (let s = c in let a = s.args in let lent = lends a.names.now a.area.now in let same = same_name a.h a.t.now lent in let
      key = key_by a.h a.t.now lent in λ l. record {
        there = λ _. front-found a.nodes.now a.attributes.now a.tree s.requires.1.sized (by_prefix same)
            (new_words a.tree a.prefix a.a) _ _ _ _ _ c.attribute_place-from.ensures
            c.attribute_place-used.ensures refl c.is_far-far.result c.has.result c.is_far-far.ensures
            c.front_of-front.ensures (c.has.ensures.0 (a.tree.nodes - 1) a.a.data_type a.a.«data») c.if-has.true;
        nodes =
            refl;
        attributes = refl;
      }),
  c.has.ensures.1,
)

pub keep_far-requires : goal.keep_far-requires
keep_far-requires c =
    let s = c in
    let a = s.args in (
      s.requires.0.0,
      s.requires.1,
      far-of a.nodes.now a.attributes.now a.tree
          (c.attribute_place-used.result - c.attribute_place-from.result) (length a.nodes.now -
          c.node_place.result)
          c.if-n-eq0.false s.requires.1.sized (omega (
            arith,
            c.attribute_place-used.ensures,
            c.attribute_place-from.ensures,
          )) (omega (
            arith,
            c.node_place.ensures,
          )) (sym
          c.is_far-far.ensures ∙
          c.if-far.true),
      c.has.ensures.1,
    )

pub returns-then-far : goal.returns-then-far
returns-then-far c =
    let then3 = c in
    let else2 = c in (
      (let s = c in let a = s.args in let lent = lends a.names.now a.area.now in let same = same_name a.h a.t.now lent in let
          key = key_by a.h a.t.now lent in c.keep_far.ensures.0
          (front-first a.nodes.now a.attributes.now a.tree s.requires.1.sized (by_prefix same) (new_words a.tree a.prefix a.a) _ _ _ 0
          _ c.attribute_place-from.ensures c.attribute_place-used.ensures refl c.is_far-far.result
          c.has.result false then3.if-far.true c.front_of-front.ensures
          (c.has.ensures.0 (a.tree.nodes - 1) a.a.data_type a.a.«data») else2.if-has.false)),
      c.keep_far.ensures.1,
    )

pub overflow_sub-attributes : goal.overflow_sub-attributes
overflow_sub-attributes c = omega (
  arith,
  c.attribute_place-used.ensures,
  c.requires.1.sized.attributes,
)

pub returns-then-attributes-used-lt-ATTRIBUTE_WORDS : goal.returns-then-attributes-used-lt-ATTRIBUTE_WORDS
returns-then-attributes-used-lt-ATTRIBUTE_WORDS c = (
  (let s = c in let a = s.args in let lent = lends a.names.now a.area.now in let same =
      same_name a.h a.t.now lent in let key = key_by a.h a.t.now lent in λ l. (
        refl,
        record {
          some = c.if-n-eq0.false;
          new = front-near a.nodes.now a.attributes.now a.tree s.requires.1.sized (by_prefix same)
              (new_words a.tree a.prefix a.a) _ _ _ 0 _
              c.attribute_place-from.ensures c.attribute_place-used.ensures refl c.is_far-far.result
              c.has.result false c.if-far.false
              c.front_of-front.ensures
              (c.has.ensures.0 (a.tree.nodes - 1) a.a.data_type a.a.«data»)
              c.if-has.false;
          full = omega (
            arith,
            c.if-attributes-used-lt-ATTRIBUTE_WORDS.true,
            c.attribute_place-used.ensures,
          );
        },
      )),
  c.has.ensures.1,
)

pub returns : goal.returns
returns c = (
  (let s = c in let a = s.args in let
      lent = lends a.names.now a.area.now in let same = same_name a.h a.t.now lent in let key = key_by a.h a.t.now lent in let
      room : attribute_width * a.tree.attributes + attribute_width ≤ length a.attributes.now = omega (
        arith,
        c.if-attributes-used-lt-ATTRIBUTE_WORDS.false,
        c.attribute_place-used.ensures,
      ) in let q = c.store in let w = q.ensures in λ l.
      record {
        some = c.if-n-eq0.false;
        new = front-near a.nodes.now a.attributes.now a.tree
            s.requires.1.sized (by_prefix same) (new_words a.tree a.prefix a.a) _ _ _ 0 _
            c.attribute_place-from.ensures
            c.attribute_place-used.ensures refl
            c.is_far-far.result c.has.result false
            c.if-far.false
            c.front_of-front.ensures (c.has.ensures.0
            (a.tree.nodes - 1) a.a.data_type a.a.«data»)
            c.if-has.false;
        room = room;
        tree = w.tree;
        attributes =
            w.attributes;
        nodes = counted-nodes a.nodes.now a.attributes.now q.new.nodes q.new.attributes a.tree q.result a.prefix
            a.a s.requires.1.sized (pos_of_ne-zero
            c.if-n-eq0.false) room w;
        chained = chained-near a.nodes.now a.attributes.now q.new.nodes
            q.new.attributes a.tree q.result a.prefix a.a s.requires.1.sized
            (pos_of_ne-zero c.if-n-eq0.false) room w key
            (c.attribute_place-used.result -
            c.attribute_place-from.result) (length a.nodes.now -
            c.node_place.result) (omega (
              arith,
              c.attribute_place-used.ensures,
              c.attribute_place-from.ensures,
            )) (omega (
              arith,
              c.node_place.ensures,
            )) (sym
            c.is_far-far.ensures ∙ c.if-far.false);
      }),
  c.has.ensures.1,
)
