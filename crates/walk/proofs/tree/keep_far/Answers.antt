-- `walk::tree::keep_far` meets its contract: the attributes behind the first 32 are sought along their links, and a new one is linked (proofs/Chains.antt).
use Rattle.std.specs.Prelude.{is_none}
use Prim.Native.Nat.{ℕ, ◌+◌, ◌*◌, ◌≤◌}
use native.Mathlib.Omega.{arith}
use mathlib.Core.Path.{refl, ap}
use mathlib.Core.Bool.{true, false}
use lib.ListN.{length}
use Rattle.records.specs.Words.{attribute_width}
use Rattle.system_types.specs.Names.{lends}
use Rattle.text.specs.Content.{same_name}
use Rattle.tables.specs.Inner.Keys.{key_by}
use Rattle.tables.specs.Inner.Ways.{front_words}
use Rattle.walk.proofs.Chains.{behind-room, count-is, count-seen, link-room, far-repeat, linked-nodes, ends-here, chained-far}
use Rattle.walk.proofs.tree.keep_far.Goals as goal

pub seek-requires : goal.seek-requires
seek-requires c =
    let s = c in
    let a = s.args in (
      s.requires.0,
      c.find-g.ensures,
      c.key_of-key.ensures.1,
      behind-room a.nodes.now a.attributes.now a.tree s.requires.1.sized
          s.requires.2 _ _ _ (ap (λ (k : ℕ). k + front_words) c.attribute_place-from.ensures)
          c.attribute_place-used.ensures c.node_place-free.ensures,
    )

pub returns-in_default : goal.returns-in_default
returns-in_default c = (
  (let s = c in let a = s.args in let lent = lends a.names.now a.area.now in let same = same_name a.h a.t.now lent in let
      key = key_by a.h a.t.now lent in λ none l. record {
        there = λ _. far-repeat a.nodes.now a.attributes.now a.tree s.requires.1.sized s.requires.2 key same a.prefix a.a _ _ _
            c.key_of-key.result c.seek.result true (ap (λ (k : ℕ). k + front_words) c.attribute_place-from.ensures)
            c.attribute_place-used.ensures c.node_place-free.ensures l c.seek.ensures.0
            c.key_of-key.ensures.0 none (ap is_none c.in_default.is);
        nodes = refl;
        attributes = refl;
      }),
  c.seek.ensures.1,
)

pub returns-then-attributes-used-lt-ATTRIBUTE_WORDS : goal.returns-then-attributes-used-lt-ATTRIBUTE_WORDS
returns-then-attributes-used-lt-ATTRIBUTE_WORDS c = (
  (let s = c in let a = s.args in let lent = lends a.names.now
      a.area.now in let same = same_name a.h a.t.now lent in let key = key_by a.h a.t.now lent in λ none l. (
        refl,
        record {
          some = λ z. omega (arith, s.requires.2.some);
          new = far-repeat a.nodes.now a.attributes.now a.tree s.requires.1.sized s.requires.2
              key same a.prefix a.a _ _ _
              c.key_of-key.result
              c.seek.result false
              (ap (λ (k : ℕ). k + front_words)
              c.attribute_place-from.ensures)
              c.attribute_place-used.ensures
              c.node_place-free.ensures l c.seek.ensures.0
              c.key_of-key.ensures.0 none
              (ap is_none c.in-Some.is);
          full = omega (
            arith,
            c.if-attributes-used-lt-ATTRIBUTE_WORDS.true,
            c.attribute_place-used.ensures,
          );
        },
      )),
  c.seek.ensures.1,
)

pub link-requires : goal.link-requires
link-requires c =
    let s = c in
    let a = s.args in
    let h = s.requires.1.sized in
    let far = s.requires.2 in
    let ef = ap (λ (k : ℕ). k + front_words)
    c.attribute_place-from.ensures in
    let eu = c.attribute_place-used.ensures in
    let seen = count-seen a.nodes.now a.attributes.now a.tree h far _ _ ef eu in (
      link-room a.nodes.now a.attributes.now a.tree h far c.store-u.new.nodes _ _ _
          c.store-u.auto.nodes ef eu
          c.node_place-free.ensures,
      omega (
        arith,
        count-is a.nodes.now
            a.attributes.now a.tree h far _ _ ef eu,
        s.requires.1.many,
      ),
      λ pos. let end = rw c.in-Some.is at c.seek.ensures.0.ends in
          let n = (end (omega (arith, seen, pos))).below in
          omega (arith, seen, n),
    )

pub returns : goal.returns
returns c = (
  (let s = c in let a = s.args in let lent = lends a.names.now a.area.now in let same = same_name a.h
      a.t.now lent in let key = key_by a.h a.t.now lent in let h = s.requires.1.sized in let far = s.requires.2 in let ef = ap
      (λ (k : ℕ). k + front_words) c.attribute_place-from.ensures in let eu =
      c.attribute_place-used.ensures in let room :
      attribute_width * a.tree.attributes + attribute_width ≤ length a.attributes.now = omega (
        arith,
        c.if-attributes-used-lt-ATTRIBUTE_WORDS.false,
        c.attribute_place-used.ensures,
      ) in let q =
      c.store-u in let seen = count-seen a.nodes.now a.attributes.now
      a.tree h far _ _ ef eu in let w = q.ensures in λ none l. record {
        some = λ z. omega (arith, far.some);
        new = far-repeat a.nodes.now a.attributes.now a.tree s.requires.1.sized s.requires.2 key
            same a.prefix a.a _ _ _ c.key_of-key.result
            c.seek.result
            false (ap (λ (k : ℕ). k + front_words)
            c.attribute_place-from.ensures)
            c.attribute_place-used.ensures
            c.node_place-free.ensures l
            c.seek.ensures.0
            c.key_of-key.ensures.0 none
            (ap is_none c.in-Some.is);
        room = room;
        tree = w.tree;
        attributes = w.attributes;
        nodes = linked-nodes a.nodes.now a.attributes.now q.new.nodes q.new.attributes a.tree q.result
            a.prefix a.a h far.some room w far key _ c.link.new.links
            c.node_place-free.ensures;
        chained = chained-far
            a.nodes.now a.attributes.now q.new.nodes q.new.attributes a.tree q.result a.prefix a.a h far.some room w far key _
            c.link.new.links
            c.node_place-free.ensures _ _ l (count-is a.nodes.now
            a.attributes.now a.tree h far _ _ ef eu)
            c.key_of-key.ensures.0 (c.link.ensures
            (λ pos. ends-here a.nodes.now a.attributes.now q.new.nodes q.new.attributes a.tree q.result a.prefix a.a h far.some
            room w far key _ c.link.new.links
            c.node_place-free.ensures _ _ _ _ _ seen
            (let end = rw c.in-Some.is at c.seek.ensures.0.ends in end
            (omega (arith, seen, pos)))));
      }),
  c.seek.ensures.1,
)
