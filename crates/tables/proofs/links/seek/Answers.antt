-- `tables::links::seek` meets its contract: the way of the key, down to a record that is repeated or to its end (proofs/Ways.antt).
use Rattle.std.proofs.Common.{◌≤◌, ◌/◌, ◌⊎◌, length, inl, inr, arith}
use Rattle.records.specs.Words.{attribute_width}
use Rattle.system_types.specs.Names.{lends}
use Rattle.text.specs.Content.{same_name}
use Rattle.tables.specs.Inner.Keys.{key_by}
use Rattle.tables.proofs.Hashes.{key-same}
use Rattle.tables.proofs.Ways.{sought-none, walks-first, walks-found, walks_next, walks-none}
use Rattle.tables.proofs.links.seek.Goals as goal
use Rattle.tables.proofs.links.seek.Goals.{then-c-i-via-then-c-i, then-c-i-via-else-c-i+then-n-c}

pub returns-then-n-eq0 : goal.returns-then-n-eq0
returns-then-n-eq0 c =
    let a = c.args in let lent = lends a.names.now a.area.now in
    let agree = key-same a.h a.t.now lent a.words.now a.prefix a.name.0 a.ns.0 in (
      sought-none (key_by a.h a.t.now lent) (same_name a.h a.t.now lent) a.words.now a.links.now a.key a.prefix a.name.0 a.ns.0 agree c.if-n-eq0.true,
      c.requires.2,
    )

pub loop-h-init : goal.loop-h-init
loop-h-init c =
    let a = c.args in let lent = lends a.names.now a.area.now in
    let agree = key-same a.h a.t.now lent a.words.now a.prefix a.name.0 a.ns.0 in (
      c.plain_unless-plain.ensures,
      c.requires.2,
      walks-first (key_by a.h a.t.now lent) (same_name a.h a.t.now lent) a.words.now a.links.now a.key a.prefix a.name.0 a.ns.0 agree (omega arith),
    )

pub returns-then-is_hit : goal.returns-then-is_hit
returns-then-is_hit c =
    let a = c.args in let lent = lends a.names.now a.area.now in
    let agree = key-same a.h a.t.now lent a.words.now a.prefix a.name.0 a.ns.0 in (
      walks-found (key_by a.h a.t.now lent) (same_name a.h a.t.now lent) a.words.now a.links.now a.key a.prefix a.name.0 a.ns.0 agree
          c.loop-h.i c.loop-h.left c.loop-h.invariant.2 _ c.is_hit.ensures.0 c.if-is_hit.true,
      c.is_hit.ensures.1,
    )

pub returns-then-c-i : goal.returns-then-c-i
returns-then-c-i c =
    let a = c.args in let lent = lends a.names.now a.area.now in
    let agree = key-same a.h a.t.now lent a.words.now a.prefix a.name.0 a.ns.0 in
    let last : (c.child-c.result ≤ c.loop-h.i) ⊎ (length a.words.now / attribute_width ≤ c.child-c.result) = elim c.then-c-i.branch [
      | then-c-i-via-then-c-i w ↦ inl w.if-c-i.true
      | then-c-i-via-else-c-i+then-n-c w ↦ inr w.if-n-c.true
    ] in (
      walks-none (key_by a.h a.t.now lent) (same_name a.h a.t.now lent) a.words.now a.links.now a.key a.prefix a.name.0 a.ns.0 agree
          c.loop-h.i c.loop-h.left c.loop-h.invariant.2 _ c.is_hit.ensures.0 c.if-is_hit.false _ c.child-c.ensures last,
      c.is_hit.ensures.1,
    )

pub loop-h-preserved : goal.loop-h-preserved
loop-h-preserved c =
    let a = c.args in let lent = lends a.names.now a.area.now in
    let agree = key-same a.h a.t.now lent a.words.now a.prefix a.name.0 a.ns.0 in (
      c.loop-h.invariant.0,
      c.is_hit.ensures.1,
      walks_next (key_by a.h a.t.now lent) (same_name a.h a.t.now lent) a.words.now a.links.now a.key a.prefix a.name.0 a.ns.0 agree
          c.loop-h.i c.loop-h.left c.loop-h.invariant.2 _ c.is_hit.ensures.0 c.if-is_hit.false _ c.child-c.ensures (omega arith) (omega arith),
    )
