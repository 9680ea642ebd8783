-- `tables::hash::key_of` meets its contract: the numbers of the texts are mixed (proofs/Hashes.antt).
use Rattle.system_types.specs.Names.{lends}
use Rattle.tables.proofs.Hashes.{key-plain, key-own}
use Rattle.tables.proofs.hash.key_of.Goals as goal

pub returns-then-prefix-ne-OWN_PREFIX : goal.returns-then-prefix-ne-OWN_PREFIX
returns-then-prefix-ne-OWN_PREFIX c =
    let a = c.args in (
      key-plain a.h a.t.now (lends a.names.now a.area.now) a.prefix a.name.0 a.ns.0 _ _ c.if-prefix-ne-OWN_PREFIX.true
          c.number_of.ensures.0 c.mix-s.ensures,
      c.number_of.ensures.1,
    )

pub returns : goal.returns
returns c =
    let a = c.args in (
      key-own a.h a.t.now (lends a.names.now a.area.now) a.prefix a.name.0 a.ns.0 _ _ _ _ _ c.if-prefix-ne-OWN_PREFIX.false
          c.number_of.ensures.0 c.number_of-n.ensures.0 c.mix-s.ensures c.mix-u.ensures c.mix.ensures,
      c.number_of-n.ensures.1,
    )
