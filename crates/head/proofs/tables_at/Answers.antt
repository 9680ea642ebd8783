-- `head::tables_at` meets its contract: by the end of the pool (`tables_of-complete`, `tables_of-cut`).
use mathlib.Core.Path.{◌∙◌, refl}
use Rattle.head.specs.declared.PoolPart.TheVariants.{Skipped, Header, Offsets, Styles, Data}
use Rattle.head.proofs.Cases.{tables_of-complete, tables_of-cut, pool-fits}
use Rattle.head.proofs.tables_at.Goals as goal

pub mapped-requires : goal.mapped-requires
mapped-requires c =
    let s = c in
    (pool-fits s.args.t.now c.pool_of-garbage.ensures c.in-Complete.is, s.requires)

pub returns-in-Complete : goal.returns-in-Complete
returns-in-Complete c =
    let a = c.args in
    c.mapped.ensures ∙ tables_of-complete a.t.now c.pool_of-garbage.ensures c.in-Complete.is

pub returns-in-GarbageShort : goal.returns-in-GarbageShort
returns-in-GarbageShort c =
    let a = c.args in
    c.pool_short.ensures ∙ tables_of-cut a.t.now c.pool_of-garbage.ensures _ Skipped
    c.in-GarbageShort.is c.begins_at.ensures refl

pub returns-in-HeaderShort : goal.returns-in-HeaderShort
returns-in-HeaderShort c =
    let a = c.args in
    c.pool_short-in-HeaderShort.ensures ∙ tables_of-cut a.t.now c.pool_of-garbage.ensures _ Header
    c.in-HeaderShort.is c.begins_at-in-HeaderShort.ensures refl

pub returns-in-OffsetsShort : goal.returns-in-OffsetsShort
returns-in-OffsetsShort c =
    let a = c.args in
    c.pool_short-in-OffsetsShort.ensures ∙ tables_of-cut a.t.now c.pool_of-garbage.ensures _ Offsets
    c.in-OffsetsShort.is c.begins_at-in-OffsetsShort.ensures refl

pub returns-in-StylesShort : goal.returns-in-StylesShort
returns-in-StylesShort c =
    let a = c.args in
    c.pool_short-in-StylesShort.ensures ∙ tables_of-cut a.t.now c.pool_of-garbage.ensures _ Styles
    c.in-StylesShort.is c.begins_at-in-StylesShort.ensures refl

pub returns-in-DataShort : goal.returns-in-DataShort
returns-in-DataShort c =
    let a = c.args in
    c.pool_short-in-DataShort.ensures ∙ tables_of-cut a.t.now c.pool_of-garbage.ensures _ Data
    c.in-DataShort.is c.begins_at-in-DataShort.ensures refl
