-- `many_texts::known::look_up` meets its contract: a name past those that are kept, one that is known, and one that is kept now (`knows_more`).
use Rattle.std.specs.Prelude.{Option, None}
use mathlib.Core.Path.{◌≡◌}
use native.Mathlib.Omega.{arith}
use borrow.Author.Rules.{rules}
use Rattle.items.specs.declared.Run.{Run}
use Rattle.system_types.specs.Names.{lends}
use Rattle.many_texts.proofs.KnownLaws.{knows_more, looks-same}
use Rattle.many_texts.proofs.known.look_up.Goals as goal

pub look-requires : goal.look-requires
look-requires c = (
  c.requires.0,
  c.requires.1,
  c.requires.2,
)

pub returns-then-place-ge-KNOWN : goal.returns-then-place-ge-KNOWN
returns-then-place-ge-KNOWN c = (c.look.ensures, c.requires.3)

pub offset_bounds-ends-place : goal.offset_bounds-ends-place
offset_bounds-ends-place c = omega (arith, c.if-place-ge-KNOWN.false)

pub bounds-ends-place : goal.bounds-ends-place
bounds-ends-place c = omega (arith, c.if-place-ge-KNOWN.false, c.requires.3.last)

pub offset_bounds-starts-place : goal.offset_bounds-starts-place
offset_bounds-starts-place c = omega (arith, c.if-place-ge-KNOWN.false)

pub bounds-starts-place : goal.bounds-starts-place
bounds-starts-place c = omega (arith, c.if-place-ge-KNOWN.false, c.requires.3.first)

pub offset_bounds-ends-place-then-ends-place-gt0 : goal.offset_bounds-ends-place-then-ends-place-gt0
offset_bounds-ends-place-then-ends-place-gt0 c = omega (arith, c.if-place-ge-KNOWN.false)

pub bounds-ends-place-then-ends-place-gt0 : goal.bounds-ends-place-then-ends-place-gt0
bounds-ends-place-then-ends-place-gt0 c = omega (
  arith,
  c.if-place-ge-KNOWN.false,
  c.requires.3.last,
)

pub overflow_sub-result : goal.overflow_sub-result
overflow_sub-result c = omega (arith, c.if-ends-place-gt0.true)

pub returns-then-ends-place-gt0 : goal.returns-then-ends-place-gt0
returns-then-ends-place-gt0 c = (
  c.requires.3.right
      c.args.index.0
      c.if-ends-place-gt0.true,
  c.requires.3,
)

pub look-requires-2 : goal.look-requires-2
look-requires-2 c = (
  c.requires.0,
  c.requires.1,
  c.requires.2,
)

pub returns-in_err-run : goal.returns-in_err-run
returns-in_err-run c =
    let a = c.args in
    let lent = lends a.names.now a.area.now in
    let r : ◌≡◌ {A = Option Run} c.from_residual.result None = search rules in (
      rw r (looks-same a.h a.t.now lent a.items.now a.item_area.now a.index.0 c.in_err-run.was c.look-2.ensures),
      c.requires.3,
    )

pub offset_bounds-starts-place-2 : goal.offset_bounds-starts-place-2
offset_bounds-starts-place-2 c = omega (arith, c.if-place-ge-KNOWN.false)

pub bounds-starts-place-2 : goal.bounds-starts-place-2
bounds-starts-place-2 c = omega (
  arith,
  c.if-place-ge-KNOWN.false,
  c.requires.3.first,
)

pub overflow_add-ends : goal.overflow_add-ends
overflow_add-ends c =
    let a = c.args in
    let lent = lends a.names.now a.area.now in
    let g = looks-same a.h a.t.now lent a.items.now a.item_area.now a.index.0 c.in_ok-run.was c.look-2.ensures in
    omega (arith, g.run.fits)

pub offset_bounds-ends-place-2 : goal.offset_bounds-ends-place-2
offset_bounds-ends-place-2 c = omega (arith, c.if-place-ge-KNOWN.false)

pub bounds-ends-place-2 : goal.bounds-ends-place-2
bounds-ends-place-2 c = omega (
  arith,
  c.if-place-ge-KNOWN.false,
  c.requires.3.last,
)

pub returns : goal.returns
returns c =
    let a = c.args in
    let lent = lends a.names.now a.area.now in
    let g = looks-same a.h a.t.now lent a.items.now a.item_area.now a.index.0 c.in_ok-run.was c.look-2.ensures in (
      g,
      knows_more a.h a.t.now lent a.items.now a.item_area.now a.starts.now a.ends.now a.index.0 _
          (omega (arith, c.if-place-ge-KNOWN.false)) g
          c.requires.3,
    )
