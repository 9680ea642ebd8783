-- `first_value::once::is_tagged_once` meets its contract: by what is known (`tells-known`), else by the text, which is kept if it is another.
use Prim.Native.Nat.{◌%◌, ◌<◌}
use native.Mathlib.Omega.{arith}
use mathlib.Core.Path.{sym, ◌∙◌}
use lib.ListN.{length}
use Rattle.system_types.specs.Names.{lends}
use Rattle.first_value.proofs.Remembered.{tells-known, tells-same, tells_more}
use Rattle.first_value.proofs.once.is_tagged_once.Goals as goal

pub returns-then-others-place : goal.returns-then-others-place
returns-then-others-place c =
    let s = c in
    let a = s.args in
    let test = c.if-fixed-eq1 in
    tells-known a.h a.t.now (lends a.names.now a.area.now) a.tag.now a.others.now (a.index.0 % 64) a.fixed a.index.0 test.false c.if-others-place.true s.requires.2

pub returns-then-is_tagged : goal.returns-then-is_tagged
returns-then-is_tagged c =
    let s = c in
    let a = s.args in
    tells-same a.h a.t.now (lends a.names.now a.area.now) a.tag.now a.others.now a.fixed a.index.0 (sym c.if-is_tagged.true ∙ c.is_tagged-2.ensures) s.requires.2

pub returns : goal.returns
returns c =
    let s = c in
    let a = s.args in
    let test = c.if-fixed-eq1 in
    let p : a.index.0 % 64 < length a.others.now = omega (arith, s.requires.1) in
    tells_more a.h a.t.now (lends a.names.now a.area.now) a.tag.now a.others.now (a.index.0 % 64) a.fixed a.index.0 test.false p c.is_tagged-2.ensures
    c.if-is_tagged.false s.requires.2
