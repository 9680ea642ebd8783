-- `head::enter` meets its contract: the checks in their order (`entered-long`, `entered-off`, `entered-names`), and behind them the head (`entered-good`).
use Rattle.std.specs.Prelude.{Ok}
use mathlib.Core.Path.{refl, sym, ◌∙◌, ap}
use Rattle.system_types.specs.Names.{lends}
use Rattle.head.specs.Inner.Entered.{terms_of}
use Rattle.head.proofs.Entering.{entered-long, entered-off, entered-names, entered-mode, entered-good}
use Rattle.head.proofs.enter.Goals as goal

pub returns-then-file-gt-FILE_LIMIT : goal.returns-then-file-gt-FILE_LIMIT
returns-then-file-gt-FILE_LIMIT c =
    let a = c.args in
    entered-long a.file.now (lends a.names.now a.area.now) (terms_of a.asker) c.if-file-gt-FILE_LIMIT.true

pub returns-then-keeps_none : goal.returns-then-keeps_none
returns-then-keeps_none c =
    let a = c.args in
    entered-off a.file.now (lends a.names.now a.area.now) (terms_of a.asker) c.if-file-gt-FILE_LIMIT.false
    (sym c.keeps_none.ensures ∙ c.if-keeps_none.true)

pub returns-in-Err : goal.returns-in-Err
returns-in-Err c =
    let a = c.args in
    let bad = sym c.check_names.ensures ∙ c.in-Err.is in
    entered-names a.file.now (lends a.names.now a.area.now) (terms_of a.asker) c.if-file-gt-FILE_LIMIT.false
    (sym c.keeps_none.ensures ∙ c.if-keeps_none.false) bad

pub returns-then-not-is_mode : goal.returns-then-not-is_mode
returns-then-not-is_mode c =
    let a = c.args in
    let good = sym c.check_names.ensures ∙ c.in_default.is in
    let mode = sym c.is_mode.ensures ∙ c.if-not-is_mode.true in
    rw c.mode_of-mode.ensures
    (entered-mode a.file.now (lends a.names.now a.area.now) (terms_of a.asker) c.if-file-gt-FILE_LIMIT.false
    (sym c.keeps_none.ensures ∙ c.if-keeps_none.false) good (rw c.mode_of-mode.ensures at mode))

pub returns : goal.returns
returns c =
    let a = c.args in
    let good = sym c.check_names.ensures ∙ c.in_default.is in
    let mode = sym c.is_mode.ensures ∙ c.if-not-is_mode.false in
    ap Ok c.open_head.ensures
    ∙ entered-good a.file.now (lends a.names.now a.area.now) (terms_of a.asker) c.if-file-gt-FILE_LIMIT.false
    (sym c.keeps_none.ensures ∙ c.if-keeps_none.false) good (rw c.mode_of-mode.ensures at mode) refl
