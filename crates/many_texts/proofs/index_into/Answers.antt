-- `many_texts::index_into` meets its contract: a text of ASCII (`index-ascii`), no text (`index-none`), or any that was found (`index-some`).
use mathlib.Core.Path.{sym, ◌∙◌}
use Rattle.many_texts.proofs.Going.{index-none, index-some, index-ascii}
use Rattle.many_texts.proofs.index_into.Goals as goal

pub found_ascii-requires : goal.found_ascii-requires
found_ascii-requires c = c.find-f.ensures.inside

pub found_ascii_into-n-requires : goal.found_ascii_into-n-requires
found_ascii_into-n-requires c = (
  c.find-f.ensures.inside,
  c.requires.fits.short,
  sym
      c.found_ascii.ensures ∙ c.if-found_ascii.true,
)

pub returns-then-found_ascii : goal.returns-then-found_ascii
returns-then-found_ascii c =
    let a = c.args in
    index-ascii a.h.utf16 a.t.now a.area.now c.find-f.result
    c.find-f.ensures.same
    (sym c.found_ascii.ensures ∙ c.if-found_ascii.true)
    c.found_ascii_into-n.ensures

pub returns-then-not-is_found : goal.returns-then-not-is_found
returns-then-not-is_found c =
    let a = c.args in
    index-none a.h.utf16 a.t.now a.area.now c.find-f.result c.find-f.ensures.same
    (sym c.is_found.ensures ∙ c.if-not-is_found.true)

pub found_told-state-requires : goal.found_told-state-requires
found_told-state-requires c = (
  c.find-f.ensures.inside,
  c.requires.fits.short,
)

pub returns : goal.returns
returns c =
    let a = c.args in
    index-some a.h.utf16 a.t.now a.area.now c.find-f.result
    c.find-f.ensures.same
    (sym c.is_found.ensures ∙ c.if-not-is_found.false)
    c.found_into-n.ensures c.found_told-state.ensures
