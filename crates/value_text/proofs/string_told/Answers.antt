-- `value_text::string_told` meets its contract: with no names lent the pool alone is asked (`pool-content`); a string of ASCII is whole (`string-ascii`).
use mathlib.Core.Path.{sym, ap, ◌∙◌}
use Rattle.system_types.specs.Names.{lends}
use Rattle.text.specs.Content.{string_of, text_in}
use Rattle.value_text.specs.Value.{string_state}
use Rattle.value_text.proofs.Strings.{string-ascii, string-shown}
use Rattle.value_text.proofs.Looking.{pool-asks, pool-content}
use Rattle.value_text.proofs.string_told.Goals as goal

pub find-f-requires : goal.find-f-requires
find-f-requires c =
    let s = c in
    let a = s.args in
    pool-asks a.h a.t.now (lends a.names.now a.area.now) s.requires

pub found_ascii-requires : goal.found_ascii-requires
found_ascii-requires c = c.find-f.ensures.inside

pub found_ascii_into-n-requires : goal.found_ascii_into-n-requires
found_ascii_into-n-requires c = (
  c.find-f.ensures.inside,
  c.requires.fits.short,
  sym c.found_ascii.ensures ∙ c.if-found_ascii.true,
)

pub returns-then-found_ascii : goal.returns-then-found_ascii
returns-then-found_ascii c =
    let a = c.args in
    let same = c.find-f.ensures.same ∙ pool-content a.h a.t.now (lends a.names.now a.area.now) a.area.now a.v in
    let is = sym c.found_ascii.ensures ∙ c.if-found_ascii.true in
    string-shown (string_of a.h a.t.now a.v) (ap text_in same) c.found_ascii_into-n.ensures
    (string-ascii a.h.utf16 a.t.now a.area.now c.find-f.result same is)

pub found_into-n-requires : goal.found_into-n-requires
found_into-n-requires c = (c.find-f.ensures.inside, c.requires.fits.short)

pub string_state-state-requires : goal.string_state-state-requires
string_state-state-requires c = (c.find-f.ensures.inside, c.requires.fits.short)

pub returns : goal.returns
returns c =
    let a = c.args in
    let same = c.find-f.ensures.same ∙ pool-content a.h a.t.now (lends a.names.now a.area.now) a.area.now a.v in
    string-shown (string_of a.h a.t.now a.v) (ap text_in same) c.found_into-n.ensures (c.string_state-state.ensures ∙ ap string_state same)
