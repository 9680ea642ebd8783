-- `system_types::get_type_name` meets its contract: an entry with the id is the one that is asked for, wherever it was guessed.
use Rattle.std.proofs.Common.{sym, ◌∙◌}
use Rattle.system_types.proofs.Search.{system_name-top, rising-found}
use Rattle.system_types.proofs.get_type_name.Goals as goal

pub returns-then-names-place : goal.returns-then-names-place
returns-then-names-place c =
    let a = c.args in
    let rising = c.requires in
    let top = c.if-id-ne1.false in
    let place = c.in-Some.place in
    let inside = c.in-Some.ensures in
    let found = rising-found a.id.0 a.names.now place rising inside c.if-names-place.true in
    sym (system_name-top a.id.0 a.names.now top ∙ found)
