-- `text::damage::state_of_found` meets its contract: by the case of what was found; a system name is whole.
use Rattle.text.proofs.Wholes.{state-system}
use Rattle.text.proofs.damage.state_of_found.Goals as goal

pub returns-in-System : goal.returns-in-System
returns-in-System c =
    let s = c in
    let a = s.args in
    state-system a.utf16 a.t.now a.area.now s.requires c.in-System.is
