-- `walk::advance_knowing` meets its contract: each stage has its own function, and clearing goes on (proofs/Clearing.antt).
use Rattle.walk.proofs.Clearing.{goes-clearing}
use Rattle.walk.proofs.Knowing.{knows-cleared}
use Rattle.system_types.specs.Names.{lends}
use Rattle.walk.proofs.advance_knowing.Goals as goal

pub returns-in-Clearing : goal.returns-in-Clearing
returns-in-Clearing c =
    let a = c.args in
    let r = c.clear_next in (
      (λ g.
          rw r.ensures
          (goes-clearing a.file.now (lends a.names.now a.area.now) a.nodes.now a.attributes.now a.st g _ c.in-Clearing.is)),
      knows-cleared a.file.now (lends a.names.now a.area.now) _ _ c.requires.1.looks-room c.requires.1.texts-room a.st _ _ r.ensures,
    )
