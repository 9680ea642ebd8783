-- `walk::advance` meets its contract: zeros say nothing of any file (proofs/Knowing.antt).
use Rattle.system_types.specs.Names.{lends}
use Rattle.walk.proofs.Knowing.{knows-none}
use Rattle.walk.proofs.advance.Goals as goal

pub advance_knowing-requires : goal.advance_knowing-requires
advance_knowing-requires c =
    let a = c.args in
    (c.requires, knows-none a.file.now (lends a.names.now a.area.now) a.st)
