-- `walk::placing::run_in` meets its contract: the two parts of the file are the tables and the body that the definitions take.
use Rattle.walk.proofs.placing.run_in.Goals as goal

pub returns : goal.returns
returns c =
    rw (c.body_of-b.ensures, c.tables_of-t.ensures) at c.run.ensures
