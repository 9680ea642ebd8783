-- `relist::relist` meets its contract: what is written is what was printed.
use Rattle.relist.proofs.Writing.{listing-written, fault-written}
use Rattle.relist.proofs.relist.Goals as goal

pub judge-requires : goal.judge-requires
judge-requires g c = c.requires

pub slice_bounds-write_all-end : goal.slice_bounds-write_all-end
slice_bounds-write_all-end g c = c.in-Ok.ensures.1

pub returns-in-Ok : goal.returns-in-Ok
returns-in-Ok g c = listing-written _ _ _ _ _ _ _ c.in-Ok.ensures.0 _ c.write_all.ensures.bytes

pub returns-in-Err : goal.returns-in-Err
returns-in-Err g c = fault-written _ _ _ _ _ _ _ _ c.in-Err.ensures _
