-- `system_types::guess` meets its contract: the id at the first place is not below the wanted one (proofs/Search.antt, `rises_by`).
use Rattle.std.proofs.Common.{◌≡◌, get_or, arith}
use Rattle.system_types.proofs.Search.{rises_by}
use Rattle.system_types.proofs.guess.Goals as goal

pub overflow_sub-over : goal.overflow_sub-over
overflow_sub-over c =
    let names = c.args.names.now in
    let first : c.in_ok-first.field-0.now ≡ get_or names 0 0 = c.in_ok-first.ensures.item.3.1 0 in
    omega (arith, rises_by names c.requires c.in_ok-far.far (omega arith), c.in_ok-far.ensures)
