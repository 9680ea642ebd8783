-- `system_types::by_halves` meets its contract. Invariant: the entries before `low` are below the id and those from `high` on
-- above it (proofs/Search.antt, `Between`). Measure: the entries between.
use Rattle.std.proofs.Common.{◌+◌, ◌-◌, ◌/◌, sym, arith}
use Rattle.system_types.proofs.Search.{rising-found, between-missing}
use Rattle.system_types.proofs.by_halves.Goals as goal

pub returns-then-found-wanted : goal.returns-then-found-wanted
returns-then-found-wanted c =
    let a = c.args in
    let l = c.loop-low in
    let m = l.low + (l.high - l.low) / 2 in
    let rising = c.requires in
    let fits = l.invariant.fits in
    sym (rising-found a.wanted.0 a.names.now m rising (omega arith) c.if-found-wanted.true)

pub returns : goal.returns
returns c =
    let a = c.args in
    let l = c.loop-low in
    sym (between-missing a.names.now a.wanted.0 l.low l.high l.invariant (omega arith))
