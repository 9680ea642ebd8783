-- `system_types::all_keep` meets its contract. Invariant: if the entries seen keep what is asked at the end, those left say what all
-- say (proofs/Pass.antt, `Seen`).
use Rattle.std.proofs.Common.{◌*◌, get_or, arith}
use Rattle.system_types.proofs.Pass.{seen_first, seen-falls, seen-rises, Seen-done}
use Rattle.system_types.proofs.all_keep.Goals as goal
use Rattle.system_types.proofs.all_keep.Goals.{then-id-last, else-id-last}

pub loop-k-init : goal.loop-k-init
loop-k-init c =
    let a = c.args in seen_first a.area.now a.names.now

pub loop-k-preserved : goal.loop-k-preserved
loop-k-preserved c =
    let a = c.args in
    let ascii = c.requires in
    let l = c.loop-k in
    let g = c.max-most in
    let e = c.last_byte in
    let area = a.area.now in
    let names = a.names.now in
    let name = e.ensures in
    let falls = seen-falls area names l.k (get_or names (3 * l.k) 0) g.result (omega arith) in
    let rises = seen-rises area names l.k l.falls l.last l.most e.result g.result ascii (omega arith) l.invariant name in
    elim c.if-id-last.branch [
      | then-id-last w ↦ rw w.falls-is falls
      | else-id-last w ↦ rw w.falls-is (rises (omega arith) (omega arith) w.if-id-last.false)
    ]

pub returns : goal.returns
returns c =
    let a = c.args in
    let l = c.loop-k in
    Seen-done a.area.now a.names.now l.k l.falls l.last l.most l.invariant (omega arith)
