-- `c_api::adding::axml_round_up_add` meets its contract: another number, all of the share added, or nothing of it.
use native.Mathlib.Omega.{arith}
use Rattle.c_api.proofs.Month.{adds-other-number, adds-all, adds-full}
use Rattle.c_api.proofs.adding.axml_round_up_add.Goals as goal

pub returns-then-refusal-ge-NUMBERS : goal.returns-then-refusal-ge-NUMBERS
returns-then-refusal-ge-NUMBERS c =
    let a = c.args in
    adds-other-number a.round_up.now a.notes.now a.refusal a.note_count a.file_bytes (omega arith) c.if-refusal-ge-NUMBERS.true

pub returns-then-add_where_room : goal.returns-then-add_where_room
returns-then-add_where_room c =
    let a = c.args in
    adds-all a.round_up.now a.notes.now a.refusal a.note_count a.file_bytes (omega arith) c.if-refusal-ge-NUMBERS.false _ _
    c.kinds_in-kinds.ensures c.share_by-share.ensures _ _ c.add_where_room.ensures c.if-add_where_room.true

pub returns : goal.returns
returns c =
    let a = c.args in
    adds-full a.round_up.now a.notes.now a.refusal a.note_count a.file_bytes (omega arith) c.if-refusal-ge-NUMBERS.false _ _
    c.kinds_in-kinds.ensures c.share_by-share.ensures _ _ c.add_where_room.ensures c.if-add_where_room.false
