-- `round_up::add_reading` meets its contract: there is room for what the file adds, or there is not.
use Rattle.round_up.proofs.Shares.{number_lt, added-of-room, added-of-full}
use Rattle.round_up.proofs.add_reading.Goals as goal

pub share_by-share-requires : goal.share_by-share-requires
share_by-share-requires c = rw c.read_numbers-numbers.ensures (number_lt _)

pub returns-then-add_where_room : goal.returns-then-add_where_room
returns-then-add_where_room c =
    let tried = c in
    let shared = tried in
    let n = shared in
    let a = n.args in
    added-of-room a.round_up a.kinds a.answer a.file_length _ _ n.read_numbers-numbers.ensures shared.share_by-share.ensures _ _
    tried.add_where_room.ensures c.if-add_where_room.true _ c.with_counts.ensures

pub returns : goal.returns
returns c =
    let tried = c in
    let shared = tried in
    let n = shared in
    let a = n.args in
    added-of-full a.round_up a.kinds a.answer a.file_length _ _ n.read_numbers-numbers.ensures shared.share_by-share.ensures _ _
    tried.add_where_room.ensures c.if-add_where_room.false _ c.full.ensures
