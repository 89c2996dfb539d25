-- The two cases of `Room`: with room, where the fields stand after the word, and without.
use lib.ListN.{length}
use Rattle.text.proofs.Writing.{put_then}
use Rattle.text.proofs.Room.{row_put, row_not_put}
use Rattle.text.proofs.put.put_row.Goals as goal

pub returns-then-row_has_room : goal.returns-then-row_has_room
returns-then-row_has_room c =
    let v = c.args.numbers.now in
    let p =
    row_put c.args.word.now v (length v) c.row_has_room.ensures c.if-row_has_room.true
    (put_then c.write_word-end.ensures c.write_fields.ensures) in
    record { puts = p.0; ends = p.1 }

pub returns-else-row_has_room : goal.returns-else-row_has_room
returns-else-row_has_room c =
    let v = c.args.numbers.now in
    let p = row_not_put c.args.word.now v (length v) c.row_has_room.ensures c.if-row_has_room.false in
    record { puts = p.0; ends = p.1 }
