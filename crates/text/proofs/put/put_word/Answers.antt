-- The two cases of `Room`: with room and without.
use Rattle.text.proofs.Room.{word_put, word_not_put}
use Rattle.text.proofs.put.put_word.Goals as goal

pub returns-then-has_room : goal.returns-then-has_room
returns-then-has_room c =
    let p = word_put c.has_room.ensures c.if-has_room.true c.write_word.ensures in
    record { puts = p.0; ends = p.1 }

pub returns-else-has_room : goal.returns-else-has_room
returns-else-has_room c =
    let p = word_not_put c.args.word.now c.has_room.ensures c.if-has_room.false in
    record { puts = p.0; ends = p.1 }
