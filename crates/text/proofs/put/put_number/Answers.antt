-- The two cases of `Room`: with room and without.
use Rattle.text.proofs.Room.{number_put, number_not_put}
use Rattle.text.proofs.put.put_number.Goals as goal

pub returns-then-has_room : goal.returns-then-has_room
returns-then-has_room c =
    let p = number_put c.args.n c.has_room.ensures c.if-has_room.true c.write_number.ensures in
    record { puts = p.0; ends = p.1 }

pub returns-else-has_room : goal.returns-else-has_room
returns-else-has_room c =
    let p = number_not_put c.args.n c.has_room.ensures c.if-has_room.false in
    record { puts = p.0; ends = p.1 }
