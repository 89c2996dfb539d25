use Rattle.listing.proofs.Written.{lined_none, lined_more, lined_all, room_more}
use Rattle.listing.proofs.put.put_lines.Goals as goal

pub loop-e-init : goal.loop-e-init
loop-e-init g c = λ text most spare writes room. lined_none _ _ _ _ _

pub loop-e-preserved : goal.loop-e-preserved
loop-e-preserved g c = λ text most spare writes room.
    let l = c.loop-e.invariant text most spare writes room in
    let more = c.loop-e-test.true in
    let line = writes _ _ _ _ _ c.index-list-e.result more c.index-list-e.is (room_more l more spare room) c.line-next.ensures in
    lined_more l more line.0 line.1

pub returns : goal.returns
returns g c = λ text most spare writes room. lined_all (c.loop-e.invariant text most spare writes room) c.loop-e-test.false
