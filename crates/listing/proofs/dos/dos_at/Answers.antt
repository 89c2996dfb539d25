use Rattle.listing.proofs.Loops.{dos_more}
use Rattle.listing.proofs.dos.dos_at.Goals as goal

pub loop-n-preserved : goal.loop-n-preserved
loop-n-preserved c =
    dos_more c.args.s.short c.loop-n.invariant c.loop-n-test.true c.in-Some.ensures
    c.copy_from_slice.ensures.after c.copy_from_slice.ensures.len
