use Rattle.listing.proofs.Loops.{DosRead}
use Rattle.listing.proofs.dos.dos_at.Given as goal

abbrev pub invariant-loop-n : goal.invariant-loop-n
invariant-loop-n l = DosRead l.s.bytes.now l.at l.n l.next l.list
