use lib.ListN.{length}
use Rattle.text.proofs.Writing.{Listed}
use Rattle.text.proofs.write.write_fields.Given as goal

-- The loop's invariant: so many of the numbers are written, `end` is the place after them, and there is room for the rest
-- (`Listed`, of `Writing`).
abbrev pub invariant-loop-n : goal.invariant-loop-n
invariant-loop-n l = Listed l.initial.out l.at (length l.numbers) l.numbers l.out l.end l.n-index
