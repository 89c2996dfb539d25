use Prim.Native.Nat.{◌-◌}
use lib.ListN.{length}
use Rattle.text.proofs.Digits.{Running}
use Rattle.text.proofs.number.run_at.Given as goal

-- The loop's invariant: it has come to the place `next` with the value `value` (`Running`, of `Digits`). Each turn passes
-- a byte of the text, so what is left of the text is the measure.
abbrev pub invariant-loop-c : goal.invariant-loop-c
invariant-loop-c l = Running l.s l.at l.next l.value

abbrev pub decreases-loop-c : goal.decreases-loop-c
decreases-loop-c l = length l.s - l.next
