use native.Mathlib.Omega.{arith}
use Rattle.text.proofs.Digits.{peek_some, run_turns}
use Rattle.text.proofs.number.run_at.Goals as goal

pub loop-c-preserved : goal.loop-c-preserved
loop-c-preserved c =
    run_turns c.loop-c.invariant (peek_some c.in-Some-48-to-57.ensures) (omega arith) (omega arith) c.shift-value.ensures
