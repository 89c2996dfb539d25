use native.Mathlib.Omega.{arith}
use lib.ListN.{drop}
use lib.Seq.{length-take-le}
use Rattle.std.proofs.lemmas.List.{set-append_left}
use Rattle.text.specs.Line.{zeros5}
use Rattle.text.proofs.Digits.{peek_some}
use Rattle.text.proofs.Lines.{found_number, fields_go_on}
use Rattle.text.proofs.line.fields_at.Goals as goal

-- the number goes to the front that is read, with the zeros behind it
pub loop-x-preserved : goal.loop-x-preserved
loop-x-preserved c =
    let front = length-take-le c.args.k zeros5 (omega arith) in
    rw (← set-append_left c.loop-x.x-items (drop c.args.k zeros5) c.loop-x.x-index c.in_ok-number.number.value (omega arith))
    (fields_go_on c.loop-x.invariant (omega arith) (omega (arith, peek_some c.in-Some-eq9.ensures))
    (found_number _ c.in_ok-number.ensures))
