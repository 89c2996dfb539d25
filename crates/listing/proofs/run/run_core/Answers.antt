use Prim.Native.Nat.{◌*◌, ◌≤◌}
use mathlib.Core.Path.{refl}
use native.Mathlib.Omega.{arith}
use lib.ListN.{length, take}
use lib.Seq.{length-take-le}
use Rattle.text.specs.Line.{row_of}
use Rattle.text.proofs.Lines.{found_row, no_row}
use Rattle.listing.specs.Lines.{core_row}
use Rattle.listing.specs.Listing.{Dos}
use Rattle.listing.proofs.Whole.{filled_long, core_wrong, dos_wrong, dos_right}
use Rattle.listing.proofs.run.run_core.Goals as goal
use Rattle.listing.proofs.run.run_core.Goals.{After-dos_at-dos}

-- the do lines that `dos_at` answered and left
abbrev done : After-dos_at-dos → Dos
done c =
    record {
      count = c.dos_at-dos.result.count;
      next = c.dos_at-dos.result.next;
      numbers = take (4 * c.dos_at-dos.result.count) c.dos_at-dos.new.list;
    }

-- the numbers of the do lines lie in their list
inside : (c : After-dos_at-dos) → 4 * c.dos_at-dos.result.count ≤ length c.dos_at-dos.new.list
inside c =
    omega (arith, c.dos_at-dos.ensures.few, c.dos_at-dos.auto.list, filled_long 23828 c.filled-list.ensures)

pub returns-in_default-clause-puts : goal.returns-in_default-clause-puts
returns-in_default-clause-puts c =
    let a = c.args in
    let core = core_row a.s.bytes.now a.next in
    rw (← core_wrong a.s.bytes.now a.line _ core (no_row core c.in_default.ensures)) c.put_bad.ensures.puts

pub returns-then-dos-s-clause-puts : goal.returns-then-dos-s-clause-puts
returns-then-dos-s-clause-puts c =
    let dos = (goal.at.returns-then-dos-s-clause-puts c).After-dos_at-dos in
    rw (
      found_row _ c.in-Some.ensures,
      ← dos_wrong c.args.s.bytes.now c.args.line _ (row_of c.in-Some.core) refl (done dos) c.dos_at-dos.ensures.value c.if-dos-s.true,
    )
    c.put_bad-then-dos-s.ensures.puts

pub run_instructions-requires-clause-sizes : goal.run_instructions-requires-clause-sizes
run_instructions-requires-clause-sizes c =
    let dos = (goal.at.run_instructions-requires-clause-sizes c).After-dos_at-dos in
    (length-take-le _ _ (inside dos), c.dos_at-dos.ensures.few, c.requires.1)

pub returns-clause-puts : goal.returns-clause-puts
returns-clause-puts c =
    let dos = (goal.at.returns-clause-puts c).After-dos_at-dos in
    rw (
      found_row _ c.in-Some.ensures,
      ← dos_right c.args.s.bytes.now c.args.line _ (row_of c.in-Some.core) refl (done dos) c.dos_at-dos.ensures.value c.if-dos-s.false,
    )
    c.run_instructions.ensures.puts
