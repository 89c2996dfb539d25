use mathlib.Core.Path.{refl, sym, ap}
use native.Mathlib.Omega.{arith}
use Rattle.text.specs.Line.{Row, row_of}
use Rattle.text.proofs.Lines.{found_row, no_row}
use Rattle.listing.specs.Lines.{head_row, size_row}
use Rattle.text.proofs.Writing.{put_nothing, put_then}
use Rattle.listing.proofs.Rows.{size_divisions, size_bytes}
use Rattle.listing.proofs.Whole.{nothing_written, text_long, head_wrong, size_wrong, size_right}
use Rattle.listing.proofs.run.cellrun.Goals as goal

pub returns-then-out-lt-ROOM-clause-puts : goal.returns-then-out-lt-ROOM-clause-puts
returns-then-out-lt-ROOM-clause-puts c = rw (← nothing_written _ _ c.if-out-lt-ROOM.true) (put_nothing _ 0)

pub returns-then-s-gt65536-clause-puts : goal.returns-then-s-gt65536-clause-puts
returns-then-s-gt65536-clause-puts c =
    rw (← text_long _ c.args.s.now c.if-out-lt-ROOM.false (omega (arith, c.if-s-gt65536.true)))
    (put_then c.put_head-at.ensures.puts c.put_bad.ensures.puts)

-- no head line, or no size line
pub returns-in_default-clause-puts : goal.returns-in_default-clause-puts
returns-in_default-clause-puts c =
    let s = c.args.s.now in
    rw (← head_wrong _ s c.if-out-lt-ROOM.false (omega arith) (head_row s 0) refl (no_row (head_row s 0) c.in_default.ensures))
    (put_then c.put_head-at.ensures.puts c.put_bad-in_default.ensures.puts)

pub returns-in_default-size_row-clause-puts : goal.returns-in_default-size_row-clause-puts
returns-in_default-size_row-clause-puts c =
    let s = c.args.s.now in
    let head = c.in-Some.head in
    let size = size_row s head.next in
    rw (← size_wrong _ s c.if-out-lt-ROOM.false (omega arith) (row_of head) (sym (found_row (head_row s 0) c.in-Some.ensures)) refl
    size refl (no_row size c.in_default-size_row.ensures))
    (put_then c.put_head-at.ensures.puts c.put_bad-in_default-size_row.ensures.puts)

pub invariant_of-size : goal.invariant_of-size
invariant_of-size c =
    let s = c.args.s.now in
    let size = size_row s c.in-Some.head.next in
    let e = found_row size c.in-Some-size_row.ensures in
    record {
      divisions = rw e at (size_divisions s c.in-Some.head.next (ap (λ (r : Row). r.ok) e));
      bytes = rw e at (size_bytes s c.in-Some.head.next);
    }

pub returns-clause-puts : goal.returns-clause-puts
returns-clause-puts c =
    let s = c.args.s.now in
    let head = c.in-Some.head in
    rw (← size_right _ s c.if-out-lt-ROOM.false (omega arith) (row_of head) (sym (found_row (head_row s 0) c.in-Some.ensures)) refl
    (row_of c.in-Some-size_row.row) (sym (found_row (size_row s head.next) c.in-Some-size_row.ensures)) refl)
    (put_then c.put_head-at.ensures.puts c.run_cells.ensures.puts)
