use native.Mathlib.Omega.{arith}
use Rattle.std.proofs.lemmas.List.{map-set}
use borrow.Author.Tests.{le-leb, lt-leb}
use Rattle.listing.proofs.Loops.{entries_more, entries_stop, entries_full}
use Rattle.listing.proofs.entries.fill.Goals as goal
use Rattle.listing.proofs.entries.fill.Goals.{in_default-via-in-Some+else-least-entry, in_default-via-in_default}

pub returns-in_default-clause-filled : goal.returns-in_default-clause-filled
returns-in_default-clause-filled g c = λ number names reads.
    entries_stop (c.loop-count.invariant number names reads) c.loop-count-test.true
    (elim c.in_default.branch [
      | in_default-via-in-Some+else-least-entry w ↦
          rw (reads c.loop-count.next _ w.in-Some.ensures) (lt-leb c.loop-count.least w.in-Some.entry.key (omega arith))
      | in_default-via-in_default w ↦ rw (reads c.loop-count.next _ w.in_default.ensures)
    ])

pub loop-count-preserved : goal.loop-count-preserved
loop-count-preserved g c = λ number names reads.
    rw (map-set number c.loop-count.list c.in-Some.entry.key c.in-Some.entry.value)
    (entries_more (c.loop-count.invariant number names reads) c.loop-count-test.true _ (reads c.loop-count.next _ c.in-Some.ensures)
    (le-leb _ _ (omega arith)) (omega arith))

pub returns-clause-filled : goal.returns-clause-filled
returns-clause-filled g c = λ number names reads.
    entries_full (c.loop-count.invariant number names reads) c.loop-count-test.false
