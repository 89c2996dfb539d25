use mathlib.Core.List.{◌++◌}
use lib.ListN.{drop}
use Rattle.text.specs.Line.{zeros5}
use Rattle.text.proofs.Lines.{Reading}
use Rattle.text.proofs.line.fields_at.Given as goal

-- The loop's invariant: so many of the `k` numbers are read to the front of `v`, and `next` is the place after them
-- (`Reading`, of `Lines`).
abbrev pub invariant-loop-x : goal.invariant-loop-x
invariant-loop-x l = Reading l.s l.at l.k (l.x-items ++ drop l.k zeros5) l.next l.x-index
