-- The loop's invariant: `n` is how many of the entries passed are not 0, and so no more than they are.
use Rattle.std.proofs.Common.{◌≡◌, ◌≤◌, take, ltb, count_by}
use Rattle.tables.proofs.count_holders.Given as goal

abbrev pub invariant-loop-right : goal.invariant-loop-right
invariant-loop-right l = (l.n ≡ count_by (λ right. ltb 0 right) (take l.right-index l.row)) × (l.n ≤ l.right-index)
