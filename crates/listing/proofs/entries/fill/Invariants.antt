use Prim.Native.Nat.{ℕ}
use mathlib.Core.List.{map}
use Rattle.listing.specs.Lines.{Entry}
use Rattle.listing.specs.Reading.{Reads}
use Rattle.listing.proofs.Loops.{EntriesRead}
use Rattle.listing.proofs.entries.fill.Given as goal

-- as many lines are read as the loop has come, whatever `number` and `names` tell of them
abbrev pub invariant-loop-count : goal.invariant-loop-count
invariant-loop-count g l =
    (number : g.row.T.Denot → ℕ) (names : ℕ → Entry) → Reads (goal.F-post g l.line) number names
    → EntriesRead names l.most l.at (map number l.initial.list) l.count l.next l.least (map number l.list)
