use Prim.Native.Nat.{ℕ, ◌+◌, ◌*◌, ◌≤◌}
use mathlib.Core.List.{List}
use lib.ListN.{length}
use Rattle.listing.specs.Reading.{Writes}
use Rattle.listing.proofs.Written.{Lined}
use Rattle.listing.proofs.put.put_lines.Given as goal

-- as many lines are written as the loop has come, whatever text the calls write
abbrev pub invariant-loop-e : goal.invariant-loop-e
invariant-loop-e g l =
    (text : ℕ → List ℕ) (most spare : ℕ) → Writes (goal.F-post g l.line) l.list text most spare
    → l.at + most * length l.list + spare ≤ length l.initial.out
    → Lined text most (length l.list) l.at l.initial.out l.out l.next l.e
