-- The loop's invariant: each cell below `c` is sound.
use Rattle.std.proofs.Common.{ℕ, ◌≡◌, ◌<◌, true}
use Rattle.rules.specs.Lent.{lent}
use Rattle.rules.specs.Sound.{sound_cell}
use Rattle.tables.proofs.lowest_unsound.Given as goal

abbrev pub invariant-loop-c : goal.invariant-loop-c
invariant-loop-c l = (k : ℕ) → k < l.c → sound_cell (lent l.tables l.memory) k ≡ true
