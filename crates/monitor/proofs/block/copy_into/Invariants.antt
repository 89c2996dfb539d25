-- The loop's invariant: the part is as long as the bytes, and its first `i` are the first `i` of the bytes.
use Rattle.std.proofs.Common.{◌≡◌, length, take}
use Rattle.monitor.proofs.block.copy_into.Given as goal

abbrev pub invariant-loop-i : goal.invariant-loop-i
invariant-loop-i l = (length l.part ≡ length l.bytes) × (take l.i l.part ≡ take l.i l.bytes)
