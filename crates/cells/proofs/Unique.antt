-- Two outcomes that one contract allows are equal: for each exported function, over its contract as the source states it. A list
-- that is lent with `&` cannot be written through and comes back as it was passed, so the theorem about `cells_view`, which takes
-- nothing else, speaks of the result alone. Assumes nothing.
use Prim.Native.Nat.{ℕ}
use mathlib.Core.Path.{◌≡◌, ap}
use mathlib.Core.List.{List}
use Rattle.rules.specs.Numbers.{Tables}
use Rattle.rules.specs.Lent.{Slice, MutSlice, Passed, lent_all, lent_block, rest_of}
use Rattle.rules.specs.declared.Registers.{Registers}
use Rattle.rules.proofs.Laws.{one_outcome}
use Rattle.monitor.proofs.Unique.{same_reply}
use Rattle.cells.proofs.cells_execute.Reads as execute-reads
use Rattle.cells.proofs.cells_execute_all.Reads as execute-all-reads
use Rattle.cells.proofs.cells_write_block.Reads as write-block-reads
use Rattle.cells.proofs.cells_view.Reads as view-reads

-- the lists at exit, with the M that was passed, of a call that may write the marks, the rights, the grants and the memory
abbrev pub lists : {Rest End : Type 0} → Passed MutSlice MutSlice Rest → Passed MutSlice MutSlice End → Tables
lists a s = lent_all (a.0, s.1)

-- the same of `cells_write_block`, which may write the memory alone
abbrev pub block_lists : {Rest End : Type 0} → Passed Slice MutSlice Rest → Passed Slice MutSlice End → Tables
block_lists a s = lent_block (a.0, s.1)

-- of `cells_execute_all`, whose rest is the registers, the instructions and the lists of answers: both of these at exit
abbrev pub answers : Passed MutSlice MutSlice (Registers × (Slice × (MutSlice × (MutSlice × Unit {0})))) → List ℕ × List ℕ
answers s = ((rest_of s).1.1.0.now, (rest_of s).1.1.1.0.now)

pub cells_execute_unique : (κs : _) (a : _) (r q : _) (s u : _) → execute-reads.Post κs a r s → execute-reads.Post κs a q u
    → (r ≡ q) × (lists a s ≡ lists a u)
cells_execute_unique κs a r q s u e f = (same_reply (one_outcome e f), ap (λ o. o.after.lent) (one_outcome e f))

pub cells_execute_all_unique : (κs : _) (a : _) (r q : _) (s u : _) → execute-all-reads.Post κs a r s → execute-all-reads.Post κs a q u
    → (r ≡ q) × (lists a s ≡ lists a u) × (answers s ≡ answers u)
cells_execute_all_unique κs a r q s u e f =
    let o = one_outcome e f in
    (ap (λ p. p.after.registers) o, ap (λ p. p.after.lent) o, λ i. ((o i).numbers, (o i).values))

pub cells_write_block_unique : (κs : _) (a : _) (r q : _) (s u : _) → write-block-reads.Post κs a r s → write-block-reads.Post κs a q u
    → (r ≡ q) × (block_lists a s ≡ block_lists a u)
cells_write_block_unique κs a r q s u e f = (same_reply (one_outcome e f), ap (λ o. o.after.lent) (one_outcome e f))

pub cells_view_unique : (κs : _) (a : _) (r q : _) (s u : _) → view-reads.Post κs a r s → view-reads.Post κs a q u → r ≡ q
cells_view_unique κs a r q s u = one_outcome
