-- What the contract of each public call, as the source states it, says of one call: that its outcome is the definition's
-- (`Post` is what `ensures` says of the arguments, the result and the parameters at exit; what has a ' is at exit).
-- Assumes nothing.
use Prim.Native.Nat.{ℕ}
use mathlib.Core.Path.{◌≡◌, refl, sym, ap}
use lib.ListN.{take, drop}
use lib.Dec.{eqb}
use borrow.Author.Tests.{eqb-true}
use Rattle.std.specs.Prelude.{Result}
use Rattle.std.specs.Borrow.{MutBor}
use Rattle.rules.specs.Numbers.{State, state}
use Rattle.rules.specs.Lent.{Slice, MutSlice, lent, lent_mut}
use Rattle.rules.specs.Refusals.{answer_of}
use Rattle.rules.specs.Calls.{instruction, block_write, read_view, done, performed}
use Rattle.rules.specs.declared.Registers.{Registers}
use Rattle.rules.specs.declared.Refusal.{Refusal}
use Rattle.rules.specs.declared.Tables.{Tables as LentTables}
use Rattle.rules.specs.declared.TablesMut.{TablesMut as LentTablesMut}
use Rattle.rules.proofs.Below.{by_test}
use Rattle.rules.proofs.Laws.{by_outcome, accepted_done}
use Rattle.monitor.specs.Answers.{came, answer_in, view_place_in}
use Rattle.monitor.specs.declared.reply.Reply.{Reply}
use Rattle.monitor.specs.declared.reply.ViewPlace.{ViewPlace}
use Rattle.monitor.proofs.Locating.{viewed_part}
use Rattle.monitor.proofs.execute.Reads as execute-reads
use Rattle.monitor.proofs.write_block.Reads as write-block-reads
use Rattle.monitor.proofs.view.Reads as view-reads
use Rattle.monitor.proofs.view_answer.Reads as view-answer-reads
use Rattle.monitor.proofs.view_place.Reads as view-place-reads

-- a read view leaves all as it was
pub view_kept : (s : State) (x n : ℕ) → (performed s (read_view x n)).after ≡ s
unfolding done
view_kept s x n = by_outcome (λ o. o.after ≡ s) s (read_view x n) (λ k h. refl) (λ h. refl)

place_answer : (s : State) (x n : ℕ)
    → record { number = (view_place_in s x n).number; value = (view_place_in s x n).value } ≡ answer_in (performed s (read_view x n))
unfolding view_place_in done
place_answer s x n =
    by_test (eqb (performed s (read_view x n)).number 0)
    (λ e. rw e (sym (ap answer_in (accepted_done s (read_view x n) (eqb-true _ _ e))))) (λ e. rw e refl)

-- the arguments of a call as one tuple, as the toolchain hands them to a proof: the tables, the memory, the registers, and what
-- is the call's own
abbrev pub Given : (Tables Memory Own : Type 0) → Type 0
Given Tables Memory Own = Tables × (Memory × (Registers × Own))

abbrev pub given : {Tables Memory Own : Type 0} → Tables → Memory → Registers → Own → Given Tables Memory Own
given tables memory registers own = (tables, (memory, (registers, own)))

abbrev pub own : {Tables Memory Own : Type 0} → Given Tables Memory Own → Own
own a = a.1.1.1

-- ---- a call that meets its contract is a step: o ≡ performed s a, which `one_called` of `history/proofs/Sequences.antt` takes

pub execute_performed : (κs : _) (tables : MutBor LentTablesMut) (memory : MutSlice) (registers : Registers) (number x y z : ℕ)
    (tables' : MutBor LentTablesMut) (memory' : MutSlice) (r : Reply)
    → execute-reads.Post κs (given tables memory registers (number, (x, (y, (z, tt))))) r
    (given tables' memory' registers (number, (x, (y, (z, tt)))))
    → came r (lent_mut tables'.now memory'.now)
    ≡ performed (state (lent_mut tables.now memory.now) registers) (instruction number x y z)
execute_performed κs tables memory registers number x y z tables' memory' r e = e.0

-- a block write may change the memory alone, and a read view nothing
module _ (tables : LentTables) where
  pub write_block_performed : (κs : _) (memory : MutSlice) (registers : Registers) (x : ℕ) (bytes : Slice) (memory' : MutSlice) (r : Reply)
      → write-block-reads.Post κs (given tables memory registers (x, (bytes, tt))) r (given tables memory' registers (x, (bytes, tt)))
      → came r (lent tables memory'.now) ≡ performed (state (lent tables memory.now) registers) (block_write x bytes.now)
  write_block_performed κs memory registers x bytes memory' r e = e

  module _ (memory : Slice) (registers : Registers) where
    abbrev pub start : State
    start = state (lent tables memory.now) registers

    -- a read view is two functions, one for the part and one for the number and the value, and neither changes anything
    pub view_performed : (κs λs : _) (x n : ℕ) (part : Slice) (a : Result Unit Refusal)
        → view-reads.Post κs (given tables memory registers (x, (n, tt))) part (given tables memory registers (x, (n, tt)))
        → view-answer-reads.Post λs (given tables memory registers (x, (n, tt))) a (given tables memory registers (x, (n, tt)))
        → record { number = (answer_of a).number; value = (answer_of a).value; part = part.now; after = start } ≡ performed start (read_view x n)
    view_performed κs λs x n part a e f =
        λ i. record { number = (f i).number; value = (f i).value; part = (e i).list; after = sym (view_kept start x n) i }

    -- or one, which tells the place of the part in the memory
    pub view_place_performed : (κs : _) (x n : ℕ) (v : ViewPlace)
        → view-place-reads.Post κs (given tables memory registers (x, (n, tt))) v (given tables memory registers (x, (n, tt)))
        → record { number = v.number; value = v.value; part = take v.count (drop v.start memory.now); after = start }
        ≡ performed start (read_view x n)
    view_place_performed κs x n v e =
        let a = place_answer start x n in
        rw e (λ i. record { number = (a i).number; value = (a i).value; part = viewed_part start x n i; after = sym (view_kept start x n) i })
