-- The lists of instructions that `execute_all` and `cellrun` run are runs that demand 3 speaks of. Assumes nothing.
use Prim.Native.Nat.{ℕ, zero, suc}
use mathlib.Core.Path.{◌≡◌, refl, ap, subst}
use mathlib.Core.List.{List}
use mathlib.Core.Bool.{true}
use Rattle.rules.specs.Numbers.{State}
use Rattle.rules.specs.Calls.{performed}
use Rattle.monitor.specs.Runs.{instruction_at, after_first}
use Rattle.history.specs.History.{Right, Held}
use Rattle.history.specs.Shown.{holds_in, state_at, shown}
use Rattle.history.proofs.Demand3.{right_history}

-- the state after the first k instructions of a list is the state at time k of the run whose steps they are
pub list_run : (s : State) (l : List ℕ) (k : ℕ) → after_first s l k ≡ state_at (instruction_at l) s k
unfolding after_first
list_run s l zero = refl
list_run s l (suc k) = ap (λ (u : State). (performed u (instruction_at l k)).after) (list_run s l k)

-- so a right that is held after them has its history, back to the start
pub list_history : (s : State) (l : List ℕ) (k c d : ℕ) (r : Right) → holds_in (after_first s l k).lent c d r ≡ true
    → Held (shown (instruction_at l) s) c r k d
list_history s l k c d r h =
    right_history (instruction_at l) s k c d r (subst (λ (u : State). holds_in u.lent c d r ≡ true) (list_run s l k) h)
