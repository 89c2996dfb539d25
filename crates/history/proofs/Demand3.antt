-- Demand 3, in its own words and order, over the definition that demand 2 proves the code to meet: any start, any sequence
-- of calls (instructions as four numbers, block writes, views). `calls n` is step n + 1, and `state_at calls start t` the
-- state at time t. Nothing is assumed of the start: tables that are not sound refuse every call.
use Prim.Native.Nat.{ℕ, zero, suc, ◌≤◌}
use mathlib.Core.Path.{◌≡◌, refl, sym, ◌∙◌}
use mathlib.Core.Logic.{◌≢◌}
use mathlib.Core.Bool.{true, false≢true}
use Rattle.rules.specs.Numbers.{State}
use Rattle.rules.specs.Calls.{Action}
use Rattle.history.specs.History.{Right, Held, held_lines}
use Rattle.history.specs.Shown.{holds_in, state_at, takes_at, source_at, shown, byte_at, LastWritten}
use Rattle.history.proofs.Theorem.{Laws, history}
use Rattle.history.proofs.Path.{held_path, held_exact}
use Rattle.history.proofs.Local.{call_gain, call_named, call_made, call_kept}
use Rattle.history.proofs.Bytes.{last_written}

module _ (calls : ℕ → Action) (start : State) where
  named : (i c d m : ℕ) → takes_at calls start i c d m ≡ true → m ≡ source_at calls start i
  named zero c d m e = absurd (false≢true e)
  named (suc n) c d m e = call_named (state_at calls start n) (calls n) c d m e

  -- the local laws of one call are the laws of every run
  pub shown_laws : Laws (shown calls start)
  shown_laws =
      record {
        begins_zero = λ c. refl;
        gain = λ n c d r b. call_gain (state_at calls start n) (calls n) c d r;
        named = named;
        made = λ n c m d r b. call_made (state_at calls start n) (calls n) c m d r;
        kept = λ n c m d r b. call_kept (state_at calls start n) (calls n) c m d r;
      }

  -- a division that holds a right has held it without a break since the start, or last gained it by an accepted receive of a
  -- grant made out to it, whose maker held the right when making it, and so back to the start
  pub right_history : (t c d : ℕ) (r : Right) → holds_in (state_at calls start t).lent c d r ≡ true → Held (shown calls start) c r t d
  right_history = history (shown calls start) shown_laws

  -- there is one such path, and it is computed
  pub one_path : (t c d : ℕ) (r : Right) (w : Held (shown calls start) c r t d)
      → held_lines (shown calls start) c r w ≡ held_path (shown calls start) c r t d
  one_path t c d r w = held_exact (shown calls start) c r shown_laws w

  pub same_path : (t c d : ℕ) (r : Right) (v w : Held (shown calls start) c r t d)
      → held_lines (shown calls start) c r v ≡ held_lines (shown calls start) c r w
  same_path t c d r v w = one_path t c d r v ∙ sym (one_path t c d r w)

  -- no byte changes but by an accepted store or block write from a division then holding write on the valid cell covering it
  pub byte_history : (t u p : ℕ) → u ≤ t → byte_at calls start t p ≢ byte_at calls start u p → LastWritten calls start u t p
  byte_history = last_written calls start
