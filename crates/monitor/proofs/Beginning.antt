-- Checks 1, 2 and 3: what they answer, and what the answer says to a call. Assumes nothing.
use Prim.Native.Nat.{ℕ}
use mathlib.Core.Path.{◌≡◌, sym, ap, ◌∙◌}
use mathlib.Core.List.{[]}
use mathlib.Core.Bool.{Bool, true, false, cond}
use native.Mathlib.Omega.{arith}
use Rattle.rules.specs.Numbers.{State}
use Rattle.rules.specs.Refusals.{Answer, no_such_division, ◌unless◌, first_failing, refused_value, Outcome, table_checks, first_checks, known_divisions}
use Rattle.rules.specs.Calls.{Action, performed}
use Rattle.rules.proofs.Checks.{AllHold, accept_all}
use Rattle.rules.proofs.Kept.{Begun, begun}
use Rattle.rules.proofs.Performing.{performed_first}
use Rattle.tables.specs.Check.{tables_checked}
use Rattle.monitor.specs.Ready.{first_answer}
use Rattle.monitor.proofs.Judging.{refused_before, last_decides}

-- ---- what they answer

first_is : (s : State) (n : ℕ) → n ≡ first_failing (first_checks s)
    → record { number = n; value = refused_value s.lent n } ≡ first_answer s
unfolding first_answer
first_is s n e = rw e

-- r is what the table check answered
module _ (s : State) (r : Answer) (e : r ≡ tables_checked s.lent) where
  tables_number : r.number ≡ first_failing (table_checks s.lent)
  unfolding tables_checked
  tables_number = ap (λ (a : Answer). a.number) e

  pub tables_refuse : (r.number ≡ 0 → ⊥) → r ≡ first_answer s
  unfolding tables_checked first_answer
  tables_refuse h =
      let f : r.number ≡ first_failing (first_checks s) = refused_before (table_checks s.lent) _ tables_number h in
      e ∙ rw (← tables_number, ← f)

  pub divisions_decide : (b : Bool) → r.number ≡ 0 → known_divisions s ≡ b
      → record { number = cond b 0 no_such_division; value = 0 } ≡ first_answer s
  divisions_decide b z k =
      go b (last_decides (table_checks s.lent) (no_such_division unless known_divisions s) tables_number (omega arith, (omega arith, tt)) z k)
    where
      go : (b : Bool) → cond b 0 no_such_division ≡ first_failing (first_checks s)
          → record { number = cond b 0 no_such_division; value = 0 } ≡ first_answer s
      go true q = first_is s 0 q
      go false q = first_is s no_such_division q

-- ---- what the answer says

-- a refusal: its number and value, and all as it was
abbrev pub refused_by : State → Answer → Outcome
refused_by s r = record { number = r.number; value = r.value; part = []; after = s }

-- r is what checks 1, 2 and 3 answered
module _ (s : State) (r : Answer) (e : r ≡ first_answer s) where
  first_number : r.number ≡ first_failing (first_checks s)
  unfolding first_answer
  first_number = ap (λ (a : Answer). a.number) e

  pub first_hold : r.number ≡ 0 → AllHold (first_checks s)
  first_hold z =
      accept_all (first_checks s) (omega arith, (omega arith, (omega arith, tt))) (sym first_number ∙ z)

  pub first_refuse : (a : Action) → (r.number ≡ 0 → ⊥) → refused_by s r ≡ performed s a
  unfolding first_answer
  first_refuse a h =
      rw (performed_first s a r.number first_number h) (ap (refused_by s) (rw (← first_number) at e))

  pub first_begun : r.number ≡ 0 → Begun s
  first_begun z = begun s [] (first_hold z)
