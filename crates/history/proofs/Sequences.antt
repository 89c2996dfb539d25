-- From calls to runs: a sequence of calls, each answering as its contract says, is a run of the definition; so what is proved
-- of every run holds of what the functions do. Assumes nothing.
use Prim.Native.Nat.{ℕ, zero, suc}
use mathlib.Core.Path.{◌≡◌, refl, sym, ap, ◌∙◌, subst}
use mathlib.Core.List.{List, [], ◌∷◌, ◌++◌}
use mathlib.Core.Logic.{◌≢◌}
use mathlib.Core.Bool.{true}
use native.Mathlib.Omega.{arith}
use lib.ListN.{length, get_or}
use Rattle.rules.specs.Numbers.{State}
use Rattle.rules.specs.Refusals.{Outcome}
use Rattle.rules.specs.Calls.{Action, read_view, performed, outcomes, after_all}
use Rattle.history.specs.History.{Right, Held}
use Rattle.history.specs.Shown.{holds_in, state_at, shown, LastWritten}
use Rattle.history.proofs.Demand3.{right_history, byte_history}

-- from s the calls were made in turn, and each outcome is what its contract says: o ≡ performed s a
pub data Called : State → List Action → List Outcome → State → Type 0 where
  none_called : {s : State} → Called s [] [] s
  one_called : {s : State} {a : Action} {o : Outcome} {calls : List Action} {rest : List Outcome} {end : State}
      → o ≡ performed s a → Called o.after calls rest end → Called s (a ∷ calls) (o ∷ rest) end

-- the outcomes are the definition's
pub called_outcomes : {s : State} {calls : List Action} {os : List Outcome} {end : State} → Called s calls os end → os ≡ outcomes s calls
unfolding outcomes
called_outcomes none_called = refl
called_outcomes (one_called {s} {a} {o} {calls} {rest} e c) =
    ap (λ (p : Outcome). p ∷ rest) e
    ∙ ap (λ (l : List Outcome). performed s a ∷ l) (called_outcomes c ∙ ap (λ (p : Outcome). outcomes p.after calls) e)

-- and so is the state that they leave
pub called_end : {s : State} {calls : List Action} {os : List Outcome} {end : State} → Called s calls os end → end ≡ after_all s calls
unfolding after_all
called_end none_called = refl
called_end (one_called {calls = calls} e c) = called_end c ∙ ap (λ (p : Outcome). after_all p.after calls) e

-- a list of calls as steps; what would come after it is never done
abbrev pub steps : List Action → ℕ → Action
steps calls n = get_or calls n (read_view 0 0)

later : (calls : ℕ → Action) (s : State) (n : ℕ) → state_at calls s (suc n) ≡ state_at (λ j. calls (suc j)) (performed s (calls zero)).after n
later calls s zero = refl
later calls s (suc n) = ap (λ (u : State). (performed u (calls (suc n))).after) (later calls s n)

pub end_state : (calls : List Action) (s : State) → after_all s calls ≡ state_at (steps calls) s (length calls)
unfolding after_all
end_state [] s = refl
end_state (a ∷ calls) s = end_state calls (performed s a).after ∙ sym (later (steps (a ∷ calls)) s (length calls))

-- demand 3 of what the functions do: a right held after calls that each met its contract has its history
pub called_history : {s : State} {calls : List Action} {os : List Outcome} {end : State} → Called s calls os end → (c d : ℕ) (r : Right)
    → holds_in end.lent c d r ≡ true → Held (shown (steps calls) s) c r (length calls) d
called_history {s} {calls} {end = end} w c d r h =
    right_history (steps calls) s (length calls) c d r
    (subst (λ (u : State). holds_in u.lent c d r ≡ true) (called_end w ∙ end_state calls s) h)

-- and a byte that differs was last changed by an accepted store or block write from a division then holding write
pub called_bytes : {s : State} {calls : List Action} {os : List Outcome} {end : State} → Called s calls os end → (p : ℕ)
    → get_or end.lent.memory p 0 ≢ get_or s.lent.memory p 0 → LastWritten (steps calls) s 0 (length calls) p
called_bytes {s} {calls} {end = end} w p ne =
    byte_history (steps calls) s (length calls) 0 p (omega arith)
    (λ e. ne (ap (λ (u : State). get_or u.lent.memory p 0) (called_end w ∙ end_state calls s) ∙ e))

-- the definition's own run
pub called_run : (s : State) (calls : List Action) → Called s calls (outcomes s calls) (after_all s calls)
unfolding outcomes after_all
called_run s [] = none_called
called_run s (a ∷ calls) = one_called refl (called_run (performed s a).after calls)

-- one list of calls after another
pub after_more : (s : State) (calls more : List Action) → after_all s (calls ++ more) ≡ after_all (after_all s calls) more
unfolding after_all
after_more s [] more = refl
after_more s (a ∷ calls) more = after_more (performed s a).after calls more
