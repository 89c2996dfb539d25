-- What the monitor's inner functions answer, in the rules' words. No public contract cites this.
use Rattle.std.specs.Prelude.{ℕ, zero, suc, ◌≤◌, ◌<◌, ◌≡◌, List, ◌++◌, cond, length, get_or, set, ltb, eqb, Option, Some, None, Result, Ok, Err}
use Rattle.rules.specs.Numbers.{State}
use Rattle.rules.specs.Refusals.{Answer, Check, first_failing, first_checks, refused_with}
use Rattle.rules.specs.Calls.{block_checks}
use Rattle.rules.specs.Instructions.{covering_cell, cell_at, place, other_holder}
use Rattle.monitor.specs.Ready.{checks_answer}
use Rattle.rules.specs.declared.Refusal.{Refusal}

-- as many lasts as firsts, and each cell above the cell before it: what soundness says of the addresses
pub record CellsRise (first last : List ℕ) : Type 0 where
  pub lasts : length last ≡ length first
  pub rising : (c : ℕ) → c < length first → get_or first c 0 ≤ get_or last c 0
  pub apart : (c : ℕ) → suc c < length first → get_or last c 0 < get_or first (suc c) 0

-- the covering cell, or none
unfoldable pub found_in : (first last : List ℕ) (x : ℕ) → Option ℕ
found_in first last x =
    cond (ltb (covering_cell first last x) (length first)) (Some (covering_cell first last x)) None

-- the lowest other holder, or none
unfoldable pub other_in : (m : ℕ) (rights : List ℕ) (c d : ℕ) → Option ℕ
other_in m rights c d = cond (ltb (other_holder m rights c d) m) (Some (other_holder m rights c d)) None

-- where a block begins in memory, or the refusal of the first check to fail
pub data Located : Type 0 where
  LocatedAt : (place : ℕ) → Located
  Refused : Answer → Located

abbrev pub located : Result ℕ Refusal → Located
located (Ok p) = LocatedAt p
located (Err r) = Refused (refused_with r)

-- the place of a block at x where all the checks hold, or else their refusal
unfoldable pub located_by : List Check → State → (x : ℕ) → Located
located_by ks s x =
    cond (eqb (first_failing ks) 0) (LocatedAt (place s.lent (cell_at s.lent x) x)) (Refused (checks_answer ks s))

-- by the checks on a block of n bytes from 6 on
abbrev pub located_in : (right : ℕ) → State → (x n : ℕ) → Located
located_in right s x n = located_by (block_checks right s x n) s x

-- all checks on a block write or a read view
abbrev pub call_checks : (right : ℕ) → State → (x n : ℕ) → List Check
call_checks right s x n = first_checks s ++ block_checks right s x n

-- by all of them
abbrev pub placed_in : (right : ℕ) → State → (x n : ℕ) → Located
placed_in right s x n = located_by (call_checks right s x n) s x

-- a list whose first k entries are v
unfoldable pub filled : (v k : ℕ) → List ℕ → List ℕ
filled v zero out = out
filled v (suc k) out = set (filled v k out) k v
