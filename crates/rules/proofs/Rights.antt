-- Laws of rights: part of, and joined. Assumes nothing.
use Prim.Native.Nat.{ℕ, ◌/◌, ◌%◌, ◌≤◌}
use mathlib.Core.Bool.{Bool, true, false, cond}
use native.Mathlib.Omega.{arith}
use lib.Dec.{leb}
use Rattle.rules.specs.Numbers.{larger, join}

pub larger_le : (a b k : ℕ) → a ≤ k → b ≤ k → larger a b ≤ k
unfolding larger
larger_le a b k h l = go (leb a b)
  where
    go : (t : Bool) → cond t b a ≤ k
    go true = l
    go false = h

-- what is joined is a set of rights
pub join_le : (a b : ℕ) → join a b ≤ 7
unfolding join
join_le a b =
    omega (
      arith,
      larger_le (a % 2) (b % 2) 1 (omega arith) (omega arith),
      larger_le (a / 2 % 2) (b / 2 % 2) 1 (omega arith) (omega arith),
      larger_le (a / 4 % 2) (b / 4 % 2) 1 (omega arith) (omega arith),
    )
