-- Words for the numbers below a bound: whether every one passes a test, how many do, and which is the lowest that does.
use Rattle.std.specs.Prelude.{ℕ, zero, suc, ◌+◌, Bool, true, cond, ◌&&◌}

-- whether every number below n passes
unfoldable pub every : (ℕ → Bool) → ℕ → Bool
every p zero = true
every p (suc n) = every p n && p n

-- how many numbers below n pass
unfoldable pub count : (ℕ → Bool) → ℕ → ℕ
count p zero = 0
count p (suc n) = count p n + cond (p n) 1 0

-- the lowest of the n numbers from k on that passes; k + n where none does
unfoldable pub lowest_from : (ℕ → Bool) → ℕ → ℕ → ℕ
lowest_from p k zero = k
lowest_from p k (suc n) = cond (p k) k (lowest_from p (suc k) n)

-- the lowest number below n that passes; n where none does
unfoldable pub lowest : (ℕ → Bool) → ℕ → ℕ
lowest p n = lowest_from p 0 n
