-- Any number of lines of one kind: as many turns as go, at most k. Assumes nothing.
use Rattle.std.specs.Prelude.{ℕ, zero, suc, Bool, cond}

-- the state after them: st goes on to next st while goes st
unfoldable pub star : {S : Type 0} (goes : S → Bool) (next : S → S) (k : ℕ) (st : S) → S
star goes next zero st = st
star goes next (suc k) st = cond (goes st) (star goes next k (next st)) st
