use native.Mathlib.Omega.{arith}
use lib.ListN.{length}
use Rattle.monitor.proofs.Searching.{Ended, ended_all, ended_few, found_here, found_nowhere}
use Rattle.monitor.proofs.find.find.Goals as goal
use Rattle.monitor.proofs.find.find.Goals.{After-ended-c, else-c-first-via-then-c-first+else-first-c, else-c-first-via-else-c-first}

-- all have been looked at
seen : (c : After-ended-c) → Ended c.args.last.now c.args.x (length c.args.first.now) c.ended-c.result
seen c = rw c.ended-c.ensures (ended_all _ _ c.requires c.args.x)

pub ended-c-requires : goal.ended-c-requires
ended-c-requires c = omega (arith, ended_few _ _ c.requires c.args.x, c.ranges.x.fits)

pub returns-then-first-c : goal.returns-then-first-c
returns-then-first-c c =
    let after = (goal.at.returns-then-first-c c).After-ended-c in
    found_here _ _ c.requires _ _ (seen after) c.if-c-first.true c.if-first-c.true

pub returns-else-c-first : goal.returns-else-c-first
returns-else-c-first c =
    let after = (goal.at.returns-else-c-first c).After-ended-c in
    found_nowhere _ _ c.requires _ _ (seen after)
    (λ h. elim c.else-c-first.branch [
      | else-c-first-via-then-c-first+else-first-c w ↦ w.if-first-c.false
      | else-c-first-via-else-c-first w ↦ absurd (omega (arith, w.if-c-first.false))
    ])
