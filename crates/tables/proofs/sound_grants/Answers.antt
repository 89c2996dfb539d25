use Rattle.std.proofs.Common.{get_or, sym}
use Rattle.rules.specs.Sound.{sound_grant}
use Rattle.rules.proofs.Below.{every_none, every_more}
use Rattle.tables.proofs.sound_grants.Goals as goal

pub loop-d-init : goal.loop-d-init
loop-d-init c = sym (every_none _)

pub loop-d-preserved : goal.loop-d-preserved
loop-d-preserved c =
    rw (every_more (λ k. sound_grant c.args.m k (get_or c.args.row.now k 0)) c.loop-d.d, c.sound_grant-ok.ensures, c.loop-d.invariant)
