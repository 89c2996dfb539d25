-- The loop's invariant: `ok` says whether every entry below `d` is sound.
use Rattle.std.proofs.Common.{◌≡◌, get_or}
use Rattle.rules.specs.Below.{every}
use Rattle.rules.specs.Sound.{sound_grant}
use Rattle.tables.proofs.sound_grants.Given as goal

abbrev pub invariant-loop-d : goal.invariant-loop-d
invariant-loop-d l = l.ok ≡ every (λ k. sound_grant l.m k (get_or l.row k 0)) l.d
