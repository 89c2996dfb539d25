-- The loop's invariant: the search for another holder has come to `k`.
use Rattle.rules.proofs.Below.{Searched}
use Rattle.monitor.proofs.Searching.{other_holds}
use Rattle.monitor.proofs.look.other_holder.Given as goal

abbrev pub invariant-loop-k : goal.invariant-loop-k
invariant-loop-k l = Searched (other_holds l.tables.m l.tables.rights.now l.c l.d) l.tables.m l.k
