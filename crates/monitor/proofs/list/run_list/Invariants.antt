-- The loop's invariant: after `k` instructions the state is the definition's, the answers stand in the two lists, and the
-- tables are in the lists that were lent.
use Rattle.rules.specs.Lent.{lent_mut, SameLists}
use Rattle.rules.specs.Numbers.{state}
use Rattle.monitor.proofs.Running.{Turn}
use Rattle.monitor.proofs.list.run_list.Given as goal

abbrev pub invariant-loop-k : goal.invariant-loop-k
invariant-loop-k l =
    Turn (state (lent_mut l.initial.tables l.initial.memory) l.initial.core) l.instructions l.initial.numbers l.initial.values l.k
    (state (lent_mut l.tables l.memory) l.core) l.numbers l.values
    × SameLists l.initial.tables l.tables
