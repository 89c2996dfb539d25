-- What a read gives comes behind what was read before.
use Rattle.std.proofs.Common.{rules, length-take-le}
use Rattle.cellrun.proofs.Known.{read_on}
use Rattle.cellrun.proofs.read_listing.Goals as goal

pub loop-n-preserved : goal.loop-n-preserved
loop-n-preserved g c = record {
  within = search rules;
  read = read_on _ _ _ _ _ _ _ _ (length-take-le c.loop-n.n c.loop-n.text c.loop-n.invariant.within) c.in_ok-part.ensures.bound.0
      c.loop-n.invariant.read c.in_ok-part.ensures.bytes.0;
}
