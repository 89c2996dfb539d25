use Rattle.rules.specs.Instructions.{whole_word}
use Rattle.monitor.proofs.Judging.{leb_moved}
use Rattle.monitor.proofs.look.whole_word.Goals as goal

pub returns : goal.returns
unfolding whole_word
returns c = rw (leb_moved _ _ _ c.requires)
