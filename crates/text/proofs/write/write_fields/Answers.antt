use mathlib.Core.Path.{◌∙◌}
use Rattle.text.proofs.Writing.{listed_more}
use Rattle.text.proofs.write.write_fields.Goals as goal

pub loop-n-preserved : goal.loop-n-preserved
loop-n-preserved c =
    listed_more c.loop-n.invariant c.loop-n-test.true c.write_byte-end.ensures
    c.write_number-end.ensures (c.write_number-end.auto.out ∙ c.write_byte-end.auto.out)
