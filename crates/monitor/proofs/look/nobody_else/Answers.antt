use mathlib.Core.Path.{sym, ap, ◌∙◌}
use Rattle.std.specs.Prelude.{is_some}
use Rattle.monitor.proofs.Searching.{nobody_else_is}
use Rattle.monitor.proofs.look.nobody_else.Goals as goal

pub returns : goal.returns
returns c = nobody_else_is _ _ _ _ _ (sym (ap is_some c.other_holder.ensures) ∙ c.is_none.ensures)
