-- The answers of the calls are joined as in the definition; that no right is above 7 is known.
use mathlib.Core.Bool.{and-true}
use native.Mathlib.Nat.{add-sub_cancel_left}
use Rattle.rules.specs.Lent.{lent}
use Rattle.rules.specs.Sound.{sound_cell}
use Rattle.tables.proofs.Laws.{row_grants, row_holders, at_most_seven}
use Rattle.tables.proofs.sound_cell.Goals as goal

pub returns : goal.returns
unfolding sound_cell
returns c =
    rw (
      c.sound_range.ensures,
      c.sound_offers.ensures,
      c.sound_holders.ensures,
      c.sound_order.ensures,
      add-sub_cancel_left,
      row_grants c.requires.within,
      row_holders c.requires.within,
      at_most_seven (lent c.args.tables c.args.memory.now) c.args.c c.requires.moderate,
      and-true,
    )
