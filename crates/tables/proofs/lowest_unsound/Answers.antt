use Rattle.std.proofs.Common.{◌≡◌, ◌<◌, false, arith, sym, ◌∙◌}
use Rattle.rules.specs.Below.{lowest}
use Rattle.rules.specs.Lent.{lent}
use Rattle.rules.specs.Numbers.{N}
use Rattle.rules.proofs.Sizes.{sized}
use Rattle.tables.specs.Check.{excess, cell_below}
use Rattle.tables.proofs.Laws.{rows_as_cells, cell_within, before_excess, excess_unsound_first, unsound_first}
use Rattle.tables.proofs.lowest_unsound.Goals as goal
use Rattle.tables.proofs.lowest_unsound.Goals.{After-lowest_excess-excess, In-loop-c}

pub lowest_excess-excess-requires : goal.lowest_excess-excess-requires
lowest_excess-excess-requires c = (sized _ c.requires).within.some

found : (c : After-lowest_excess-excess)
    → c.lowest_excess-excess.result
    ≡ cell_below (N (lent c.args.tables c.args.memory.now))
    (lowest (excess c.args.tables.m c.args.tables.rights.now) (N (lent c.args.tables c.args.memory.now)))
found c = rows_as_cells (lent c.args.tables c.args.memory.now) _ c.requires c.lowest_excess-excess.ensures

-- the cell that is looked at is one, and no right on it is above 7
its_cell : (c : In-loop-c)
    → (c.loop-c.c < N (lent c.args.tables c.args.memory.now)) × (excess c.args.tables.m c.args.tables.rights.now c.loop-c.c ≡ false)
its_cell c =
    let h : c.loop-c.c < c.unwrap_or-end.result = omega arith in
    before_excess (lent c.args.tables c.args.memory.now) _ (found (goal.at.In-loop-c c).After-lowest_excess-excess) _ (rw c.unwrap_or-end.ensures at h)

pub sound_cell-requires : goal.sound_cell-requires
sound_cell-requires c =
    let k = its_cell (goal.at.sound_cell-requires c).In-loop-c in
    record { within = cell_within _ _ c.requires k.0; moderate = k.1 }

pub returns-then-not-sound_cell : goal.returns-then-not-sound_cell
returns-then-not-sound_cell c =
    let k = its_cell (goal.at.returns-then-not-sound_cell c).In-loop-c in
    unsound_first _ _ k.0 c.loop-c.invariant (sym c.sound_cell.ensures ∙ c.if-not-sound_cell.true)

pub returns : goal.returns
returns c =
    let e = found (goal.at.returns c).After-lowest_excess-excess in
    excess_unsound_first _ _ e
    (λ k h. let below : k < c.unwrap_or-end.result = rw c.unwrap_or-end.ensures h in c.loop-c.invariant k (omega arith))
