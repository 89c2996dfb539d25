use mathlib.Core.Path.{refl}
use native.Mathlib.Omega.{arith}
use Rattle.std.proofs.lemmas.Result.{err_from_is_err_and}
use Rattle.rules.specs.Lent.{lent}
use Rattle.rules.specs.Instructions.{place}
use Rattle.monitor.proofs.Readiness.{CellIn, cell_in, cells_rise, entry_in_rights}
use Rattle.monitor.proofs.Searching.{FoundAt, found_at, nowhere_uncovered, lost}
use Rattle.monitor.proofs.Locating.{judged, located_nowhere, located_at, located_refused}
use Rattle.monitor.proofs.block.locate.Goals as goal
use Rattle.monitor.proofs.block.locate.Goals.{In_ok-c}

found : (c : In_ok-c) → FoundAt (lent c.args.tables c.args.memory.now) c.args.x c.in_ok-c.c
found c = found_at _ _ _ c.find.ensures _ c.in_ok-c.ensures.ok_part

inside : (c : In_ok-c) → CellIn (lent c.args.tables c.args.memory.now) c.in_ok-c.c
inside c = cell_in _ c.requires.sizes _ (found c).cell.cell

pub find-requires : goal.find-requires
find-requires c = cells_rise _ c.requires.sizes c.requires.sound

pub returns-in_err-c : goal.returns-in_err-c
returns-in_err-c c =
    let p = err_from_is_err_and c.from_residual.result c.from_residual.ensures.1 in
    rw (p.1, p.2, lost _ _ _ c.in_err-c.ensures.value)
    (located_nowhere _ _ _ _ (nowhere_uncovered _ _ _ c.find.ensures c.in_err-c.ensures.ok_part))

pub held_at-held-requires : goal.held_at-held-requires
held_at-held-requires c =
    let f = found (goal.at.held_at-held-requires c).In_ok-c in
    entry_in_rights _ c.requires.sizes _ f.cell.cell _ c.requires.current

pub offset_bounds-tables-c : goal.offset_bounds-tables-c
offset_bounds-tables-c c =
    let f = found (goal.at.offset_bounds-tables-c c).In_ok-c in
    omega (arith, f.cell.cell, c.requires.sizes.within.cells)

pub bounds-tables-c : goal.bounds-tables-c
bounds-tables-c c = (inside (goal.at.bounds-tables-c c).In_ok-c).lasts

pub bounds-tables-c-2 : goal.bounds-tables-c-2
bounds-tables-c-2 c = (inside (goal.at.bounds-tables-c-2 c).In_ok-c).marked

pub place_of-requires : goal.place_of-requires
place_of-requires c =
    let at = (goal.at.place_of-requires c).In_ok-c in
    ((inside at).firsts, ((inside at).offsets, (found at).cell.from))

pub returns-in_err-judge_whole : goal.returns-in_err-judge_whole
returns-in_err-judge_whole c =
    let f = found (goal.at.returns-in_err-judge_whole c).In_ok-c in
    let p = err_from_is_err_and c.from_residual-in_err-judge_whole.result c.from_residual-in_err-judge_whole.ensures.1 in
    rw (p.1, p.2)
    (located_refused (judged _ _ _ _ _ _ _ _ f c.within_cell-within.ensures c.held_at-held.ensures c.in_err-judge_whole.ensures) _ refl)

pub returns : goal.returns
unfolding place
returns c =
    let f = found (goal.at.returns c).In_ok-c in
    located_at (judged _ _ _ _ _ _ _ _ f c.within_cell-within.ensures c.held_at-held.ensures c.in_ok-judge_whole.ensures) _ refl c.place_of.ensures
