use Prim.Native.Nat.{◌*◌, ◌≤◌}
use mathlib.Core.Path.{◌≡◌}
use lib.ListN.{length, take}
use native.Mathlib.Omega.{arith}
use lib.Seq.{length-take-le}
use Rattle.listing.proofs.Rows.{product_small}
use Rattle.listing.proofs.Whole.{zeros_part, part_long}
use Rattle.listing.proofs.run.run_cells.Goals as goal
use Rattle.listing.proofs.run.run_cells.Goals.{After-cells_at-cells}

-- as many entries as there are cells and divisions
entries : (c : After-cells_at-cells) → c.cells_at-cells.result.count * c.args.size.m ≤ 8192
entries c = product_small _ _ c.cells_at-cells.ensures.few c.args.size.divisions.1

pub slice_bounds-rights-end : goal.slice_bounds-rights-end
slice_bounds-rights-end c =
    let k = (goal.at.slice_bounds-rights-end c).After-cells_at-cells in
    omega (arith, entries k)

pub slice_bounds-tables-end-5 : goal.slice_bounds-tables-end-5
slice_bounds-tables-end-5 c =
    let k = (goal.at.slice_bounds-tables-end-5 c).After-cells_at-cells in
    rw c.filled-rights.ensures (part_long _ 8192 (entries k))

pub slice_bounds-grants-end : goal.slice_bounds-grants-end
slice_bounds-grants-end c =
    let k = (goal.at.slice_bounds-grants-end c).After-cells_at-cells in
    omega (arith, entries k)

pub slice_bounds-tables-end-6 : goal.slice_bounds-tables-end-6
slice_bounds-tables-end-6 c =
    let k = (goal.at.slice_bounds-tables-end-6 c).After-cells_at-cells in
    rw c.filled-grants.ensures (part_long _ 8192 (entries k))

pub run_rights-requires-clause-blank : goal.run_rights-requires-clause-blank
run_rights-requires-clause-blank c =
    let k = (goal.at.run_rights-requires-clause-blank c).After-cells_at-cells in
    let n = c.cells_at-cells.result.count in
    let first = c.cells_at-cells.new.first in
    let long : length (take n first) ≡ n = length-take-le n first (omega (arith, c.cells_at-cells.ensures.few, c.cells_at-cells.auto.first)) in
    record {
      rights = rw (long, c.filled-rights.ensures) (zeros_part _ 8192 (entries k));
      grants = rw (long, c.filled-grants.ensures) (zeros_part _ 8192 (entries k));
      bytes = rw c.filled-memory.ensures (zeros_part _ 65536 c.args.size.bytes);
    }
