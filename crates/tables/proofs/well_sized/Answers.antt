use mathlib.Core.Path.{sym, ◌∙◌}
use native.Mathlib.Omega.{arith}
use lib.ListN.{length}
use Rattle.rules.proofs.Sizes.{bounds, entries_few}
use Rattle.tables.proofs.well_sized.Goals as goal

pub overflow_mul-entries : goal.overflow_mul-entries
overflow_mul-entries c =
    let a = c.args in
    let passed = sym c.in_bounds.ensures ∙ c.if-in_bounds.true in
    omega (arith, entries_few (bounds a.tables.m (length a.tables.first.now) (length a.memory.now) passed))
