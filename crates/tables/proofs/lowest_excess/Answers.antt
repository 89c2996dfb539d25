use Rattle.std.proofs.Common.{rules, ℕ, List, ◌≡◌, ◌*◌, Bool, not, leb, ap}
use borrow.Author.Tests.{tests}
use Rattle.std.specs.List.{list_all}
use Rattle.tables.specs.Check.{excess}
use Rattle.tables.proofs.Laws.{first_below, first_row, row_all}
use Rattle.tables.proofs.lowest_excess.Goals as goal

abbrev too_high : List ℕ → Bool
too_high row = not (list_all (λ right. leb right 7) row)

pub returns-else-sound_rights : goal.returns-else-sound_rights
returns-else-sound_rights c =
    let m = c.args.m in
    let rights = c.args.rights.now in
    let ran = c.position.ensures.runs in
    let size : ran.0.from.size ≡ m = cc in
    let rest : ran.0.from.rest.now ≡ rights = cc in
    let chunks = rw (size, rest) at (c.chunks_exact.ensures.runs ran.0 ran.0.seen) in
    first_below (excess m rights) _ c.position.result
    (first_row ran.0 _ _ too_high m rights (chunks c.requires) (λ a b q w. search (rules, tests)) (excess m rights)
    (λ k h. ap not (row_all rights (k * m) m h (λ right. leb right 7))) c.position.result
    (rw c.chunks_exact.ensures.count at c.position.ensures.bound) ran.2)
