use mathlib.Core.Path.{refl}
use Rattle.std.proofs.lemmas.Result.{err_from_is_err_and}
use Rattle.rules.proofs.Refusing.{some_number}
use Rattle.monitor.proofs.Beginning.{first_begun}
use Rattle.monitor.proofs.Locating.{placed_after, placed_refused}
use Rattle.monitor.proofs.place_block.Goals as goal

pub returns-in_err-begin : goal.returns-in_err-begin
returns-in_err-begin c =
    let p = err_from_is_err_and c.from_residual.result c.from_residual.ensures.1 in
    rw (p.1, p.2) (placed_refused c.args.needed _ c.args.x c.args.n _ c.in_err-begin.ensures (some_number _))

pub locate-requires : goal.locate-requires
locate-requires c = first_begun _ _ c.in_ok-begin.ensures refl

pub returns : goal.returns
returns c = placed_after c.args.needed _ c.args.x c.args.n _ c.in_ok-begin.ensures _ refl c.locate.ensures
