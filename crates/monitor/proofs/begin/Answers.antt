use mathlib.Core.Path.{refl, sym, ◌∙◌}
use mathlib.Core.Bool.{true, false}
use Rattle.std.proofs.lemmas.Result.{err_from_is_err_and}
use Rattle.rules.specs.Refusals.{known_divisions}
use Rattle.rules.proofs.Refusing.{some_number}
use Rattle.monitor.proofs.Beginning.{tables_refuse, divisions_decide}
use Rattle.monitor.proofs.begin.Goals as goal

pub returns-in_err-check : goal.returns-in_err-check
returns-in_err-check c =
    let p = err_from_is_err_and c.from_residual.result c.from_residual.ensures.1 in
    rw (p.1, p.2) (tables_refuse _ _ c.in_err-check.ensures (some_number _))

pub returns-then-known : goal.returns-then-known
unfolding known_divisions
returns-then-known c = divisions_decide _ _ c.in_ok-check.ensures true refl (sym c.known.ensures ∙ c.if-known.true)

pub returns-else-known : goal.returns-else-known
unfolding known_divisions
returns-else-known c = divisions_decide _ _ c.in_ok-check.ensures false refl (sym c.known.ensures ∙ c.if-known.false)
