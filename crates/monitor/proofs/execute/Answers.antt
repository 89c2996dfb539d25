-- A list of one: the return is one law of `Running`.
use Rattle.monitor.proofs.Running.{ran_one}
use Rattle.monitor.proofs.execute.Goals as goal

pub returns-clause-answer : goal.returns-clause-answer
returns-clause-answer c =
    ran_one _ c.args.number c.args.x c.args.y c.args.z _ _ _ _ c.execute_all-after.ensures.answers
