use Rattle.std.proofs.Common.{rules, leb}
use borrow.Author.Tests.{tests}
use Rattle.std.proofs.lemmas.Iterator.{YieldsList-from_slice}
use Rattle.tables.proofs.Laws.{all_from_fold}
use Rattle.tables.proofs.sound_rights.Goals as goal

pub returns : goal.returns
returns c =
    all_from_fold _ (λ right. leb right 7) c.fold.result c.fold.ensures.ran (YieldsList-from_slice c.args.rights.now cc)
    (λ ok x b q k. search (rules, tests))
