use Rattle.std.proofs.Common.{ap, ◌∙◌, refl, List, ℕ, arith}
use Rattle.std.specs.List.{starts_with}
use Rattle.text.proofs.Lines.{word_starts, rest_at}
use lib.Dec.{eqb}
use Rattle.text.proofs.line.word_at.Goals as goal

pub returns-clause-value : goal.returns-clause-value
returns-clause-value c =
    let word = c.args.word.now in
    let rest = ap (λ x. x.now) c.unwrap_or.ensures ∙ rest_at c.args.s.now c.args.at c.get.result _ refl c.get.ensures.lookup in
    c.starts_with.ensures.value
    ∙ ap (λ (l : List ℕ). starts_with eqb l word) rest
    ∙ word_starts c.args.s.now c.args.at word (λ k. omega (arith, c.type_inv.word k))
