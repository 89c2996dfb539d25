use Prim.Native.Nat.{◌+◌}
use mathlib.Core.Path.{◌≡◌, ◌∙◌}
use mathlib.Core.List.{[], ◌∷◌}
use lib.ListN.{get_or}
use native.Mathlib.Omega.{arith}
use Rattle.std.proofs.Common.{rules}
use Rattle.std.proofs.lemmas.List.{get_or_default}
use Rattle.listing.proofs.Written.{line3_put, answer_short}
use Rattle.text.specs.Text.{Put, row_in}
use Rattle.listing.specs.Words.{answer_word}
use Rattle.listing.specs.Reading.{answer_of}
use Rattle.listing.proofs.put.put_answers.Goals as goal

pub returns : goal.returns
unfolding answer_of
returns c =
    let values = c.args.values.now in
    let all = c.put_lines.ensures (answer_of c.args.numbers.now values) 34 6 (λ before after at e r x more is room post.
    let p : Put before.now at (row_in before.now at answer_word ((e + 1) ∷ (x ∷ (get_or values e 0 ∷ []))) 3) r after.now = search rules in
    let told : x ≡ get_or c.args.numbers.now e 0 = is ∙ get_or_default c.args.numbers.now e x 0 more in
    let q = (line3_put answer_word _ _ _ (omega arith) p).0 in
    (rw (← told) q, answer_short _ _ _ (omega (arith, c.requires.0)) q)) (omega arith) in
    record { puts = all.0; ends = all.1 }
