use mathlib.Core.Path.{◌≡◌}
use native.Mathlib.Omega.{arith}
use Rattle.listing.specs.Words.{right_word}
use Rattle.listing.proofs.Written.{line3_put, right_short, cell_short, division_short, some_right}
use Rattle.listing.proofs.put.put_right.Goals as goal

pub returns : goal.returns
returns c = λ list is room.
    let a = c.args in
    let same : c.from.result ≡ a.right = c.from.ensures in
    let p = (line3_put right_word _ _ _ room c.put_row.ensures.puts).0 in (
      rw (some_right a.size.m list a.e a.right is (λ z. absurd (omega arith)), ← same) p,
      right_short _ _ _ (cell_short a.e a.size.m c.requires) (division_short a.e a.size.m a.size.divisions.0 a.size.divisions.1) (omega arith) p,
    )
