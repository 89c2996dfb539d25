use mathlib.Core.Path.{◌≡◌}
use native.Mathlib.Omega.{arith}
use Rattle.listing.specs.Words.{grant_word}
use Rattle.listing.proofs.Written.{line4_put, grant_short, cell_short, division_short, some_grant}
use Rattle.listing.proofs.put.put_grant.Goals as goal

pub returns : goal.returns
returns c = λ list is room.
    let a = c.args in
    let same : c.from-grant.result ≡ a.grant = c.from-grant.ensures in
    let p = line4_put grant_word _ _ _ _ room c.put_row.ensures.puts in (
      rw (some_grant a.size.m list a.e a.grant is (λ z. absurd (omega arith)), ← same) p,
      grant_short _ _ _ _ (cell_short a.e a.size.m c.requires) (division_short a.e a.size.m a.size.divisions.0 a.size.divisions.1) (omega arith) (omega arith) p,
    )
