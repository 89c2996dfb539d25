use Rattle.listing.specs.Words.{cells_word}
use Rattle.listing.proofs.Written.{line1_put}
use Rattle.listing.proofs.put.put_head.Goals as goal

pub returns : goal.returns
returns c =
    let line = line1_put cells_word _ c.requires c.put_row.ensures.puts in
    record { puts = line.0; ends = line.1 }
