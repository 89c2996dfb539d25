use Rattle.listing.specs.Words.{core_word}
use Rattle.listing.specs.Output.{core_line}
use Rattle.listing.proofs.Written.{line3_put}
use Rattle.listing.proofs.put.put_core.Goals as goal

pub returns : goal.returns
unfolding core_line
returns c =
    let line = line3_put core_word _ _ _ c.requires c.put_row.ensures.puts in
    record { puts = line.0; ends = line.1 }
