-- What is written is the part of the buffer that `cellrun` filled.
use Rattle.std.proofs.Common.{◌≡◌, take}
use Rattle.listing.specs.Output.{output_of}
use Rattle.cellrun.proofs.Written.{all_written}
use Rattle.cellrun.proofs.write_output.Goals as goal

pub returns : goal.returns
returns g c =
    let written : take c.cellrun-end.result c.cellrun-end.new.out ≡ output_of c.args.text.now =
    all_written c.args.text.now c.room-out.ensures c.cellrun-end.ensures.puts c.cellrun-end.ensures.ends in
    rw (← written) c.write_all.ensures.bytes
