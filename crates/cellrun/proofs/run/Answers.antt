-- What is written of what was read is that of the first bytes of the reader.
use Rattle.std.proofs.Common.{◌∙◌, sym, take}
use Rattle.std.specs.Io.KnownBytes.{Appends}
use Rattle.listing.specs.Output.{output_of}
use Rattle.cellrun.proofs.Known.{of_first}
use Rattle.cellrun.proofs.run.Goals as goal

pub returns : goal.returns
returns g c =
    of_first c.write_output.result (g.R.Read.remaining c.args.input.now)
    (λ bytes. Appends (g.W.Write.contents c.args.output.now) (g.W.Write.contents c.write_output.new.output) (output_of bytes))
    (take c.in_ok-n.n c.read_listing.new.text) c.read_listing.new.text 65537
    (c.room-text.ensures ∙ sym c.read_listing.auto.text) c.in_ok-n.ensures.bytes c.write_output.ensures
