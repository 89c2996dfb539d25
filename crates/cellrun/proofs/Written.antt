-- What `listing::cellrun` wrote to a buffer with room for every output is all that is written of the text. Assumes nothing.
use Rattle.std.proofs.Common.{ℕ, ◌≡◌, ◌∙◌, ◌+◌, ◌≤◌, List, length, take, arith}
use borrow.Author.Tests.{le-leb}
use Rattle.text.specs.Text.{Put, Ends}
use Rattle.text.proofs.Room.{put_long, put_front}
use Rattle.listing.specs.Output.{output_of}
use Rattle.listing.specs.Reading.{output_room, written_in}

pub all_written : {out after : List ℕ} (s : List ℕ) {r : ℕ} → 532480 ≡ length out → Put out 0 (written_in out s) r after → Ends 0 r after
    → take r after ≡ output_of s
unfolding written_in
all_written {out = out} s room put ends =
    let fits : 0 + length (written_in out s) ≤ length out = omega (arith, put.place, ends.0, put_long put) in
    let roomy : output_room ≤ length out = omega (arith, room) in
    put_front fits put ∙ rw (le-leb output_room (length out) roomy)
