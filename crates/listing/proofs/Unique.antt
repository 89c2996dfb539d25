-- Two outcomes that the contract of `cellrun` allows are equal: the place where the output ends, and the whole buffer. The text is
-- lent with `&`: it cannot be written through and comes back as it was passed. Assumes nothing.
use mathlib.Core.Path.{◌≡◌, sym, ◌∙◌}
use Rattle.listing.proofs.run.cellrun.Reads as cellrun-reads

pub cellrun_unique : (κs : _) (a : _) (r q : _) (s u : _) → cellrun-reads.Post κs a r s → cellrun-reads.Post κs a q u
    → (r ≡ q) × (s.1.0.now ≡ u.1.0.now)
cellrun_unique κs a r q s u e f = (e.0.place ∙ sym f.0.place, e.0.bytes ∙ sym f.0.bytes)
