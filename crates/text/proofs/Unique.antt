-- Two outcomes that one contract allows are equal: for each public function, over its contract as the source states it
-- (`Post` is what its `ensures` says of the arguments, the result and the parameters at exit). A list that is lent with `&`, as
-- the readers' text and the writers' word, cannot be written through and comes back as it was passed, so the result and the
-- buffer are all there is. Assumes nothing.
use Prim.Native.Nat.{ℕ}
use mathlib.Core.Path.{◌≡◌, sym, ◌∙◌}
use mathlib.Core.List.{List}
use Rattle.text.specs.Text.{Put}
use Rattle.text.proofs.number.peek.Reads as peek-reads
use Rattle.text.proofs.number.number_at.Reads as number-at-reads
use Rattle.text.proofs.line.row_at.Reads as row-at-reads
use Rattle.text.proofs.line.Row.within.Reads as row-within-reads
use Rattle.text.proofs.line.within.Reads as within-reads
use Rattle.text.proofs.put.put_word.Reads as put-word-reads
use Rattle.text.proofs.put.put_number.Reads as put-number-reads
use Rattle.text.proofs.put.put_row.Reads as put-row-reads

-- ---- the readers: the answer is the definition

pub peek_unique : (κs : _) (a : _) (r q : _) (s u : _) → peek-reads.Post κs a r s → peek-reads.Post κs a q u → r ≡ q
peek_unique κs a r q s u e f = e ∙ sym f

pub number_at_unique : (κs : _) (a : _) (r q : _) (s u : _) →
    number-at-reads.Post κs a r s → number-at-reads.Post κs a q u → r ≡ q
number_at_unique κs a r q s u e f = e ∙ sym f

pub row_at_unique : (κs : _) (a : _) (r q : _) (s u : _) → row-at-reads.Post κs a r s → row-at-reads.Post κs a q u → r ≡ q
row_at_unique κs a r q s u e f = e ∙ sym f

pub within_unique : (a : _) (r q : _) (s : _) → within-reads.Post tt a r s → within-reads.Post tt a q s → r ≡ q
within_unique a r q s e f = e ∙ sym f

pub row_within_unique : (a : _) (r q : _) (s : _) → row-within-reads.Post tt a r s → row-within-reads.Post tt a q s → r ≡ q
row_within_unique a r q s e f = e ∙ sym f

-- ---- the writers: the answer, and the buffer at exit

put_unique : {l : List ℕ} {at : ℕ} {t : List ℕ} {r q : ℕ} {m n : List ℕ} → Put l at t r m → Put l at t q n →
    (r ≡ q) × (m ≡ n)
put_unique e f = (e.place ∙ sym f.place, e.bytes ∙ sym f.bytes)

pub put_word_unique : (κs : _) (a : _) (r q : _) (s u : _) →
    put-word-reads.Post κs a r s → put-word-reads.Post κs a q u → (r ≡ q) × (s.0.now ≡ u.0.now)
put_word_unique κs a r q s u e f = put_unique e.0 f.0

pub put_number_unique : (κs : _) (a : _) (r q : _) (s u : _) →
    put-number-reads.Post κs a r s → put-number-reads.Post κs a q u → (r ≡ q) × (s.0.now ≡ u.0.now)
put_number_unique κs a r q s u e f = put_unique e.0 f.0

pub put_row_unique : (κs : _) (a : _) (r q : _) (s u : _) →
    put-row-reads.Post κs a r s → put-row-reads.Post κs a q u → (r ≡ q) × (s.0.now ≡ u.0.now)
put_row_unique κs a r q s u e f = put_unique e.0 f.0
