-- What is written: a number in decimal without leading zeros; a line with one tab between its fields and LF at the end;
-- and where in a lent buffer it then stands. Assumes nothing.
use Rattle.std.specs.Prelude.{ℕ, zero, suc, ◌+◌, ◌*◌, ◌/◌, ◌%◌, ◌≤◌, min, max, ◌≡◌, List, [], ◌∷◌, ◌++◌, cond, length, get_or, take, leb, ltb}
use Rattle.std.proofs.lemmas.List.Edits.{sets}
use Rattle.std.specs.Borrow.{MutBor}
use denote.Triple.Both.{Both}
use Rattle.text.specs.Line.{tab, line_feed}

-- ---- the text

-- n in decimal without leading zeros, of at most f digits
abbrev pub decimal_in : (f n : ℕ) → List ℕ
decimal_in zero n = []
decimal_in (suc f) n = cond (ltb n 10) ((48 + n) ∷ []) (decimal_in f (n / 10) ++ ((48 + n % 10) ∷ []))

-- n in decimal; a number is at most 4,294,967,295, so ten digits are enough
unfoldable pub decimal : ℕ → List ℕ
decimal n = decimal_in 10 n

-- k numbers of v, from entry j on, a tab before each, and LF
abbrev pub fields_text : (k j : ℕ) (v : List ℕ) → List ℕ
fields_text zero j v = line_feed ∷ []
fields_text (suc k) j v = tab ∷ (decimal (get_or v j 0) ++ fields_text k (j + 1) v)

-- the line of the keyword w and the first k numbers of v; of more than five there is none
unfoldable pub row_text : (w v : List ℕ) (k : ℕ) → List ℕ
row_text w v k = cond (leb k 5) (w ++ fields_text k 0 v) []

-- ---- the buffer

-- the text t stands in the buffer from a place on, every other byte is as before, and r is the place after
pub record Put (before : List ℕ) (at : ℕ) (t : List ℕ) (r : ℕ) (after : List ℕ) : Type 0 where
  pub place : r ≡ at + length t
  pub bytes : after ≡ sets before at t

-- the same of a lent buffer, as it was and as it comes back
abbrev pub Puts : Both (MutBor (List ℕ)) (MutBor (List ℕ)) → (at : ℕ) (t : List ℕ) (r : ℕ) → Type 0
Puts out at t r = Put out.entry.now at t r out.exit.now

-- the text t, where the buffer has n bytes from a place on, and nothing where it has not
abbrev pub in_room : (before : List ℕ) (at n : ℕ) (t : List ℕ) → List ℕ
in_room before at n t = cond (leb (at + n) (length before)) t []

-- what is put of a word
unfoldable pub word_in : (before : List ℕ) (at : ℕ) (w : List ℕ) → List ℕ
word_in before at w = in_room before at (length w) w

-- what is put of a number: room is asked for ten digits
unfoldable pub number_in : (before : List ℕ) (at n : ℕ) → List ℕ
number_in before at n = in_room before at 10 (decimal n)

-- what is put of a line: room is asked for the keyword, a tab and ten digits to each number, and LF
unfoldable pub row_in : (before : List ℕ) (at : ℕ) (w v : List ℕ) (k : ℕ) → List ℕ
row_in before at w v k = in_room before at (length w + 11 * k + 1) (row_text w v k)

-- r lies in the buffer where the place before it did. Both parts follow from what is put; they are stated in the form
-- in which the proof that Rattle makes of `&out[..r]` finds them, from place 0 on and over any number of calls.
abbrev pub Ends : (at r : ℕ) (after : List ℕ) → Type 0
Ends at r after = (r ≤ max at (length after)) × (min r (length after) ≡ length (take r after))
