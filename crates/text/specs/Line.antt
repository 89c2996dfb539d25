-- A line ends in LF, and its fields, a keyword and then at most five numbers, are parted by one tab. So CR, two tabs, a
-- tab at the end and an empty line are wrong. The keyword is a list of bytes that the caller gives. Assumes nothing.
use Rattle.std.specs.Prelude.{ℕ, zero, suc, ◌+◌, List, [], ◌∷◌, Bool, true, false, cond, ◌&&◌, Option, Some, None, length, set, get_or, eqb, leb, ltb}
use Rattle.text.specs.Number.{Field, Number, Bad, peek_at, number_at}
use Rattle.text.specs.declared.line.Row.{Row as Found}

-- the byte between two fields
abbrev pub tab : ℕ
tab = 9

-- LF, the byte that ends a line
abbrev pub line_feed : ℕ
line_feed = 10

-- no number yet
abbrev pub zeros5 : List ℕ
zeros5 = 0 ∷ 0 ∷ 0 ∷ 0 ∷ 0 ∷ []

-- whether a line is right, the place after it, and its numbers, 0 past the last
pub record Row : Type 0 where
  pub ok : Bool
  pub next : ℕ
  pub v : List ℕ

-- the same as an answer: a right line, or none
abbrev pub option_of_row : Row → Option Found
option_of_row r = cond r.ok (Some (record { next = r.next; v = r.v })) None

-- the row of a right line
abbrev pub row_of : Found → Row
row_of r = record { ok = true; next = r.next; v = r.v }

-- the row of no right line
abbrev pub bad_row : Row
bad_row = record { ok = false; next = 0; v = zeros5 }

-- the row that an answer tells
abbrev pub row_told : Option Found → Row
row_told (Some r) = row_of r
row_told None = bad_row

-- whether the word w stands at a place
abbrev pub word_at : (s : List ℕ) (at : ℕ) (w : List ℕ) → Bool
word_at s at [] = true
word_at s at (x ∷ w) = eqb (peek_at s at) x && word_at s (at + 1) w

-- f of the number and the place after it; b where there is no number
abbrev pub case_field : {A : Type 0} → Field → (f : ℕ → ℕ → A) (b : A) → A
case_field (Number x n) f b = f x n
case_field Bad f b = b

-- k numbers more, a tab before each, and LF; the first of them is entry j of v
abbrev pub fields_at : (s : List ℕ) (k j : ℕ) (v : List ℕ) (at : ℕ) → Row
fields_at s zero j v at =
    cond (eqb (peek_at s at) line_feed) (record { ok = true; next = at + 1; v = v }) bad_row
fields_at s (suc k) j v at =
    cond (eqb (peek_at s at) tab)
    (case_field (number_at s (at + 1)) (λ x n. fields_at s k (j + 1) (set v j x) n) bad_row)
    bad_row

-- the line of the keyword w and k numbers at a place: the place after it, and its numbers, 0 past the last;
-- the bad row where no such line stands, and where k is above 5
unfoldable pub row_at : (s : List ℕ) (at : ℕ) (w : List ℕ) (k : ℕ) → Row
row_at s at w k = cond (leb k 5 && word_at s at w) (fields_at s k 0 zeros5 (at + length w)) bad_row

-- the row, where its number j is from least on and below limit; else, and where j is above 4, the bad row
unfoldable pub row_within : (r : Row) (j least limit : ℕ) → Row
row_within r j least limit =
    cond (ltb j 5 && leb least (get_or r.v j 0) && ltb (get_or r.v j 0) limit) r bad_row
