-- The definitions on small texts, so that a reader sees what they say. Assumes nothing.
use Prim.Native.Nat.{ℕ}
use mathlib.Core.Path.{◌≡◌, refl}
use mathlib.Core.List.{List, [], ◌∷◌}
use mathlib.Core.Bool.{true}
use Rattle.text.specs.Number.{number_at, Number, Bad}
use Rattle.text.specs.Line.{row_at, bad_row}
use Rattle.text.specs.FirstLines.{first_lines, line_count}
use Rattle.text.specs.Text.{decimal, row_text}

-- `0` is a number, and so is `4294967295` behind a tab
zero_read : number_at (48 ∷ []) 0 ≡ Number 0 1
unfolding number_at
zero_read = refl

largest_read : number_at (9 ∷ 52 ∷ 50 ∷ 57 ∷ 52 ∷ 57 ∷ 54 ∷ 55 ∷ 50 ∷ 57 ∷ 53 ∷ []) 1 ≡ Number 4294967295 11
unfolding number_at
largest_read = refl

-- `00`, `+1`, an empty field and `4294967296` are none
two_zeros_bad : number_at (48 ∷ 48 ∷ []) 0 ≡ Bad
unfolding number_at
two_zeros_bad = refl

plus_bad : number_at (43 ∷ 49 ∷ []) 0 ≡ Bad
unfolding number_at
plus_bad = refl

empty_bad : number_at (9 ∷ 10 ∷ []) 1 ≡ Bad
unfolding number_at
empty_bad = refl

too_large_bad : number_at (52 ∷ 50 ∷ 57 ∷ 52 ∷ 57 ∷ 54 ∷ 55 ∷ 50 ∷ 57 ∷ 54 ∷ []) 0 ≡ Bad
unfolding number_at
too_large_bad = refl

-- the line `do`, tab, `7`, tab, `42`, LF is read, and written so
abbrev line : List ℕ
line = 100 ∷ 111 ∷ 9 ∷ 55 ∷ 9 ∷ 52 ∷ 50 ∷ 10 ∷ []

line_read : row_at line 0 (100 ∷ 111 ∷ []) 2 ≡ record { ok = true; next = 8; v = 7 ∷ 42 ∷ 0 ∷ 0 ∷ 0 ∷ [] }
unfolding row_at number_at
line_read = refl

line_written : row_text (100 ∷ 111 ∷ []) (7 ∷ 42 ∷ 0 ∷ 0 ∷ 0 ∷ []) 2 ≡ line
unfolding row_text decimal
line_written = refl

-- with CR before LF, with a tab too many, and without LF it is wrong
with_cr_bad : row_at (100 ∷ 111 ∷ 9 ∷ 55 ∷ 13 ∷ 10 ∷ []) 0 (100 ∷ 111 ∷ []) 1 ≡ bad_row
unfolding row_at number_at
with_cr_bad = refl

trailing_tab_bad : row_at (100 ∷ 111 ∷ 9 ∷ 55 ∷ 9 ∷ 10 ∷ []) 0 (100 ∷ 111 ∷ []) 1 ≡ bad_row
unfolding row_at number_at
trailing_tab_bad = refl

two_tabs_bad : row_at (100 ∷ 111 ∷ 9 ∷ 9 ∷ 55 ∷ 10 ∷ []) 0 (100 ∷ 111 ∷ []) 1 ≡ bad_row
unfolding row_at number_at
two_tabs_bad = refl

unended_bad : row_at (100 ∷ 111 ∷ 9 ∷ 55 ∷ []) 0 (100 ∷ 111 ∷ []) 1 ≡ bad_row
unfolding row_at number_at
unended_bad = refl

-- `a`, LF, `b` has one line; its first two are all of it
one_line : line_count (97 ∷ 10 ∷ 98 ∷ []) ≡ 1
unfolding line_count
one_line = refl

first_line : first_lines 1 (97 ∷ 10 ∷ 98 ∷ []) ≡ 97 ∷ 10 ∷ []
unfolding first_lines
first_line = refl

all_lines : first_lines 2 (97 ∷ 10 ∷ 98 ∷ []) ≡ 97 ∷ 10 ∷ 98 ∷ []
unfolding first_lines
all_lines = refl
