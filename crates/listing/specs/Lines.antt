-- The lines of a listing, kind by kind in their order: the keyword, how many numbers, and the limits of each number that
-- has some. A line that breaks a limit is no line of its kind. Assumes nothing.
use Rattle.std.specs.Prelude.{ℕ, ◌+◌, ◌*◌, List, Bool, get_or, cond, Option, Some, None}
use Rattle.text.specs.Line.{Row, row_at, row_within}
use Rattle.rules.specs.Numbers.{grant_entry}
use Rattle.rules.specs.declared.Registers.{Registers}
use Rattle.listing.specs.Words.{cells_word, size_word, cell_word, right_word, grant_word, byte_word, core_word, do_word}
use Rattle.listing.specs.declared.entries.Entry.{Entry as Found}

-- number j of a line
abbrev pub field : Row → (j : ℕ) → ℕ
field r j = get_or r.v j 0

-- `cells 1`
unfoldable pub head_row : (s : List ℕ) (at : ℕ) → Row
head_row s at = row_within (row_at s at cells_word 1) 0 1 2

-- `size` M L, in bounds
unfoldable pub size_row : (s : List ℕ) (at : ℕ) → Row
size_row s at = row_within (row_within (row_at s at size_word 2) 0 1 33) 1 0 65537

-- `cell` first last offset mark, mark 0 or 1
unfoldable pub cell_row : (s : List ℕ) (at : ℕ) → Row
cell_row s at = row_within (row_at s at cell_word 4) 3 0 2

-- `right` cell division rights 1..7, of n cells and m divisions
unfoldable pub right_row : (n m : ℕ) (s : List ℕ) (at : ℕ) → Row
right_row n m s at = row_within (row_within (row_within (row_at s at right_word 3) 0 0 n) 1 0 m) 2 1 8

-- `grant` cell from to rights 1..7
unfoldable pub grant_row : (n m : ℕ) (s : List ℕ) (at : ℕ) → Row
grant_row n m s at = row_within (row_within (row_within (row_within (row_at s at grant_word 4) 0 0 n) 1 0 m) 2 0 m) 3 1 8

-- `byte` offset value 1..255, in a memory of l bytes
unfoldable pub byte_row : (l : ℕ) (s : List ℕ) (at : ℕ) → Row
byte_row l s at = row_within (row_within (row_at s at byte_word 2) 0 0 l) 1 1 256

-- `core` current caller place, any numbers
unfoldable pub core_row : (s : List ℕ) (at : ℕ) → Row
core_row s at = row_at s at core_word 3

-- `do` number x y z, any numbers
unfoldable pub do_row : (s : List ℕ) (at : ℕ) → Row
do_row s at = row_at s at do_word 4

-- ---- the three kinds that name an entry of a list: which entry, and its value. Strictly rising by cell then division (for a
-- grant, the one that it is from) is strictly rising by entry, since an entry is cell × M + division and the division is below M.

-- whether such a line stands there, the place after it, the entry that it names, and its value
pub record Entry : Type 0 where
  pub ok : Bool
  pub next : ℕ
  pub key : ℕ
  pub value : ℕ

-- the same as an answer: a line, or none
abbrev pub option_of_entry : Entry → Option (Found ℕ)
option_of_entry e = cond e.ok (Some (record { next = e.next; key = e.key; value = e.value })) None

unfoldable pub right_at : (n m : ℕ) (s : List ℕ) (at : ℕ) → Entry
right_at n m s at =
    let r = right_row n m s at in
    record { ok = r.ok; next = r.next; key = field r 0 * m + field r 1; value = field r 2 }

unfoldable pub grant_at : (n m : ℕ) (s : List ℕ) (at : ℕ) → Entry
grant_at n m s at =
    let r = grant_row n m s at in
    record { ok = r.ok; next = r.next; key = field r 0 * m + field r 1; value = grant_entry (field r 2) (field r 3) }

unfoldable pub byte_at : (l : ℕ) (s : List ℕ) (at : ℕ) → Entry
byte_at l s at =
    let r = byte_row l s at in
    record { ok = r.ok; next = r.next; key = field r 0; value = field r 1 }

-- ---- the registers that a core line names
abbrev pub registers_in : Row → Registers
registers_in r = record { current = field r 0; caller = field r 1; place = field r 2 }
