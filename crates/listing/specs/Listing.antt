-- The text of a listing as a whole: its lines in their order, and the lowest line that breaks it. Each kind goes on while a
-- line of it stands there that is allowed. The line at which it stops is the first of a later kind, or wrong. So the lowest
-- wrong line is the first that must be of a kind (`cells`, `size`, `core`, or the end of the text) and is not. That it is the
-- lowest, said of right listings (`First`), is proved in proofs/Lowest.antt. Assumes nothing.
use Rattle.std.specs.Prelude.{ℕ, ◌+◌, ◌*◌, List, [], ◌∷◌, ◌++◌, Bool, cond, ◌&&◌, length, replicate, set, leb, eqb}
use Rattle.text.specs.Star.{star}
use Rattle.text.specs.Line.{Row}
use Rattle.rules.specs.Numbers.{Tables, State, state, tables}
use Rattle.listing.specs.Lines.{field, head_row, size_row, cell_row, right_at, grant_at, byte_at, core_row, do_row, registers_in, Entry}

-- entries not named are 0
abbrev pub zeros : (n : ℕ) → List ℕ
zeros n = replicate n 0

-- ---- cell lines, any number up to 256

-- the place after those so far, and what they say
pub record Cells : Type 0 where
  pub next : ℕ
  pub first : List ℕ
  pub last : List ℕ
  pub offset : List ℕ
  pub marks : List ℕ

abbrev pub with_cell : Cells → Row → Cells
with_cell c r =
    record {
      next = r.next;
      first = c.first ++ (field r 0 ∷ []);
      last = c.last ++ (field r 1 ∷ []);
      offset = c.offset ++ (field r 2 ∷ []);
      marks = c.marks ++ (field r 3 ∷ []);
    }

-- k lines more at most
abbrev pub more_cells : (s : List ℕ) (k : ℕ) → Cells → Cells
more_cells s k c =
    star (λ (c : Cells). (cell_row s c.next).ok) (λ (c : Cells). with_cell c (cell_row s c.next)) k c

abbrev pub cells_at : (s : List ℕ) (at : ℕ) → Cells
cells_at s at = more_cells s 256 (record { next = at; first = []; last = []; offset = []; marks = [] })

-- ---- right, grant and byte lines, any number, strictly rising

-- how many there are so far, the place after them, the least entry that the next may name, and the list with their values
pub record Entries : Type 0 where
  pub count : ℕ
  pub next : ℕ
  pub least : ℕ
  pub list : List ℕ

abbrev pub with_entry : Entries → Entry → Entries
with_entry t e =
    record { count = t.count + 1; next = e.next; least = e.key + 1; list = set t.list e.key e.value }

-- a line stands there, and it rises; `line` tells what stands at a place
abbrev pub rises : (line : ℕ → Entry) → Entries → Bool
rises line t = (line t.next).ok && leb t.least (line t.next).key

abbrev pub with_next : (line : ℕ → Entry) → Entries → Entries
with_next line t = with_entry t (line t.next)

-- k lines more at most
abbrev pub more_entries : (line : ℕ → Entry) (k : ℕ) → Entries → Entries
more_entries line k t = star (rises line) (with_next line) k t

-- in a text of k bytes there are no more than k lines
abbrev pub entries_at : (line : ℕ → Entry) (k at : ℕ) (list : List ℕ) → Entries
entries_at line k at list = more_entries line k (record { count = 0; next = at; least = 0; list = list })

-- ---- do lines, any number

-- how many, the place after them, and their numbers, four each
pub record Dos : Type 0 where
  pub count : ℕ
  pub next : ℕ
  pub numbers : List ℕ

abbrev pub with_do : Dos → Row → Dos
with_do d r =
    record {
      count = d.count + 1;
      next = r.next;
      numbers = d.numbers ++ (field r 0 ∷ field r 1 ∷ field r 2 ∷ field r 3 ∷ []);
    }

abbrev pub more_dos : (s : List ℕ) (k : ℕ) → Dos → Dos
more_dos s k d = star (λ (d : Dos). (do_row s d.next).ok) (λ (d : Dos). with_do d (do_row s d.next)) k d

abbrev pub dos_at : (s : List ℕ) (at : ℕ) → Dos
dos_at s at = more_dos s (length s) (record { count = 0; next = at; numbers = [] })

-- ---- the whole text

-- what a text is: a run from a state, of instructions with four numbers each; or wrong, at a line
pub data Text : Type 0 where
  run : (start : State) (count : ℕ) (numbers : List ℕ) → Text
  wrong : (line : ℕ) → Text

-- after the do lines the text ends; `line` lines stand before them
unfoldable pub from_dos : (s : List ℕ) (line : ℕ) → State → Dos → Text
from_dos s line start d =
    cond (eqb d.next (length s)) (run start d.count d.numbers) (wrong (line + d.count + 1))

-- the core line, behind `line` lines
unfoldable pub from_core : (s : List ℕ) (line : ℕ) → Tables → Row → Text
from_core s line t r =
    cond r.ok (from_dos s (line + 1) (state t (registers_in r)) (dos_at s r.next)) (wrong (line + 1))

-- the lines after the cells: right, grant and byte
unfoldable pub from_rights : (s : List ℕ) (m l : ℕ) → Cells → Text
from_rights s m l c =
    let n = length c.first in
    let rights = entries_at (right_at n m s) (length s) c.next (zeros (n * m)) in
    let grants = entries_at (grant_at n m s) (length s) rights.next (zeros (n * m)) in
    let bytes = entries_at (byte_at l s) (length s) grants.next (zeros l) in
    from_core s (2 + n + rights.count + grants.count + bytes.count)
    (tables m c.first c.last c.offset c.marks rights.list grants.list bytes.list)
    (core_row s bytes.next)

-- the size line is line 2
unfoldable pub from_size : (s : List ℕ) → Row → Text
from_size s r = cond r.ok (from_rights s (field r 0) (field r 1) (cells_at s r.next)) (wrong 2)

-- `cells 1` is line 1
unfoldable pub from_head : (s : List ℕ) → Row → Text
from_head s r = cond r.ok (from_size s (size_row s r.next)) (wrong 1)

-- a text of over 65,536 bytes is wrong at line 0
unfoldable pub listing_in : (s : List ℕ) → Text
listing_in s = cond (leb (length s) 65536) (from_head s (head_row s 0)) (wrong 0)
