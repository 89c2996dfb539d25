-- Document 01, "Numbers that bound it": what the caller lends and its bounds, rights, grant entries, and the registers.
use Rattle.std.specs.Prelude.{ℕ, ◌+◌, ◌*◌, ◌/◌, ◌%◌, List, Bool, cond, ◌&&◌, length, get_or, leb, eqb}
use Rattle.rules.specs.declared.Registers.{Registers}

-- ---- what the caller lends

-- M, the lists, and the memory
pub record Tables : Type 0 where
  pub M : ℕ
  pub first : List ℕ
  pub last : List ℕ
  pub offset : List ℕ
  pub marks : List ℕ
  pub rights : List ℕ
  pub grants : List ℕ
  pub memory : List ℕ

-- the same from its parts, in the order in which every call takes them
abbrev pub tables : ℕ → (first last offset marks rights grants memory : List ℕ) → Tables
tables m f l o k r g b =
    record { M = m; first = f; last = l; offset = o; marks = k; rights = r; grants = g; memory = b }

-- N and L are the lengths of first and of the memory
abbrev pub N : Tables → ℕ
N t = length t.first

abbrev pub L : Tables → ℕ
L t = length t.memory

-- what goes in with a call, and what comes back
pub record State : Type 0 where
  pub lent : Tables
  pub registers : Registers

abbrev pub state : Tables → Registers → State
state t r = record { lent = t; registers = r }

-- ---- the bounds

-- divisions 1 to 32, cells 0 to 256, memory 0 to 65,536 bytes
unfoldable pub in_bounds : (m n l : ℕ) → Bool
in_bounds m n l = leb 1 m && leb m 32 && leb n 256 && leb l 65536

-- N entries each in last, offset and the marks, N × M each in the rights and the grants
unfoldable pub right_lengths : Tables → Bool
right_lengths t =
    eqb (length t.last) (N t)
    && eqb (length t.offset) (N t)
    && eqb (length t.marks) (N t)
    && eqb (length t.rights) (N t * t.M)
    && eqb (length t.grants) (N t * t.M)

-- ---- rights

-- added; 0 to 7
abbrev pub read : ℕ
read = 1

abbrev pub write : ℕ
write = 2

abbrev pub execute : ℕ
execute = 4

-- every right of a is in b
unfoldable pub part_of : (a b : ℕ) → Bool
part_of a b = leb (a % 2) (b % 2) && leb (a / 2 % 2) (b / 2 % 2) && leb (a / 4 % 2) (b / 4 % 2)

unfoldable pub larger : (a b : ℕ) → ℕ
larger a b = cond (leb a b) b a

-- every right of a and every right of b
unfoldable pub join : (a b : ℕ) → ℕ
join a b = larger (a % 2) (b % 2) + 2 * larger (a / 2 % 2) (b / 2 % 2) + 4 * larger (a / 4 % 2) (b / 4 % 2)

-- ---- the entries of a cell, and of a cell and a division

abbrev pub first_of : Tables → (c : ℕ) → ℕ
first_of t c = get_or t.first c 0

abbrev pub last_of : Tables → (c : ℕ) → ℕ
last_of t c = get_or t.last c 0

abbrev pub offset_of : Tables → (c : ℕ) → ℕ
offset_of t c = get_or t.offset c 0

abbrev pub mark_of : Tables → (c : ℕ) → ℕ
mark_of t c = get_or t.marks c 0

-- entry cell × M + division
abbrev pub entry : Tables → (c d : ℕ) → ℕ
entry t c d = c * t.M + d

-- the rights that d holds on c
abbrev pub held : Tables → (c d : ℕ) → ℕ
held t c d = get_or t.rights (entry t c d) 0

-- the grant entry of the granter d on c
abbrev pub grant_of : Tables → (c d : ℕ) → ℕ
grant_of t c d = get_or t.grants (entry t c d) 0

-- ---- grant entries: 0 for none, else target + 256 × rights

abbrev pub grant_entry : (target rights : ℕ) → ℕ
grant_entry target rights = target + 256 * rights

abbrev pub target_in : ℕ → ℕ
target_in g = g % 256

abbrev pub rights_in : ℕ → ℕ
rights_in g = g / 256

-- ---- the registers: current division, caller division and place

-- after a switch to division y at x
abbrev pub switched : Registers → (y x : ℕ) → Registers
switched r y x = record { current = y; caller = r.current; place = x }
