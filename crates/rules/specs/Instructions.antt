-- Document 01, "The eleven instructions": the operands of each, what it needs, its effect and its value.
use Rattle.std.specs.Prelude.{ℕ, ◌+◌, ◌-◌, ◌*◌, ◌%◌, List, [], ◌∷◌, Bool, cond, not, ◌&&◌, length, get_or, set, leb, ltb, eqb, Result, Ok, Err}
use Rattle.rules.specs.Below.{lowest}
use Rattle.rules.specs.Numbers.{Tables, tables, N, read, write, execute, part_of, join, first_of, last_of, offset_of, mark_of, entry, held, grant_of, grant_entry, target_in, rights_in, switched}
use Rattle.rules.specs.Refusals.{number_of, no_such_instruction, bad_operand, not_valid, not_whole, right_missing, no_grant, other_holds, not_entry, same_rights, Check, ◌unless◌}
use Rattle.rules.specs.declared.Registers.{Registers}
use Rattle.rules.specs.declared.Placed.{Placed}
use Rattle.rules.specs.declared.Refusal.{Refusal}
use Rattle.rules.specs.declared.Instruction.{Instruction}
use Rattle.rules.specs.declared.Instruction.TheVariants.{Load, Store, Fetch, Switch, Protect, Grant, Receive, Transfer, Invalidate, Revalidate, Exclusive}

-- ---- four numbers: number, x, y, z; x is always the address

-- the ranges of y and z; an unused operand is 0
unfoldable pub no_operands : (y z : ℕ) → Bool
no_operands y z = eqb y 0 && eqb z 0

unfoldable pub byte_operand : (y z : ℕ) → Bool
byte_operand y z = leb y 255 && eqb z 0

unfoldable pub division_operand : (m y z : ℕ) → Bool
division_operand m y z = ltb y m && eqb z 0

unfoldable pub rights_operand : (y z : ℕ) → Bool
rights_operand y z = leb y 7 && eqb z 0

unfoldable pub grant_operands : (m d y z : ℕ) → Bool
grant_operands m d y z = ltb y m && not (eqb y d) && leb 1 z && leb z 7

unfoldable pub source_operand : (m d y z : ℕ) → Bool
source_operand m d y z = ltb y m && not (eqb y d) && eqb z 0

-- what four numbers are: a well-formed instruction, one of the eleven kinds with its operands; or refusal 4 or 5
pub data Formed : Type 0 where
  well_formed : Instruction → Formed
  ill_formed : (refusal : ℕ) → Formed

-- an instruction in its operands' ranges; else refusal 5
abbrev pub ranged : Bool → Instruction → Formed
ranged in_range i = cond in_range (well_formed i) (ill_formed bad_operand)

-- the eleven instruction numbers, 0 to 10; d is the current division
abbrev pub instruction_table : (m d x y z : ℕ) → List Formed
instruction_table m d x y z =
    ranged (no_operands y z) (Load x)
    ∷ ranged (byte_operand y z) (Store x y)
    ∷ ranged (no_operands y z) (Fetch x)
    ∷ ranged (division_operand m y z) (Switch x y)
    ∷ ranged (rights_operand y z) (Protect x y)
    ∷ ranged (grant_operands m d y z) (Grant x y z)
    ∷ ranged (source_operand m d y z) (Receive x y)
    ∷ ranged (grant_operands m d y z) (Transfer x y z)
    ∷ ranged (no_operands y z) (Invalidate x)
    ∷ ranged (no_operands y z) (Revalidate x)
    ∷ ranged (no_operands y z) (Exclusive x)
    ∷ []

unfoldable pub formed : (m d number x y z : ℕ) → Formed
formed m d number x y z = get_or (instruction_table m d x y z) number (ill_formed no_such_instruction)

-- what four numbers stand for: an instruction kept beside its listing position, or refusal 4 or 5
pub data Decoded : Type 0 where
  Kind : Placed → Decoded
  Refused : (refusal : ℕ) → Decoded

abbrev pub beside : (position : ℕ) → Formed → Decoded
beside position (well_formed i) = Kind (record { position = position; instruction = i })
beside position (ill_formed n) = Refused n

abbrev pub decoded : (m d position number x y z : ℕ) → Decoded
decoded m d position number x y z = beside position (formed m d number x y z)

-- the same of what a call hands back
abbrev pub kept : Result Placed Refusal → Decoded
kept (Ok p) = Kind p
kept (Err r) = Refused (number_of r)

abbrev pub address_of : Instruction → ℕ
address_of (Load x) = x
address_of (Store x y) = x
address_of (Fetch x) = x
address_of (Switch x y) = x
address_of (Protect x y) = x
address_of (Grant x y z) = x
address_of (Receive x y) = x
address_of (Transfer x y z) = x
address_of (Invalidate x) = x
address_of (Revalidate x) = x
address_of (Exclusive x) = x

-- ---- the cell covering x

unfoldable pub covers : (first last : List ℕ) (x c : ℕ) → Bool
covers first last x c = leb (get_or first c 0) x && leb x (get_or last c 0)

-- the number of cells where no cell covers x
unfoldable pub covering_cell : (first last : List ℕ) (x : ℕ) → ℕ
covering_cell first last x = lowest (covers first last x) (length first)

abbrev pub cell_at : Tables → (x : ℕ) → ℕ
cell_at t x = covering_cell t.first t.last x

unfoldable pub covered : Tables → (x : ℕ) → Bool
covered t x = ltb (cell_at t x) (N t)

-- ---- what the instructions ask of a cell c

unfoldable pub valid : (mark : ℕ) → Bool
valid mark = eqb mark 1

-- a byte's place in memory; x is not below c's first, since c covers it
unfoldable pub place : Tables → (c x : ℕ) → ℕ
place t c x = offset_of t c + x - first_of t c

-- the word that begins at a place in memory, low byte first
unfoldable pub word_in : (memory : List ℕ) (place : ℕ) → ℕ
word_in memory p =
    get_or memory p 0 + 256 * get_or memory (p + 1) 0 + 65536 * get_or memory (p + 2) 0 + 16777216 * get_or memory (p + 3) 0

unfoldable pub whole_word : (last x : ℕ) → Bool
whole_word last x = eqb (x % 4) 0 && leb (x + 3) last

abbrev pub entry_word : ℕ
entry_word = 11

-- the entry g is a grant, and names d
unfoldable pub grant_names : (g d : ℕ) → Bool
grant_names g d = not (eqb g 0) && eqb (target_in g) d

-- the lowest division but d that holds a right on c; m where nobody does
unfoldable pub other_holder : (m : ℕ) (rights : List ℕ) (c d : ℕ) → ℕ
other_holder m rights c d = lowest (λ k. not (eqb k d) && ltb 0 (get_or rights (c * m + k) 0)) m

unfoldable pub nobody_else : Tables → (c d : ℕ) → Bool
nobody_else t c d = eqb (other_holder t.M t.rights c d) t.M

-- ---- what each needs: d is the current division, c the cell covering x, held t c d its rights there

-- grant, and transfer as grant
abbrev pub grant_needs : Tables → (d c z : ℕ) → List Check
grant_needs t d c z = not_valid unless valid (mark_of t c) ∷ right_missing unless part_of z (held t c d) ∷ []

unfoldable pub needs : Tables → (d c : ℕ) → Instruction → List Check
needs t d c (Load x) = not_valid unless valid (mark_of t c) ∷ right_missing unless part_of read (held t c d) ∷ []
needs t d c (Store x y) = not_valid unless valid (mark_of t c) ∷ right_missing unless part_of write (held t c d) ∷ []
needs t d c (Fetch x) =
    not_valid unless valid (mark_of t c) ∷ not_whole unless whole_word (last_of t c) x ∷ right_missing unless part_of execute (held t c d) ∷ []
needs t d c (Switch x y) =
    not_valid unless valid (mark_of t c)
    ∷ not_whole unless whole_word (last_of t c) x
    ∷ right_missing unless part_of execute (held t c y)
    ∷ not_entry unless eqb (word_in t.memory (place t c x)) entry_word
    ∷ []
needs t d c (Protect x y) =
    not_valid unless valid (mark_of t c)
    ∷ right_missing unless part_of y (held t c d)
    ∷ same_rights unless not (eqb y (held t c d))
    ∷ []
needs t d c (Grant x y z) = grant_needs t d c z
needs t d c (Receive x y) = not_valid unless valid (mark_of t c) ∷ no_grant unless grant_names (grant_of t c y) d ∷ []
needs t d c (Transfer x y z) = grant_needs t d c z
needs t d c (Invalidate x) =
    not_valid unless valid (mark_of t c)
    ∷ right_missing unless not (eqb (held t c d) 0)
    ∷ other_holds unless nobody_else t c d
    ∷ []
needs t d c (Revalidate x) =
    not_valid unless not (valid (mark_of t c)) ∷ right_missing unless not (eqb (held t c d) 0) ∷ []
needs t d c (Exclusive x) = not_valid unless valid (mark_of t c) ∷ right_missing unless not (eqb (held t c d) 0) ∷ []

-- ---- the effect of each

abbrev pub with_marks : Tables → List ℕ → Tables
with_marks t l = tables t.M t.first t.last t.offset l t.rights t.grants t.memory

abbrev pub with_rights : Tables → List ℕ → Tables
with_rights t l = tables t.M t.first t.last t.offset t.marks l t.grants t.memory

abbrev pub with_grants : Tables → List ℕ → Tables
with_grants t l = tables t.M t.first t.last t.offset t.marks t.rights l t.memory

abbrev pub with_memory : Tables → List ℕ → Tables
with_memory t l = tables t.M t.first t.last t.offset t.marks t.rights t.grants l

abbrev pub put_mark : Tables → (c mark : ℕ) → Tables
put_mark t c k = with_marks t (set t.marks c k)

abbrev pub put_rights : Tables → (c d rights : ℕ) → Tables
put_rights t c d p = with_rights t (set t.rights (entry t c d) p)

abbrev pub put_grant : Tables → (c d grant : ℕ) → Tables
put_grant t c d g = with_grants t (set t.grants (entry t c d) g)

abbrev pub put_byte : Tables → (c x byte : ℕ) → Tables
put_byte t c x y = with_memory t (set t.memory (place t c x) y)

unfoldable pub effect : Tables → (d c : ℕ) → Instruction → Tables
effect t d c (Load x) = t
effect t d c (Store x y) = put_byte t c x y
effect t d c (Fetch x) = t
effect t d c (Switch x y) = t
effect t d c (Protect x y) = put_rights t c d y
effect t d c (Grant x y z) = put_grant t c d (grant_entry y z)
effect t d c (Receive x y) = put_grant (put_rights t c d (join (held t c d) (rights_in (grant_of t c y)))) c y 0
effect t d c (Transfer x y z) = put_rights (put_grant t c d (grant_entry y z)) c d 0
effect t d c (Invalidate x) = put_mark t c 0
effect t d c (Revalidate x) = put_mark t c 1
effect t d c (Exclusive x) = t

-- only a switch alters the registers
unfoldable pub registers_after : Registers → Instruction → Registers
registers_after r (Load x) = r
registers_after r (Store x y) = r
registers_after r (Fetch x) = r
registers_after r (Switch x y) = switched r y x
registers_after r (Protect x y) = r
registers_after r (Grant x y z) = r
registers_after r (Receive x y) = r
registers_after r (Transfer x y z) = r
registers_after r (Invalidate x) = r
registers_after r (Revalidate x) = r
registers_after r (Exclusive x) = r

abbrev pub rights_after : Tables → (d c : ℕ) → Instruction → ℕ
rights_after t d c i = held (effect t d c i) c d

-- for 4 to 9 the value is d's rights on c afterwards
unfoldable pub value_of : Tables → (d c : ℕ) → Instruction → ℕ
value_of t d c (Load x) = get_or t.memory (place t c x) 0
value_of t d c (Store x y) = 0
value_of t d c (Fetch x) = word_in t.memory (place t c x)
value_of t d c (Switch x y) = d
value_of t d c (Protect x y) = rights_after t d c (Protect x y)
value_of t d c (Grant x y z) = rights_after t d c (Grant x y z)
value_of t d c (Receive x y) = rights_after t d c (Receive x y)
value_of t d c (Transfer x y z) = rights_after t d c (Transfer x y z)
value_of t d c (Invalidate x) = rights_after t d c (Invalidate x)
value_of t d c (Revalidate x) = rights_after t d c (Revalidate x)
value_of t d c (Exclusive x) = cond (nobody_else t c d) 1 0
