-- Document 01, "The refusal list".
use Rattle.std.specs.Prelude.{ℕ, List, [], ◌∷◌, ◌++◌, Bool, cond, ◌&&◌, ltb, eqb, Result, Ok, Err}
use Rattle.rules.specs.declared.Refusal.{Refusal}
use Rattle.rules.specs.declared.Refusal.TheVariants.{OutOfBounds, Unsound, NoSuchDivision, NoSuchInstruction, BadOperand, NotCovered, NotValid, NotWhole, RightMissing, NoGrant, OtherHolds, NotEntry, SameRights}
use Rattle.rules.specs.Numbers.{Tables, State, N, L, in_bounds, right_lengths}
use Rattle.rules.specs.Sound.{sound_tables, lowest_unsound}

-- ---- the numbers

-- M, N or L outside its bounds, or a list of the wrong length
abbrev pub out_of_bounds : ℕ
out_of_bounds = 1

-- tables not sound; value: lowest unsound cell
abbrev pub unsound : ℕ
unsound = 2

-- current or caller division not below M
abbrev pub no_such_division : ℕ
no_such_division = 3

-- instruction number above 10
abbrev pub no_such_instruction : ℕ
no_such_instruction = 4

-- operand outside its range, or an unused operand not 0
abbrev pub bad_operand : ℕ
bad_operand = 5

-- no cell covers the address
abbrev pub not_covered : ℕ
not_covered = 6

-- cell not valid (for revalidate: cell valid)
abbrev pub not_valid : ℕ
not_valid = 7

-- word not whole: address not a multiple of 4, or address + 3 above last; block or view running past last
abbrev pub not_whole : ℕ
not_whole = 8

-- a needed right is missing
abbrev pub right_missing : ℕ
right_missing = 9

-- no standing grant from the named source on this cell names the current division
abbrev pub no_grant : ℕ
no_grant = 10

-- another division holds a right on the cell
abbrev pub other_holds : ℕ
other_holds = 11

-- the word at the address is not the entry word
abbrev pub not_entry : ℕ
not_entry = 12

-- the rights asked for equal those held
abbrev pub same_rights : ℕ
same_rights = 13

-- the number of a refusal
abbrev pub number_of : Refusal → ℕ
number_of OutOfBounds = out_of_bounds
number_of (Unsound c) = unsound
number_of NoSuchDivision = no_such_division
number_of NoSuchInstruction = no_such_instruction
number_of BadOperand = bad_operand
number_of NotCovered = not_covered
number_of NotValid = not_valid
number_of NotWhole = not_whole
number_of RightMissing = right_missing
number_of NoGrant = no_grant
number_of OtherHolds = other_holds
number_of NotEntry = not_entry
number_of SameRights = same_rights

-- and its value: 0, except for 2
abbrev pub value_with : Refusal → ℕ
value_with OutOfBounds = 0
value_with (Unsound c) = c
value_with NoSuchDivision = 0
value_with NoSuchInstruction = 0
value_with BadOperand = 0
value_with NotCovered = 0
value_with NotValid = 0
value_with NotWhole = 0
value_with RightMissing = 0
value_with NoGrant = 0
value_with OtherHolds = 0
value_with NotEntry = 0
value_with SameRights = 0

-- a number and the value that goes with it
pub record Answer : Type 0 where
  pub number : ℕ
  pub value : ℕ

abbrev pub refused_with : Refusal → Answer
refused_with r = record { number = number_of r; value = value_with r }

-- what checks answer that let pass, or name the first to fail
abbrev pub failing : {A : Type 0} → Result A Refusal → ℕ
failing (Ok a) = 0
failing (Err r) = number_of r

abbrev pub answer_of : {A : Type 0} → Result A Refusal → Answer
answer_of (Ok a) = record { number = 0; value = 0 }
answer_of (Err r) = refused_with r

-- the order in which the checks go
abbrev pub refusal_list : List ℕ
refusal_list =
    out_of_bounds
    ∷ unsound
    ∷ no_such_division
    ∷ no_such_instruction
    ∷ bad_operand
    ∷ not_covered
    ∷ not_valid
    ∷ not_whole
    ∷ right_missing
    ∷ no_grant
    ∷ other_holds
    ∷ not_entry
    ∷ same_rights
    ∷ []

-- ---- the checks, and the first to fail

-- a check: the refusal that it gives, unless its test passes
pub record Check : Type 0 where
  pub refusal : ℕ
  pub passes : Bool

infix 68 ◌unless◌
abbrev pub ◌unless◌ : ℕ → Bool → Check
n unless b = record { refusal = n; passes = b }

-- the number of the first check to fail; 0, acceptance, where all hold
unfoldable pub first_failing : List Check → ℕ
first_failing [] = 0
first_failing (k ∷ ks) = cond k.passes (first_failing ks) k.refusal

-- ---- the answer of a call

-- number and value, the part of the memory that a read view hands back, and what is lent and the registers afterwards
pub record Outcome : Type 0 where
  pub number : ℕ
  pub value : ℕ
  pub part : List ℕ
  pub after : State

abbrev pub accepted : (value : ℕ) (part : List ℕ) (after : State) → Outcome
accepted v p s = record { number = 0; value = v; part = p; after = s }

-- a refusal's value is 0, except for 2
abbrev pub refused_value : Tables → (number : ℕ) → ℕ
refused_value t n = cond (eqb n unsound) (lowest_unsound t) 0

-- registers and lent lists come back unchanged
abbrev pub refused : State → (number : ℕ) → Outcome
refused s n = record { number = n; value = refused_value s.lent n; part = []; after = s }

-- what a call answers: its effect where all checks hold, else the first failing check's refusal
unfoldable pub answered : State → List Check → Outcome → Outcome
answered s ks effect = cond (eqb (first_failing ks) 0) effect (refused s (first_failing ks))

-- ---- the checks with which every call begins

unfoldable pub well_sized : Tables → Bool
well_sized t = in_bounds t.M (N t) (L t) && right_lengths t

-- checks 1 and 2
abbrev pub table_checks : Tables → List Check
table_checks t = out_of_bounds unless well_sized t ∷ unsound unless sound_tables t ∷ []

unfoldable pub known_divisions : State → Bool
known_divisions s = ltb s.registers.current s.lent.M && ltb s.registers.caller s.lent.M

-- checks 1, 2 and 3
abbrev pub first_checks : State → List Check
first_checks s = table_checks s.lent ++ no_such_division unless known_divisions s ∷ []
