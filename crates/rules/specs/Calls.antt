-- What every call answers, and the run of any sequence of calls.
use Rattle.std.specs.Prelude.{ℕ, List, [], ◌∷◌, ◌++◌, false, length}
use Rattle.rules.specs.Numbers.{State, state, read, write}
use Rattle.rules.specs.Refusals.{not_covered, Check, ◌unless◌, Outcome, accepted, answered, first_checks}
use Rattle.rules.specs.Instructions.{Formed, well_formed, ill_formed, formed, address_of, covered, cell_at, needs, effect, registers_after, value_of}
use Rattle.rules.specs.Blocks.{block_needs, block_written, part_viewed}
use Rattle.rules.specs.declared.Instruction.{Instruction}

-- the calls: an instruction given as four numbers, a block write, a read view
pub data Action : Type 0 where
  instruction : (number x y z : ℕ) → Action
  block_write : (x : ℕ) (bytes : List ℕ) → Action
  read_view : (x n : ℕ) → Action

-- what four numbers are in a state
abbrev pub formed_in : State → (number x y z : ℕ) → Formed
formed_in s number x y z = formed s.lent.M s.registers.current number x y z

-- the checks on a well-formed instruction, from 6 on
unfoldable pub kind_checks : State → Instruction → List Check
kind_checks s i =
    not_covered unless covered s.lent (address_of i)
    ∷ needs s.lent s.registers.current (cell_at s.lent (address_of i)) i

-- the checks on four numbers, from 4 on
abbrev pub instruction_checks : State → Formed → List Check
instruction_checks s (ill_formed n) = n unless false ∷ []
instruction_checks s (well_formed i) = kind_checks s i

-- the checks on a block of n bytes at x from 6 on
abbrev pub block_checks : (right : ℕ) → State → (x n : ℕ) → List Check
block_checks right s x n =
    not_covered unless covered s.lent x
    ∷ block_needs right s.lent s.registers.current (cell_at s.lent x) x n

-- all checks on a call, in their order
unfoldable pub checks : State → Action → List Check
checks s (instruction number x y z) = first_checks s ++ instruction_checks s (formed_in s number x y z)
checks s (block_write x bytes) = first_checks s ++ block_checks write s x (length bytes)
checks s (read_view x n) = first_checks s ++ block_checks read s x n

-- an instruction's value and effect on the cell c
unfoldable pub done_at : State → (c : ℕ) → Instruction → Outcome
done_at s c i =
    accepted
    (value_of s.lent s.registers.current c i)
    []
    (state (effect s.lent s.registers.current c i) (registers_after s.registers i))

abbrev pub kind_done : State → Instruction → Outcome
kind_done s i = done_at s (cell_at s.lent (address_of i)) i

-- four numbers that are no instruction have nothing to do
abbrev pub instruction_done : State → Formed → Outcome
instruction_done s (ill_formed n) = accepted 0 [] s
instruction_done s (well_formed i) = kind_done s i

-- what a call does if all its checks hold
unfoldable pub done : State → Action → Outcome
done s (instruction number x y z) = instruction_done s (formed_in s number x y z)
done s (block_write x bytes) =
    accepted 0 [] (state (block_written s.lent (cell_at s.lent x) x bytes) s.registers)
done s (read_view x n) = accepted 0 (part_viewed s.lent (cell_at s.lent x) x n) s

-- what a call answers
unfoldable pub performed : State → Action → Outcome
performed s a = answered s (checks s a) (done s a)

-- any sequence of calls: the outcome of each in turn
unfoldable pub outcomes : State → List Action → List Outcome
outcomes s [] = []
outcomes s (a ∷ rest) = performed s a ∷ outcomes (performed s a).after rest

-- the state after them all
unfoldable pub after_all : State → List Action → State
after_all s [] = s
after_all s (a ∷ rest) = after_all (performed s a).after rest
