-- A list of instructions, four numbers each, run one after the other.
use Rattle.std.specs.Prelude.{ℕ, zero, suc, ◌+◌, ◌*◌, ◌/◌, min, List, length, get_or, set}
use Rattle.rules.specs.Numbers.{State}
use Rattle.rules.specs.Refusals.{Outcome}
use Rattle.rules.specs.Calls.{Action, instruction, performed}

-- the call that the four numbers from 4 k on stand for
abbrev pub instruction_at : (numbers : List ℕ) (k : ℕ) → Action
instruction_at l k = instruction (get_or l (4 * k) 0) (get_or l (4 * k + 1) 0) (get_or l (4 * k + 2) 0) (get_or l (4 * k + 3) 0)

-- how many whole instructions a list of that length has, with room for both answers
unfoldable pub room_for : (instructions numbers values : ℕ) → ℕ
room_for i n v = min (min (i / 4) n) v

-- the same of three lists
abbrev pub room_in : (instructions numbers values : List ℕ) → ℕ
room_in i n v = room_for (length i) (length n) (length v)

-- the state after the first k
unfoldable pub after_first : State → List ℕ → (k : ℕ) → State
after_first s l zero = s
after_first s l (suc k) = (performed (after_first s l k) (instruction_at l k)).after

-- an answer beside the listing position of its instruction
pub record Listed : Type 0 where
  pub position : ℕ
  pub outcome : Outcome

abbrev pub listed : (position : ℕ) → Outcome → Listed
listed p o = record { position = p; outcome = o }

-- what the instruction numbered k from 0 is answered in its turn; positions count from 1
abbrev pub answer_at : State → List ℕ → (k : ℕ) → Listed
answer_at s l k = listed (k + 1) (performed (after_first s l k) (instruction_at l k))

-- a list whose first k entries are one part of the first k answers
unfoldable pub answers_in : (part : Outcome → ℕ) → State → List ℕ → (k : ℕ) → List ℕ → List ℕ
answers_in part s l zero out = out
answers_in part s l (suc k) out = set (answers_in part s l k out) k (part (answer_at s l k).outcome)

-- what a list of instructions leaves: the state, and the lists of the answers' numbers and values
pub record Ran : Type 0 where
  pub after : State
  pub numbers : List ℕ
  pub values : List ℕ

abbrev pub ran : State → (numbers values : List ℕ) → Ran
ran s n v = record { after = s; numbers = n; values = v }

-- the first k instructions of l
abbrev pub run_first : State → List ℕ → (k : ℕ) → (numbers values : List ℕ) → Ran
run_first s l k n v = ran (after_first s l k) (answers_in (λ o. o.number) s l k n) (answers_in (λ o. o.value) s l k v)

-- as many as are whole and have room for both answers
abbrev pub run_all : State → (instructions numbers values : List ℕ) → Ran
run_all s l n v = run_first s l (room_in l n v) n v
