-- Document 01, "Bench cases": those with P, as one table. The theorem about it is in proofs/Bench.antt.
use Rattle.std.specs.Prelude.{ℕ, List, [], ◌∷◌}
use Rattle.rules.specs.Numbers.{Tables, tables, State, state}
use Rattle.rules.specs.Refusals.{Outcome, accepted}
use Rattle.rules.specs.Instructions.{with_rights}
use Rattle.rules.specs.Calls.{Action, instruction}

-- ---- the listing before its `do` lines

abbrev pub listed : Tables
listed =
    tables 3
    (4096 ∷ 8192 ∷ [])
    (4103 ∷ 8195 ∷ [])
    (0 ∷ 8 ∷ [])
    (1 ∷ 1 ∷ [])
    (3 ∷ 0 ∷ 0 ∷ 0 ∷ 0 ∷ 4 ∷ [])
    (0 ∷ 0 ∷ 0 ∷ 0 ∷ 0 ∷ 0 ∷ [])
    (0 ∷ 0 ∷ 0 ∷ 0 ∷ 0 ∷ 0 ∷ 0 ∷ 0 ∷ 11 ∷ 0 ∷ 0 ∷ 0 ∷ 0 ∷ 0 ∷ 0 ∷ 0 ∷ [])

-- the listing with the given core
abbrev pub core : (current caller place : ℕ) → State
core current caller place = state listed (record { current = current; caller = caller; place = place })

abbrev pub start : State
start = core 0 0 0

-- ---- a case: where it starts, what is called, and the whole outcome

pub record Case : Type 0 where
  pub before : State
  pub call : Action
  pub outcome : Outcome

abbrev pub accepts : State → Action → (value : ℕ) (after : State) → Case
accepts s a v after = record { before = s; call = a; outcome = accepted v [] after }

-- a refusal with value 0 and all as before
abbrev pub refuses : State → Action → (number : ℕ) → Case
refuses s a n = record { before = s; call = a; outcome = record { number = n; value = 0; part = []; after = s } }

-- the cases with P
abbrev pub bench_cases : List Case
bench_cases =
    -- load 4096, 4104, 8192
    accepts start (instruction 0 4096 0 0) 0 start
    ∷ refuses start (instruction 0 4104 0 0) 6
    ∷ refuses start (instruction 0 8192 0 0) 9
    -- store 4096, 256
    ∷ refuses start (instruction 1 4096 256 0) 5
    -- switch 8192 to 2, at 8193, and to 1
    ∷ accepts start (instruction 3 8192 2 0) 0 (core 2 0 8192)
    ∷ refuses start (instruction 3 8193 2 0) 8
    ∷ refuses start (instruction 3 8192 1 0) 9
    -- protect 4096 to 1, and to 3
    ∷ accepts start (instruction 4 4096 1 0) 1
    (state (with_rights listed (1 ∷ 0 ∷ 0 ∷ 0 ∷ 0 ∷ 4 ∷ [])) start.registers)
    ∷ refuses start (instruction 4 4096 3 0) 13
    -- transfer 4096 to 2, rights 7
    ∷ refuses start (instruction 7 4096 2 7) 9
    -- with current 1, receive 4096 from 0; with current 2, fetch 8192
    ∷ refuses (core 1 0 0) (instruction 6 4096 0 0) 10
    ∷ accepts (core 2 0 0) (instruction 2 8192 0 0) 11 (core 2 0 0)
    -- number 11
    ∷ refuses start (instruction 11 4096 0 0) 4
    ∷ []
