-- What the inner functions have been told, and what they answer. No public contract cites this.
use Rattle.std.specs.Prelude.{ℕ, List, [], Bool, cond, Result, Ok, Err}
use Rattle.rules.specs.Numbers.{Tables, State, state}
use Rattle.rules.specs.Refusals.{Answer, number_of, value_with, Check, Outcome, accepted, answered, first_failing, first_checks, refused_value}
use Rattle.rules.specs.Instructions.{address_of}
use Rattle.rules.specs.Calls.{kind_checks, kind_done}
use Rattle.rules.specs.declared.Instruction.{Instruction}
use Rattle.rules.specs.declared.Refusal.{Refusal}
use Rattle.rules.specs.declared.Registers.{Registers}
use Rattle.monitor.specs.declared.reply.Accepted.{Accepted}
use Rattle.monitor.specs.declared.reply.Reply.{Reply}
use Rattle.rules.proofs.Decoding.{InRange}
use Rattle.rules.proofs.Kept.{Begun, Covering}

-- checks 1, 2 and 3 hold, the operands are in their ranges, and c covers the address
pub record Ready (s : State) (i : Instruction) (c : ℕ) : Type 0 where
  pub begun : Begun s
  pub range : InRange s.lent.M s.registers.current i
  pub cell : Covering s.lent (address_of i) c

-- what a well-formed instruction answers: its checks from 6 on, and what it does if they hold
abbrev pub kind_performed : State → Instruction → Outcome
kind_performed s i = answered s (kind_checks s i) (kind_done s i)

-- a check that passes, or is a refusal
unfoldable pub made : Bool → Refusal → Result Unit Refusal
made passes r = cond passes (Ok tt) (Err r)

-- an acceptance, with what is lent as it is then
abbrev pub accepted_as : Accepted → Tables → Outcome
accepted_as a t = accepted a.0 [] (state t a.1)

-- an acceptance or a refusal, which leaves the registers as they were before
abbrev pub gave : Result Accepted Refusal → (before : Registers) → Tables → Outcome
gave (Ok a) before t = accepted_as a t
gave (Err r) before t = record { number = number_of r; value = value_with r; part = []; after = state t before }

-- the reply to a call
abbrev pub replied : Result Accepted Refusal → (before : Registers) → Reply
replied (Ok a) before = record { number = 0; value = a.0; registers = a.1 }
replied (Err r) before = record { number = number_of r; value = value_with r; registers = before }

-- what checks answer: the number of the first to fail, and the value that goes with it
abbrev pub checks_answer : List Check → State → Answer
checks_answer ks s = record { number = first_failing ks; value = refused_value s.lent (first_failing ks) }

-- what checks 1, 2 and 3 answer
unfoldable pub first_answer : State → Answer
first_answer s = checks_answer (first_checks s) s
