-- What the public calls hand back, in the rules' words: what their contracts are said with.
use Rattle.std.specs.Prelude.{ℕ, [], cond, eqb}
use Rattle.rules.specs.Numbers.{Tables, State, state}
use Rattle.rules.specs.Refusals.{Answer, Outcome}
use Rattle.rules.specs.Instructions.{cell_at, place}
use Rattle.rules.specs.Calls.{read_view, performed}
use Rattle.monitor.specs.declared.reply.Reply.{Reply}
use Rattle.monitor.specs.declared.reply.ViewPlace.{ViewPlace}

-- a reply, with what is lent as it is then
abbrev pub came : Reply → Tables → Outcome
came r t = record { number = r.number; value = r.value; part = []; after = state t r.registers }

-- what a read view's separate call answers
abbrev pub answer_in : Outcome → Answer
answer_in o = record { number = o.number; value = o.value }

-- a read view's number and value, and where its part lies in the memory; an empty one at its start on a refusal
unfoldable pub view_place_in : State → (x n : ℕ) → ViewPlace
view_place_in s x n =
    cond (eqb (performed s (read_view x n)).number 0)
    (record { number = 0; value = 0; start = place s.lent (cell_at s.lent x) x; count = n })
    (record {
      number = (performed s (read_view x n)).number;
      value = (performed s (read_view x n)).value;
      start = 0;
      count = 0;
    })
