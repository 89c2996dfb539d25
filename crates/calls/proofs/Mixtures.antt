-- Demand 3 of what the functions do: any mixture of the public calls, each of which met its contract as the source states it
-- (`Post` is what `ensures` says of the arguments, the result and the parameters at exit). Assumes nothing.
use Prim.Native.Nat.{ℕ, zero, suc}
use mathlib.Core.Path.{◌≡◌, refl, sym, ap, ◌∙◌, subst}
use mathlib.Core.List.{List, [], ◌∷◌, ◌++◌}
use mathlib.Core.Logic.{◌≢◌}
use mathlib.Core.Bool.{true}
use lib.ListN.{length, get_or}
use Rattle.std.specs.Prelude.{Result}
use Rattle.std.specs.Borrow.{MutBor}
use Rattle.rules.specs.Numbers.{Tables, State, state}
use Rattle.rules.specs.Lent.{Slice, MutSlice, lent, lent_mut}
use Rattle.rules.specs.Refusals.{Outcome}
use Rattle.rules.specs.Calls.{Action, instruction, block_write, read_view, performed, outcomes, after_all}
use Rattle.rules.specs.declared.Registers.{Registers}
use Rattle.rules.specs.declared.Refusal.{Refusal}
use Rattle.rules.specs.declared.Tables.{Tables as LentTables}
use Rattle.rules.specs.declared.TablesMut.{TablesMut as LentTablesMut}
use Rattle.monitor.specs.Runs.{instruction_at, room_in, after_first, Ran}
use Rattle.monitor.specs.declared.reply.Reply.{Reply}
use Rattle.monitor.specs.declared.reply.ViewPlace.{ViewPlace}
use Rattle.monitor.proofs.Unique.{lists}
use Rattle.monitor.proofs.execute.Reads as execute-reads
use Rattle.monitor.proofs.execute_all.Reads as execute-all-reads
use Rattle.monitor.proofs.write_block.Reads as write-block-reads
use Rattle.monitor.proofs.view.Reads as view-reads
use Rattle.monitor.proofs.view_answer.Reads as view-answer-reads
use Rattle.monitor.proofs.view_place.Reads as view-place-reads
use Rattle.history.specs.History.{Right, Held}
use Rattle.history.specs.Shown.{holds_in, shown, LastWritten}
use Rattle.calls.proofs.Contracts.{Given, own, view_kept}
use Rattle.history.proofs.Sequences.{Called, called_run, called_history, called_bytes, steps, after_more}

-- ---- what a call is lent, and what it stands for

-- the arguments of a call that may write all four lists, of one that may write the memory alone, and of one that may write none
abbrev pub GivenAll : (Own : Type 0) → Type 0
GivenAll Own = Given (MutBor LentTablesMut) MutSlice Own

abbrev pub GivenBlock : (Own : Type 0) → Type 0
GivenBlock Own = Given LentTables MutSlice Own

abbrev pub GivenView : (Own : Type 0) → Type 0
GivenView Own = Given LentTables Slice Own

-- the state of each
abbrev pub state_of : {Own : Type 0} → GivenAll Own → State
state_of a = state (lent_mut a.0.now a.1.0.now) a.1.1.0

abbrev pub block_state_of : {Own : Type 0} → GivenBlock Own → State
block_state_of a = state (lent a.0 a.1.0.now) a.1.1.0

abbrev pub view_state_of : {Own : Type 0} → GivenView Own → State
view_state_of a = state (lent a.0 a.1.0.now) a.1.1.0

-- the lists at exit of `write_block`, which may write the memory alone
abbrev pub block_lists : {End : Type 0} → GivenBlock End → Tables
block_lists s = lent s.0 s.1.0.now

-- four numbers
abbrev pub instruction_of : GivenAll (ℕ × (ℕ × (ℕ × (ℕ × Unit {0})))) → Action
instruction_of a = instruction (own a).0 (own a).1.0 (own a).1.1.0 (own a).1.1.1.0

-- an address and a block of bytes
abbrev pub block_of : GivenBlock (ℕ × (Slice × Unit {0})) → Action
block_of a = block_write (own a).0 (own a).1.0.now

-- an address and a length
abbrev pub view_of : GivenView (ℕ × (ℕ × Unit {0})) → Action
view_of a = read_view (own a).0 (own a).1.0

-- the first k instructions of a list of numbers
unfoldable pub first_of : List ℕ → (k : ℕ) → List Action
first_of l zero = []
first_of l (suc k) = first_of l k ++ (instruction_at l k ∷ [])

-- a list of instructions and two lists of answers: as many as are whole and have room for both
abbrev pub list_of : GivenAll (Slice × (MutSlice × (MutSlice × Unit {0}))) → List Action
list_of a =
    let l = (own a).0.now in
    first_of l (room_in l (own a).1.0.now (own a).1.1.0.now)

-- ---- one call

-- from a state a public call was made, which met its contract: the actions that it stands for, and the state that it left.
-- Of what a view is lent nothing can be written, so all is passed on as it was
pub data Call : State → List Action → State → Type 0 where
  execute_call : (κs : _) (a : _) (r : Reply) (b : _) → execute-reads.Post κs a r b
      → Call (state_of a) (instruction_of a ∷ []) (state (lists b) r.registers)
  execute_all_call : (κs : _) (a : _) (r : Registers) (b : _) → execute-all-reads.Post κs a r b
      → Call (state_of a) (list_of a) (state (lists b) r)
  write_block_call : (κs : _) (a : _) (r : Reply) (b : _) → write-block-reads.Post κs a r b
      → Call (block_state_of a) (block_of a ∷ []) (state (block_lists b) r.registers)
  view_call : (κs : _) (a : _) (r : Slice) → view-reads.Post κs a r a → Call (view_state_of a) (view_of a ∷ []) (view_state_of a)
  view_answer_call : (κs : _) (a : _) (r : Result Unit Refusal) → view-answer-reads.Post κs a r a → Call (view_state_of a) (view_of a ∷ []) (view_state_of a)
  view_place_call : (κs : _) (a : _) (r : ViewPlace) → view-place-reads.Post κs a r a → Call (view_state_of a) (view_of a ∷ []) (view_state_of a)

-- the state after the first k instructions of a list
pub list_end : (s : State) (l : List ℕ) (k : ℕ) → after_first s l k ≡ after_all s (first_of l k)
unfolding after_first first_of after_all
list_end s l zero = refl
list_end s l (suc k) =
    ap (λ (u : State). (performed u (instruction_at l k)).after) (list_end s l k) ∙ sym (after_more s (first_of l k) (instruction_at l k ∷ []))

-- what its contract says of the state: that it is the definition's
pub call_end : {s u : State} {acts : List Action} → Call s acts u → u ≡ after_all s acts
unfolding after_all
call_end (execute_call κs a r b e) = ap (λ (o : Outcome). o.after) e.0
call_end (execute_all_call κs a r b e) =
    let l = (own a).0.now in
    ap (λ (o : Ran). o.after) e.0 ∙ list_end (state_of a) l (room_in l (own a).1.0.now (own a).1.1.0.now)
call_end (write_block_call κs a r b e) = ap (λ (o : Outcome). o.after) e
call_end (view_call κs a r e) = sym (view_kept (view_state_of a) (own a).0 (own a).1.0)
call_end (view_answer_call κs a r e) = sym (view_kept (view_state_of a) (own a).0 (own a).1.0)
call_end (view_place_call κs a r e) = sym (view_kept (view_state_of a) (own a).0 (own a).1.0)

-- so it is a run of the definition, and demand 3 holds of it by itself: of the rights held where it returns, and of the bytes
-- that differ from those that it was lent
call_called : {s u : State} {acts : List Action} → Call s acts u → Called s acts (outcomes s acts) u
call_called {s} {u} {acts} c = subst (Called s acts (outcomes s acts)) (sym (call_end c)) (called_run s acts)

pub call_rights : {s u : State} {acts : List Action} → Call s acts u → (c d : ℕ) (r : Right) → holds_in u.lent c d r ≡ true
    → Held (shown (steps acts) s) c r (length acts) d
call_rights c = called_history (call_called c)

pub call_bytes : {s u : State} {acts : List Action} → Call s acts u → (p : ℕ)
    → get_or u.lent.memory p 0 ≢ get_or s.lent.memory p 0 → LastWritten (steps acts) s 0 (length acts) p
call_bytes c = called_bytes (call_called c)

-- ---- any mixture of calls, one after the other

pub data Made : State → List Action → State → Type 0 where
  none_made : {s : State} → Made s [] s
  one_made : {s u end : State} {acts rest : List Action} → Call s acts u → Made u rest end → Made s (acts ++ rest) end

pub made_end : {s end : State} {acts : List Action} → Made s acts end → end ≡ after_all s acts
unfolding after_all
made_end none_made = refl
made_end (one_made {s} {u} {end} {acts} {rest} c w) =
    made_end w ∙ ap (λ (v : State). after_all v rest) (call_end c) ∙ sym (after_more s acts rest)

-- it is a run of the definition
pub made_called : {s end : State} {acts : List Action} → Made s acts end → Called s acts (outcomes s acts) end
made_called {s} {end} {acts} w = subst (Called s acts (outcomes s acts)) (sym (made_end w)) (called_run s acts)

-- a division that holds a right after them has held it without a break since the start, or last gained it by an accepted
-- receive of a grant made out to it, whose maker held the right when making it, and so back to the start
pub made_rights : {s end : State} {acts : List Action} → Made s acts end → (c d : ℕ) (r : Right) → holds_in end.lent c d r ≡ true
    → Held (shown (steps acts) s) c r (length acts) d
made_rights w = called_history (made_called w)

-- no byte changes but by an accepted store or block write from a division then holding write on the valid cell covering it
pub made_bytes : {s end : State} {acts : List Action} → Made s acts end → (p : ℕ)
    → get_or end.lent.memory p 0 ≢ get_or s.lent.memory p 0 → LastWritten (steps acts) s 0 (length acts) p
made_bytes w = called_bytes (made_called w)
