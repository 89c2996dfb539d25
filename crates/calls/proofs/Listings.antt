-- Demand 3 of a run of `cellrun`, from its contract as the source states it (`Post` is what `ensures` says of the arguments, the
-- result and the parameters at exit; `out'` is the lent buffer at exit). What is said is said of the lines that stand in that buffer,
-- read by the reader of listings: the right lines, and the answers to loads. Nothing is asked of the listing but that its text is
-- one, and nothing of its tables: where they are not sound, nothing happens. Assumes nothing.
use Prim.Native.Nat.{ℕ, ◌+◌, ◌≤◌, ◌<◌}
use mathlib.Core.Path.{◌≡◌, refl, sym, ap, ◌∙◌}
use mathlib.Core.Logic.{◌≢◌}
use mathlib.Core.List.{List, ◌++◌}
use mathlib.Core.Bool.{true}
use native.Mathlib.Omega.{arith}
use lib.ListN.{length, get_or, take}
use Rattle.text.specs.Line.{row_at, Row}
use Rattle.rules.specs.Numbers.{Tables, State}
use Rattle.rules.specs.Lent.{Slice, MutSlice}
use Rattle.rules.specs.Refusals.{Outcome}
use Rattle.rules.specs.Instructions.{no_operands, formed, cell_at, place, with_rights, value_of}
use Rattle.rules.specs.Calls.{Action, instruction, done_at, done, performed}
use Rattle.rules.proofs.Kept.{SameShape}
use Rattle.rules.proofs.Laws.{accepted_done}
use Rattle.monitor.specs.Runs.{instruction_at, after_first, answer_at}
use Rattle.history.specs.History.{Right, Held}
use Rattle.history.specs.Shown.{holds_in, shown, LastWritten}
use Rattle.history.proofs.Demand3.{byte_history}
use Rattle.listing.specs.Words.{cells_word, answer_word}
use Rattle.listing.specs.Lines.{field}
use Rattle.listing.specs.Listing.{run, listing_in}
use Rattle.listing.specs.Output.{line1, lines_of, answer_line, lines_after}
use Rattle.listing.specs.Reading.{output_room}
use Rattle.listing.proofs.LinesBack.{row3}
use Rattle.listing.proofs.Back.{rights_at}
use Rattle.monitor.proofs.Running.{first_shape}
use Rattle.listing.proofs.RunBack.{before_answer, before_rights, run_written, answer_back, rights_written_back}
use Rattle.listing.proofs.cellrun.Reads as cellrun-reads
use Rattle.calls.proofs.Lists.{list_run, list_history}

-- ---- tables of the same shape

-- an address has the same place
same_place : (t u : Tables) (x : ℕ) → SameShape t u → place u (cell_at u x) x ≡ place t (cell_at t x) x
unfolding place
same_place t u x h = rw (h.firsts, h.lasts, h.offsets)

-- a division that has the same rights holds the same
same_holds : (t u : Tables) (rights : List ℕ) (c d : ℕ) (q : Right) → SameShape t u → rights ≡ u.rights
    → holds_in (with_rights t rights) c d q ≡ holds_in u c d q
unfolding holds_in
same_holds t u rights c d q h e = rw (h.firsts, h.divisions, e)

-- ---- what an accepted load at x answers: the byte there

load_done : (s : State) (x : ℕ) → (done s (instruction 0 x 0 0)).value ≡ get_or s.lent.memory (place s.lent (cell_at s.lent x) x) 0
unfolding done formed no_operands done_at value_of
load_done s x = refl

load_value : (s : State) (a : Action) (x : ℕ) → a ≡ instruction 0 x 0 0 → (performed s a).number ≡ 0
    → (performed s a).value ≡ get_or s.lent.memory (place s.lent (cell_at s.lent x) x) 0
load_value s a x e n =
    ap (λ (o : Outcome). o.value) (accepted_done s a n) ∙ ap (λ (a : Action). (done s a).value) e ∙ load_done s x

-- ---- a call of `cellrun` that met its contract, with a buffer that has room, on a text that is a run of k instructions

module _ (κs : _) (text : Slice) (out out' : MutSlice) (r : ℕ) (met : cellrun-reads.Post κs (text, (out, tt)) r (text, (out', tt)))
    (room : output_room ≤ length out.now) (start : State) (k : ℕ) (l : List ℕ) (e : listing_in text.now ≡ run start k l) where
  -- what it wrote: the front of the buffer, as long as it answered
  abbrev pub written : List ℕ
  written = take r out'.now

  -- `cells 1`, an answer for each instruction, and the state after them all
  pub written_run : written ≡ line1 cells_word 1 ++ (lines_of (answer_line start l) 0 k ++ lines_after (after_first start l k))
  written_run = run_written out.now text.now out'.now r start k l room met.0 met.1 e

  -- ---- rights

  -- what the reader of listings reads of the right lines in it, behind `cells 1`, the answers and the core line
  abbrev pub rights_written : List ℕ
  rights_written = (rights_at start.lent written (length (before_rights start k l))).list

  -- the rights of the state after the run
  pub rights_are : rights_written ≡ (after_first start l k).lent.rights
  rights_are = rights_written_back text.now start k l e written written_run

  -- every right that a right line of what it wrote gives to a division was held since the listing's start without a break, or
  -- last gained by an accepted receive among its `do` lines of a grant made out to the division, whose maker held it when making
  -- it, and so back to the start
  pub cellrun_rights : (c d : ℕ) (q : Right) → holds_in (with_rights start.lent rights_written) c d q ≡ true
      → Held (shown (instruction_at l) start) c q k d
  cellrun_rights c d q h =
      list_history start l k c d q
      (sym (same_holds start.lent (after_first start l k).lent rights_written c d q (first_shape start l k) rights_are) ∙ h)

  -- ---- bytes

  -- what is read of the answer to the `do` line numbered i from 0, behind `cells 1` and the answers before it
  abbrev pub answer_written : (i : ℕ) → Row
  answer_written i = row_at written (length (before_answer start l i)) answer_word 3

  -- its listing position, number and value; the next answer stands where it ends
  pub answer_is : (i : ℕ) → i < k
      → answer_written i
      ≡ row3 (length (before_answer start l (i + 1))) (i + 1) (answer_at start l i).outcome.number (answer_at start l i).outcome.value
  answer_is = answer_back text.now start k l e written written_run

  -- where the address x stands in memory, throughout
  abbrev pub place_of : (x : ℕ) → ℕ
  place_of x = place start.lent (cell_at start.lent x) x

  -- `do` line i is a load at x, and what it wrote says that it was accepted, with a value that is not the byte with which the
  -- listing started there: that byte was last changed by an accepted store among the `do` lines before i, from a division then
  -- holding write on the valid cell covering it
  pub cellrun_bytes : (i x : ℕ) → i < k → instruction_at l i ≡ instruction 0 x 0 0 → field (answer_written i) 1 ≡ 0
      → field (answer_written i) 2 ≢ get_or start.lent.memory (place_of x) 0 → LastWritten (instruction_at l) start 0 i (place_of x)
  cellrun_bytes i x h load accepted ne =
      let s = after_first start l i in
      let number : (performed s (instruction_at l i)).number ≡ 0 = ap (λ (a : Row). field a 1) (sym (answer_is i h)) ∙ accepted in
      let value : field (answer_written i) 2 ≡ get_or s.lent.memory (place_of x) 0 =
      ap (λ (a : Row). field a 2) (answer_is i h)
      ∙ load_value s (instruction_at l i) x load number
      ∙ ap (λ (p : ℕ). get_or s.lent.memory p 0) (same_place start.lent s.lent x (first_shape start l i)) in
      byte_history (instruction_at l) start i 0 (place_of x) (omega arith)
      (λ q. ne (value ∙ ap (λ (u : State). get_or u.lent.memory (place_of x) 0) (list_run start l i) ∙ q))
