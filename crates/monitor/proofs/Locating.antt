-- Blocks: where one lies, how it is filled, and what a block write and a view answer. Assumes nothing.
use Prim.Native.Nat.{ℕ, ◌+◌, ◌-◌, ◌≤◌, ◌<◌}
use mathlib.Core.Path.{◌≡◌, refl, sym, ap, ◌∙◌}
use mathlib.Core.List.{List, [], ◌∷◌, ◌++◌, append_assoc}
use mathlib.Core.Bool.{Bool, false}
use native.Mathlib.Omega.{arith}
use native.Mathlib.Nat.{add-sub_cancel_left}
use lib.ListN.{length, take, drop}
use lib.Seq.{drop-drop}
use lib.Dec.{eqb}
use borrow.Author.Tests.{lt-leb, ne_eqb, eqb-true, eqb-false}
use Rattle.rules.specs.Numbers.{State, state, L, read, write, part_of, last_of, mark_of, held}
use Rattle.rules.specs.Refusals.{Answer, number_of, refused_with, not_valid, not_whole, right_missing, Check, ◌unless◌, first_failing, Outcome, accepted, refused_value, first_checks}
use Rattle.rules.specs.Instructions.{cell_at, covered, valid, place, with_memory}
use Rattle.rules.specs.Blocks.{within_cell, block_needs, block_written, part_viewed}
use Rattle.rules.specs.Calls.{Action, block_write, read_view, block_checks, checks, done, performed}
use Rattle.rules.proofs.Below.{by_test}
use Rattle.rules.proofs.Checks.{accept_all, first_has, value_zero, answer_refused, answer_done}
use Rattle.rules.proofs.Laws.{accepted_done, refusal_same}
use Rattle.rules.proofs.Performing.{first_part, second_part}
use Rattle.rules.proofs.Kept.{begun, covering, block_inside}
use Rattle.monitor.specs.Leaves.{Located, LocatedAt, Refused, located_by, located_in, call_checks, placed_in}
use Rattle.monitor.proofs.Searching.{FoundAt}
use Rattle.monitor.specs.Answers.{view_place_in}
use Rattle.monitor.specs.Ready.{checks_answer, first_answer}
use Rattle.rules.specs.declared.Refusal.{Refusal}
use Rattle.rules.specs.declared.Refusal.TheVariants.{NotCovered}
use Rattle.rules.proofs.Refusing.{some_number, no_value}
use Rattle.monitor.proofs.Beginning.{refused_by, first_hold}

-- ---- a block within its cell

-- more bytes than there are addresses run past it
pub beyond_cell : (last x n : ℕ) → last < 4294967296 → 4294967296 < n → false ≡ within_cell last x n
unfolding within_cell
beyond_cell last x n h k = sym (lt-leb (x + n) (last + 1) (omega arith))

-- ---- a part of the memory

-- lent from p to p + n
abbrev pub lent_part : (memory : List ℕ) (p n : ℕ) → List ℕ
lent_part memory p n = take (p + n - p) (drop p memory)

-- and come back
abbrev pub put_back : (memory : List ℕ) (p n : ℕ) (part : List ℕ) → List ℕ
put_back memory p n part = take p memory ++ (part ++ drop (p + n - p) (drop p memory))

put_back_block : (memory part bytes : List ℕ) (p : ℕ) → part ≡ bytes
    → put_back memory p (length bytes) part ≡ take p memory ++ bytes ++ drop (p + length bytes) memory
put_back_block memory part bytes p e = rw (e, add-sub_cancel_left p (length bytes), drop-drop, append_assoc)

-- ---- the place of a block

-- where a block begins, if all checks hold
abbrev pub block_place : State → (x : ℕ) → ℕ
block_place s x = place s.lent (cell_at s.lent x) x

module _ (ks : List Check) (s : State) (x : ℕ) where
  all_located : first_failing ks ≡ 0 → located_by ks s x ≡ LocatedAt (block_place s x)
  unfolding located_by
  all_located z = rw z

  one_refused : (first_failing ks ≡ 0 → ⊥) → located_by ks s x ≡ Refused (checks_answer ks s)
  unfolding located_by
  one_refused h = rw (ne_eqb _ 0 h)

-- r was answered
module _ (ks : List Check) (s : State) (x : ℕ) (r : Located) (e : r ≡ located_by ks s x) where
  told_at : (p : ℕ) → r ≡ LocatedAt p → (first_failing ks ≡ 0) × (block_place s x ≡ p)
  told_at p f =
      by_test (eqb (first_failing ks) 0)
      (λ t. let z : first_failing ks ≡ 0 = eqb-true _ _ t in
      (z, cc (all_located ks s x z)))
      (λ t. let z : ◌≡◌ {A = ℕ} 0 1 = cc (one_refused ks s x (eqb-false _ _ t)) in
      absurd (omega arith))

  told_refused : (a : Answer) → r ≡ Refused a → (first_failing ks ≡ 0 → ⊥) × (checks_answer ks s ≡ a)
  told_refused a f =
      by_test (eqb (first_failing ks) 0)
      (λ t. let z : ◌≡◌ {A = ℕ} 0 1 = cc (all_located ks s x (eqb-true _ _ t)) in
      absurd (omega arith))
      (λ t. let l : first_failing ks ≡ 0 → ⊥ = eqb-false _ _ t in
      (l, cc (one_refused ks s x l)))

-- ---- by the checks on a block from 6 on

module _ (right : ℕ) (s : State) (x n : ℕ) where
  -- their refusals are above 2, and so have value 0
  block_large : (first_failing (block_checks right s x n) ≡ 0 → ⊥) → 3 ≤ first_failing (block_checks right s x n)
  unfolding block_needs
  block_large h = first_has (λ k. 3 ≤ k) (block_checks right s x n) (omega arith, (omega arith, (omega arith, (omega arith, tt)))) h

  block_no_value : (first_failing (block_checks right s x n) ≡ 0 → ⊥) → refused_value s.lent (first_failing (block_checks right s x n)) ≡ 0
  block_no_value h = value_zero s.lent _ (block_large h)

  pub located_nowhere : covered s.lent x ≡ false → Refused (refused_with NotCovered) ≡ located_in right s x n
  unfolding located_by first_failing
  located_nowhere e = rw e

-- c is the covering cell, and the judge answered k of the block there
pub record Judged (right : ℕ) (s : State) (x n c k : ℕ) : Type 0 where
  pub found : FoundAt s.lent x c
  pub answer : k ≡ first_failing (block_needs right s.lent s.registers.current c x n)

-- it was told whether the block is within the cell, and the rights that are held there
pub judged : (right : ℕ) (s : State) (x n c k rights : ℕ) (within : Bool) → FoundAt s.lent x c
    → within ≡ within_cell (last_of s.lent c) x n → rights ≡ held s.lent c s.registers.current
    → k ≡ first_failing (not_valid unless eqb (mark_of s.lent c) 1 ∷ not_whole unless within ∷ right_missing unless part_of right rights ∷ [])
    → Judged right s x n c k
unfolding block_needs valid
judged right s x n c k rights within f w h e = record { found = f; answer = rw (← w, ← h) e }

module _ {right : ℕ} {s : State} {x n c k : ℕ} (j : Judged right s x n c k) where
  judge_decides : k ≡ first_failing (block_checks right s x n)
  unfolding first_failing
  judge_decides = rw (j.found.covers, j.found.same) j.answer

  pub located_at : (p : ℕ) → k ≡ 0 → p ≡ place s.lent c x → LocatedAt p ≡ located_in right s x n
  located_at p z e = rw (all_located (block_checks right s x n) s x (sym judge_decides ∙ z), j.found.same, e)

  pub located_refused : (f : Refusal) → k ≡ number_of f → Refused (refused_with f) ≡ located_in right s x n
  located_refused f e =
      let l : first_failing (block_checks right s x n) ≡ 0 → ⊥ = λ z. some_number f (sym e ∙ judge_decides ∙ z) in
      let large : 3 ≤ first_failing (block_checks right s x n) = block_large right s x n l in
      rw (one_refused (block_checks right s x n) s x l, block_no_value right s x n l, ← judge_decides, e, no_value f (λ t. omega (arith, large, judge_decides, e, t)))

-- ---- by all checks on it

-- a is what checks 1, 2 and 3 answered
module _ (right : ℕ) (s : State) (x n : ℕ) (a : Answer) (e : a ≡ first_answer s) where
  pub placed_after : (r : Located) → a.number ≡ 0 → r ≡ located_in right s x n → r ≡ placed_in right s x n
  unfolding located_by
  placed_after r z f = rw (second_part (first_checks s) (block_checks right s x n) (first_hold s a e z)) f

  pub placed_refused : (a.number ≡ 0 → ⊥) → Refused a ≡ placed_in right s x n
  unfolding located_by first_answer
  placed_refused h =
      rw (first_part (first_checks s) (block_checks right s x n) a.number (ap (λ (b : Answer). b.number) e) h, ne_eqb a.number 0 h, e)

-- every check holds, p is the block's place, and it lies in the memory
pub record BlockAt (right : ℕ) (s : State) (x n p : ℕ) : Type 0 where
  pub accepts : first_failing (call_checks right s x n) ≡ 0
  pub at : block_place s x ≡ p
  pub inside : p + n ≤ L s.lent
  pub few : L s.lent ≤ 65536

-- a place p was answered
pub block_at : (right : ℕ) (s : State) (x n : ℕ) (r : Located) → r ≡ placed_in right s x n → (p : ℕ) → r ≡ LocatedAt p
    → BlockAt right s x n p
unfolding block_needs
block_at right s x n r e p f =
    let q = told_at (call_checks right s x n) s x r e p f in
    let all =
    accept_all (call_checks right s x n)
    (omega arith, (omega arith, (omega arith, (omega arith, (omega arith, (omega arith, (omega arith, tt))))))) q.0 in
    let b = begun s (block_checks right s x n) all in
    let v = covering s.lent x all.1.1.1.0 in
    let within = block_inside s.lent (cell_at s.lent x) x n (b.sound _ v.cell) v all.1.1.1.1.1.0 in
    record { accepts = q.0; at = q.1; inside = rw q.1 at within; few = b.sizes.within.bytes }

-- ---- what a block write and a read view answer

-- the checks of the call a are those
module _ (right : ℕ) (s : State) (x n : ℕ) (a : Action) (own : checks s a ≡ call_checks right s x n) where
  block_refuse : (r : Located) (b : Answer) → r ≡ placed_in right s x n → r ≡ Refused b → refused_by s b ≡ performed s a
  unfolding performed
  block_refuse r b e f =
      let q = told_refused (call_checks right s x n) s x r e b f in
      rw (own, answer_refused s (call_checks right s x n) (done s a) q.0) (ap (refused_by s) (sym q.1))

  block_done : {p : ℕ} → BlockAt right s x n p → performed s a ≡ done s a
  unfolding performed
  block_done b = rw own (answer_done s (call_checks right s x n) (done s a) b.accepts)

-- a was answered
pub write_refuse : (s : State) (x : ℕ) (bytes : List ℕ) (r : Located) (a : Answer) → r ≡ placed_in write s x (length bytes) → r ≡ Refused a
    → refused_by s a ≡ performed s (block_write x bytes)
unfolding checks
write_refuse s x bytes = block_refuse write s x (length bytes) (block_write x bytes) refl

pub view_refuse : (s : State) (x n : ℕ) (r : Located) (a : Answer) → r ≡ placed_in read s x n → r ≡ Refused a
    → refused_by s a ≡ performed s (read_view x n)
unfolding checks
view_refuse s x n = block_refuse read s x n (read_view x n) refl

-- the part from p on was lent, filled, and came back
pub block_write_done : (s : State) (x p : ℕ) (part bytes : List ℕ) → part ≡ bytes → BlockAt write s x (length bytes) p
    → accepted 0 [] (state (with_memory s.lent (put_back s.lent.memory p (length bytes) part)) s.registers)
    ≡ performed s (block_write x bytes)
unfolding checks done block_written
block_write_done s x p part bytes e b =
    rw (block_done write s x (length bytes) (block_write x bytes) refl b, b.at, put_back_block s.lent.memory part bytes p e)

-- the part from p to p + n is handed on
pub read_view_done : {s : State} {x n p : ℕ} → BlockAt read s x n p
    → accepted 0 (lent_part s.lent.memory p n) s ≡ performed s (read_view x n)
unfolding checks done part_viewed
read_view_done {s} {x} {n} {p} b = rw (block_done read s x n (read_view x n) refl b, b.at, add-sub_cancel_left p n)

-- ---- the place of a view

-- a was answered
pub viewed_refused : (s : State) (x n : ℕ) (r : Located) (a : Answer) → r ≡ placed_in read s x n → r ≡ Refused a
    → record { number = a.number; value = a.value; start = 0; count = 0 } ≡ view_place_in s x n
unfolding view_place_in
viewed_refused s x n r a e f =
    let q = told_refused (call_checks read s x n) s x r e a f in
    let h : a.number ≡ 0 → ⊥ = λ z. q.0 (ap (λ (b : Answer). b.number) q.1 ∙ z) in
    rw (← view_refuse s x n r a e f, ne_eqb a.number 0 h)

-- a place p was answered
pub viewed_at : {s : State} {x n p : ℕ} → BlockAt read s x n p → record { number = 0; value = 0; start = p; count = n } ≡ view_place_in s x n
unfolding view_place_in
viewed_at {s} {x} {n} {p} b = rw (← read_view_done b, b.at)

-- what lies there is what a view hands back
pub viewed_part : (s : State) (x n : ℕ)
    → take (view_place_in s x n).count (drop (view_place_in s x n).start s.lent.memory) ≡ (performed s (read_view x n)).part
unfolding view_place_in done part_viewed
viewed_part s x n =
    by_test (eqb (performed s (read_view x n)).number 0)
    (λ e. rw e (sym (ap (λ (o : Outcome). o.part) (accepted_done s (read_view x n) (eqb-true _ _ e)))))
    (λ e. rw e (sym (ap (λ (o : Outcome). o.part) (refusal_same s (read_view x n) (eqb-false _ _ e)))))
