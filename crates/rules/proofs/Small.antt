-- Rights stay 0 to 7 and bytes 0 to 255 under every instruction, in sound tables or not; and what an instruction answers fits in
-- 32 bits. Assumes nothing.
use Prim.Native.Nat.{ℕ, ◌+◌, ◌≤◌, ◌<◌}
use mathlib.Core.Path.{◌∙◌}
use mathlib.Core.List.{◌++◌}
use mathlib.Core.Bool.{not}
use native.Mathlib.Omega.{arith}
use lib.ListN.{get_or, set}
use lib.Dec.{eqb}
use borrow.Author.Tests.{eqb-true, eqb-false}
use Rattle.rules.specs.Numbers.{Tables, State, N, entry, held, grant_of, rights_in, join}
use Rattle.rules.specs.Sound.{sound_cell, lowest_unsound}
use Rattle.rules.specs.Refusals.{unsound, refused_value, first_checks}
use Rattle.rules.specs.Instructions.{Formed, well_formed, ill_formed, cell_at, address_of, place, word_in, nobody_else, effect, rights_after, value_of}
use Rattle.rules.specs.Calls.{Action, instruction, formed_in, kind_checks, instruction_checks, instruction_done, done_at, checks, done, performed}
use Rattle.rules.specs.declared.Instruction.{Instruction}
use Rattle.rules.specs.declared.Instruction.TheVariants.{Load, Store, Fetch, Switch, Protect, Grant, Receive, Transfer, Invalidate, Revalidate, Exclusive}
use Rattle.rules.proofs.Below.{by_test, lowest_le}
use Rattle.rules.proofs.Rights.{join_le}
use Rattle.rules.proofs.Checks.{AllHold, first_has}
use Rattle.rules.proofs.Decoding.{InRange, Sensible, formed_sensible}
use Rattle.rules.proofs.Order.{checks_small}
use Rattle.rules.proofs.Sizes.{after_put}
use Rattle.rules.proofs.Kept.{begun}
use Rattle.rules.proofs.Laws.{number_first, by_outcome}

-- every entry of the rights is 0 to 7, every byte 0 to 255
pub record Small (t : Tables) : Type 0 where
  pub rights : (e : ℕ) → get_or t.rights e 0 ≤ 7
  pub bytes : (p : ℕ) → get_or t.memory p 0 ≤ 255

-- ---- what an instruction leaves

module _ (t : Tables) (h : Small t) (i v : ℕ) where
  right_put : v ≤ 7 → (e : ℕ) → get_or (set t.rights i v) e 0 ≤ 7
  right_put k e = after_put (λ (v : ℕ). v ≤ 7) t.rights i e v (λ _. k) (h.rights e)

  byte_put : v ≤ 255 → (p : ℕ) → get_or (set t.memory i v) p 0 ≤ 255
  byte_put k p = after_put (λ (v : ℕ). v ≤ 255) t.memory i p v (λ _. k) (h.bytes p)

effect_small : (t : Tables) (d c : ℕ) (i : Instruction) → InRange t.M d i → Small t → Small (effect t d c i)
unfolding effect
effect_small t d c (Load x) r h = h
effect_small t d c (Store x y) r h = record { rights = h.rights; bytes = byte_put t h (place t c x) y r }
effect_small t d c (Fetch x) r h = h
effect_small t d c (Switch x y) r h = h
effect_small t d c (Protect x y) r h = record { rights = right_put t h (entry t c d) y r; bytes = h.bytes }
effect_small t d c (Grant x y z) r h = record { rights = h.rights; bytes = h.bytes }
effect_small t d c (Receive x y) r h =
    let p = rights_in (grant_of t c y) in
    record { rights = right_put t h (entry t c d) (join (held t c d) p) (join_le (held t c d) p); bytes = h.bytes }
effect_small t d c (Transfer x y z) r h = record { rights = right_put t h (entry t c d) 0 (omega arith); bytes = h.bytes }
effect_small t d c (Invalidate x) r h = record { rights = h.rights; bytes = h.bytes }
effect_small t d c (Revalidate x) r h = record { rights = h.rights; bytes = h.bytes }
effect_small t d c (Exclusive x) r h = h

formed_small : (s : State) (f : Formed) → Sensible s.lent.M s.registers.current f → Small s.lent
    → Small (instruction_done s f).after.lent
unfolding done_at
formed_small s (well_formed i) r h = effect_small s.lent s.registers.current (cell_at s.lent (address_of i)) i r h
formed_small s (ill_formed n) r h = h

pub small_kept : (s : State) (number x y z : ℕ) → Small s.lent → Small (performed s (instruction number x y z)).after.lent
unfolding done
small_kept s number x y z h =
    by_outcome (λ o. Small o.after.lent) s (instruction number x y z) (λ n k. h)
    (λ a.
    formed_small s (formed_in s number x y z) (formed_sensible s.lent.M s.registers.current number x y z) h)

-- ---- what it answers

-- the number is at most 13
pub number_most : (s : State) (a : Action) → (performed s a).number ≤ 13
number_most s a =
    by_test (eqb (performed s a).number 0)
    (λ e. omega (arith, eqb-true (performed s a).number 0 e))
    (λ e.
    rw (number_first s a)
    (first_has (λ n. n ≤ 13) (checks s a) (checks_small s a) (λ q. eqb-false (performed s a).number 0 e (number_first s a ∙ q))))

-- a refusal's value is a cell's number, or 0
refused_most : (t : Tables) (n : ℕ) → N t ≤ 256 → refused_value t n ≤ 4294967295
unfolding lowest_unsound
refused_most t n few =
    by_test (eqb n unsound)
    (λ e. rw e (omega (arith, lowest_le (λ c. not (sound_cell t c)) (N t))))
    (λ e. rw e (omega arith))

-- four bytes
word_most : (t : Tables) (p : ℕ) → Small t → word_in t.memory p ≤ 4294967295
unfolding word_in
word_most t p h = omega (arith, h.bytes p, h.bytes (p + 1), h.bytes (p + 2), h.bytes (p + 3))

rights_most : (t : Tables) (d c : ℕ) (i : Instruction) → InRange t.M d i → Small t → rights_after t d c i ≤ 4294967295
rights_most t d c i r h = omega (arith, (effect_small t d c i r h).rights (entry (effect t d c i) c d))

kind_most : (t : Tables) (d c : ℕ) (i : Instruction) → d < t.M → t.M ≤ 32 → InRange t.M d i → Small t → value_of t d c i ≤ 4294967295
unfolding value_of
kind_most t d c (Load x) l m r h = omega (arith, h.bytes (place t c x))
kind_most t d c (Store x y) l m r h = omega arith
kind_most t d c (Fetch x) l m r h = word_most t (place t c x) h
kind_most t d c (Switch x y) l m r h = omega arith
kind_most t d c (Protect x y) l m r h = rights_most t d c (Protect x y) r h
kind_most t d c (Grant x y z) l m r h = rights_most t d c (Grant x y z) r h
kind_most t d c (Receive x y) l m r h = rights_most t d c (Receive x y) r h
kind_most t d c (Transfer x y z) l m r h = rights_most t d c (Transfer x y z) r h
kind_most t d c (Invalidate x) l m r h = rights_most t d c (Invalidate x) r h
kind_most t d c (Revalidate x) l m r h = rights_most t d c (Revalidate x) r h
kind_most t d c (Exclusive x) l m r h = by_test (nobody_else t c d) (λ e. rw e (omega arith)) (λ e. rw e (omega arith))

formed_most : (s : State) (f : Formed) → Sensible s.lent.M s.registers.current f → Small s.lent
    → AllHold (first_checks s ++ instruction_checks s f) → (instruction_done s f).value ≤ 4294967295
unfolding done_at
formed_most s (well_formed i) r h a =
    let b = begun s (kind_checks s i) a in
    kind_most s.lent s.registers.current (cell_at s.lent (address_of i)) i b.current b.sizes.within.divisions r h
formed_most s (ill_formed n) r h a = omega arith

-- the value is at most 4,294,967,295
pub value_most : (s : State) (number x y z : ℕ) → N s.lent ≤ 256 → Small s.lent
    → (performed s (instruction number x y z)).value ≤ 4294967295
unfolding checks done
value_most s number x y z few h =
    by_outcome (λ o. o.value ≤ 4294967295) s (instruction number x y z) (λ n k. refused_most s.lent n few)
    (λ a.
    formed_most s (formed_in s number x y z) (formed_sensible s.lent.M s.registers.current number x y z) h a)
