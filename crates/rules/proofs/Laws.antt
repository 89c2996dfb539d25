-- The first laws of the rules: each one theorem over any state and any call. Assumes nothing.
use Prim.Native.Nat.{ℕ, zero, suc, ◌+◌, ◌≤◌, ◌<◌}
use mathlib.Core.Path.{◌≡◌, refl, sym, ap, ◌∙◌, subst}
use mathlib.Core.Logic.{◌↔◌}
use mathlib.Core.List.{List, [], ◌∷◌, ◌++◌}
use mathlib.Core.Bool.{Bool, true, false, ◌&&◌}
use lib.ListN.{length}
use lib.Dec.{ltb, eqb}
use borrow.Author.Tests.{eqb-false, lt-ltb}
use Rattle.rules.specs.Numbers.{State, L, read, write, switched}
use Rattle.rules.specs.Sound.{sound_tables}
use Rattle.rules.specs.Refusals.{first_failing, Outcome, refused, first_checks, well_sized, known_divisions}
use Rattle.rules.specs.Instructions.{Formed, well_formed, ill_formed, ranged, formed, place, registers_after, cell_at, address_of, no_operands, byte_operand, rights_operand, grant_operands, source_operand}
use Rattle.rules.specs.Blocks.{block_needs}
use Rattle.rules.specs.Calls.{Action, instruction, block_write, read_view, formed_in, kind_checks, done_at, instruction_checks, instruction_done, block_checks, checks, done, performed, after_all}
use Rattle.rules.specs.declared.Registers.{Registers}
use Rattle.rules.specs.declared.Instruction.{Instruction}
use Rattle.rules.specs.declared.Instruction.TheVariants.{Load, Store, Fetch, Switch, Protect, Grant, Receive, Transfer, Invalidate, Revalidate, Exclusive}
use Rattle.rules.proofs.Below.{and_left, and_both}
use Rattle.rules.proofs.Checks.{AllHold, FirstToFail, all_accept, accept_all, first_fails, answer_case, answer_number, answer_refused, answer_done}
use Rattle.rules.proofs.Decoding.{Sensible, InRange, formed_sensible}
use Rattle.rules.proofs.Order.{Ordered, checks_ordered, checks_numbered}
use Rattle.rules.proofs.SoundCells.{AllSound, sound_all}
use Rattle.rules.proofs.Kept.{SameShape, shape_same, shape_sized, effect_shape, Begun, begun, first_holds, covering, block_inside, effect_sound, block_shape, block_sound}

-- ---- number, value, and what a refusal changes

formed_number : (s : State) (e : Formed) → (instruction_done s e).number ≡ 0
unfolding done_at
formed_number s (well_formed i) = refl
formed_number s (ill_formed n) = refl

done_number : (s : State) (a : Action) → (done s a).number ≡ 0
unfolding done
done_number s (instruction number x y z) = formed_number s (formed_in s number x y z)
done_number s (block_write x bytes) = refl
done_number s (read_view x n) = refl

-- the number is that of the first failing check, 0 where none fails
pub number_first : (s : State) (a : Action) → (performed s a).number ≡ first_failing (checks s a)
unfolding performed
number_first s a = answer_number s (checks s a) (done s a) (done_number s a)

-- a refusal changes nothing, and has the value that the list says
pub refusal_same : (s : State) (a : Action) → ((performed s a).number ≡ 0 → ⊥) → performed s a ≡ refused s (performed s a).number
unfolding performed
refusal_same s a h =
    answer_refused s (checks s a) (done s a) (λ e. h (number_first s a ∙ e))
    ∙ ap (λ (n : ℕ). refused s n) (sym (number_first s a))

-- accepted exactly when all checks hold
pub accepted_exactly : (s : State) (a : Action) → ((performed s a).number ≡ 0) ↔ AllHold (checks s a)
accepted_exactly s a = (
  λ e. accept_all (checks s a) (checks_numbered s a) (sym (number_first s a) ∙ e),
  λ h. number_first s a ∙ all_accept (checks s a) h,
)

-- a refusal's number is that of a check that fails, and all checks before it hold
pub refusal_first : (s : State) (a : Action) → ((performed s a).number ≡ 0 → ⊥) → FirstToFail (checks s a) (performed s a).number
refusal_first s a h =
    subst (FirstToFail (checks s a)) (sym (number_first s a)) (first_fails (checks s a) (λ e. h (number_first s a ∙ e)))

-- an accepted call does what it does
pub accepted_done : (s : State) (a : Action) → (performed s a).number ≡ 0 → performed s a ≡ done s a
unfolding performed
accepted_done s a z = answer_done s (checks s a) (done s a) (sym (number_first s a) ∙ z)

-- the checks stand in the refusal list's order
pub checks_in_order : (s : State) (a : Action) → Ordered (checks s a)
checks_in_order = checks_ordered

-- a property of every call's outcome: of a refusal, and of what is done once all checks hold
pub by_outcome {ℓ} : (P : Outcome → Type ℓ) (s : State) (a : Action) → ((n : ℕ) → (n ≡ 0 → ⊥) → P (refused s n)) → (AllHold (checks s a) → P (done s a)) → P (performed s a)
unfolding performed
by_outcome P s a f g = answer_case P s (checks s a) (done s a) (checks_numbered s a) f g

-- ---- lengths

formed_shape : (s : State) (e : Formed) → SameShape s.lent (instruction_done s e).after.lent
unfolding done_at
formed_shape s (well_formed i) = effect_shape s.lent s.registers.current (cell_at s.lent (address_of i)) i
formed_shape s (ill_formed n) = shape_same s.lent

-- what an accepted block write's checks say of the block
block_fits : (s : State) (x : ℕ) (bytes : List ℕ) → AllHold (checks s (block_write x bytes))
    → place s.lent (cell_at s.lent x) x + length bytes ≤ L s.lent
unfolding checks block_needs
block_fits s x bytes a =
    let b = begun s (block_checks write s x (length bytes)) a in
    let r = a.1.1.1 in
    let v = covering s.lent x r.0 in
    block_inside s.lent (cell_at s.lent x) x (length bytes) (b.sound _ v.cell) v r.1.1.0

done_shape : (s : State) (a : Action) → AllHold (checks s a) → SameShape s.lent (done s a).after.lent
unfolding done
done_shape s (instruction number x y z) h = formed_shape s (formed_in s number x y z)
done_shape s (block_write x bytes) h = block_shape s.lent (cell_at s.lent x) x bytes (block_fits s x bytes h)
done_shape s (read_view x n) h = shape_same s.lent

-- M, first, last and offset stay, and every list keeps its length
pub shape_kept : (s : State) (a : Action) → SameShape s.lent (performed s a).after.lent
shape_kept s a = by_outcome (λ o. SameShape s.lent o.after.lent) s a (λ n k. shape_same s.lent) (done_shape s a)

pub sizes_kept : (s : State) (a : Action) → well_sized (performed s a).after.lent ≡ well_sized s.lent
sizes_kept s a = shape_sized s.lent (performed s a).after.lent (shape_kept s a)

-- ---- soundness

formed_sound : (s : State) (e : Formed) → Sensible s.lent.M s.registers.current e
    → AllHold (first_checks s ++ instruction_checks s e) → AllSound (instruction_done s e).after.lent
unfolding done_at kind_checks
formed_sound s (well_formed i) h a =
    let b = begun s (kind_checks s i) a in
    effect_sound s.lent s.registers.current (cell_at s.lent (address_of i)) i
    b.sizes.within.divisions b.sound b.current h a.1.1.1.1
formed_sound s (ill_formed n) h a = (begun s (instruction_checks s (ill_formed n)) a).sound

done_sound : (s : State) (a : Action) → AllHold (checks s a) → AllSound (done s a).after.lent
unfolding done checks
done_sound s (instruction number x y z) h =
    formed_sound s (formed_in s number x y z) (formed_sensible s.lent.M s.registers.current number x y z) h
done_sound s (block_write x bytes) h =
    block_sound s.lent (cell_at s.lent x) x bytes (block_fits s x bytes h)
    (begun s (block_checks write s x (length bytes)) h).sound
done_sound s (read_view x n) h = (begun s (block_checks read s x n) h).sound

-- sound tables stay sound
pub sound_kept : (s : State) (a : Action) → sound_tables s.lent ≡ true → sound_tables (performed s a).after.lent ≡ true
sound_kept s a e =
    by_outcome (λ o. sound_tables o.after.lent ≡ true) s a (λ n k. e) (λ h. sound_all (done s a).after.lent (done_sound s a h))

-- ---- registers

-- the registers after an instruction: as before, or after a switch
registers_case : (P : Registers → Type 0) (m d : ℕ) (r : Registers) (i : Instruction) → InRange m d i → P r
    → ((x y : ℕ) → y < m → P (switched r y x)) → P (registers_after r i)
unfolding registers_after
registers_case P m d r (Load x) h a f = a
registers_case P m d r (Store x y) h a f = a
registers_case P m d r (Fetch x) h a f = a
registers_case P m d r (Switch x y) h a f = f x y h
registers_case P m d r (Protect x y) h a f = a
registers_case P m d r (Grant x y z) h a f = a
registers_case P m d r (Receive x y) h a f = a
registers_case P m d r (Transfer x y z) h a f = a
registers_case P m d r (Invalidate x) h a f = a
registers_case P m d r (Revalidate x) h a f = a
registers_case P m d r (Exclusive x) h a f = a

-- current and caller division are below m
abbrev Below : ℕ → Registers → Type 0
Below m r = ltb r.current m && ltb r.caller m ≡ true

formed_known : (s : State) (e : Formed) → Sensible s.lent.M s.registers.current e → Below s.lent.M s.registers
    → Below s.lent.M (instruction_done s e).after.registers
unfolding done_at
formed_known s (well_formed i) h b =
    registers_case (Below s.lent.M) s.lent.M s.registers.current s.registers i h b
    (λ x y l. and_both _ _ (lt-ltb y s.lent.M l) (and_left (ltb s.registers.current s.lent.M) _ b))
formed_known s (ill_formed n) h b = b

done_known : (s : State) (a : Action) → Below s.lent.M s.registers → Below s.lent.M (done s a).after.registers
unfolding done
done_known s (instruction number x y z) b =
    formed_known s (formed_in s number x y z) (formed_sensible s.lent.M s.registers.current number x y z) b
done_known s (block_write x bytes) b = b
done_known s (read_view x n) b = b

-- current and caller stay below M
pub known_kept : (s : State) (a : Action) → known_divisions s ≡ true → known_divisions (performed s a).after ≡ true
unfolding known_divisions
known_kept s a e =
    rw (shape_kept s a).divisions
    (by_outcome (λ o. Below s.lent.M o.after.registers) s a (λ n k. e) (λ h. done_known s a e))

-- whether four numbers may be a switch
abbrev pub is_switch : Action → Bool
is_switch (instruction number x y z) = eqb number 3
is_switch (block_write x bytes) = false
is_switch (read_view x n) = false

-- what the numbers are leaves the registers alone
abbrev Steady : Formed → Type 0
Steady (well_formed i) = (r : Registers) → registers_after r i ≡ r
Steady (ill_formed n) = Unit

ranged_steady : (ok : Bool) (i : Instruction) → ((r : Registers) → registers_after r i ≡ r) → Steady (ranged ok i)
ranged_steady true i h = h
ranged_steady false i h = tt

formed_steady : (m d number x y z : ℕ) → (number ≡ 3 → ⊥) → Steady (formed m d number x y z)
unfolding formed registers_after
formed_steady m d zero x y z h = ranged_steady (no_operands y z) (Load x) (λ r. refl)
formed_steady m d (suc zero) x y z h = ranged_steady (byte_operand y z) (Store x y) (λ r. refl)
formed_steady m d (suc (suc zero)) x y z h = ranged_steady (no_operands y z) (Fetch x) (λ r. refl)
formed_steady m d (suc (suc (suc zero))) x y z h = absurd (h refl)
formed_steady m d (suc (suc (suc (suc zero)))) x y z h = ranged_steady (rights_operand y z) (Protect x y) (λ r. refl)
formed_steady m d (suc (suc (suc (suc (suc zero))))) x y z h = ranged_steady (grant_operands m d y z) (Grant x y z) (λ r. refl)
formed_steady m d (suc (suc (suc (suc (suc (suc zero)))))) x y z h = ranged_steady (source_operand m d y z) (Receive x y) (λ r. refl)
formed_steady m d (suc (suc (suc (suc (suc (suc (suc zero))))))) x y z h = ranged_steady (grant_operands m d y z) (Transfer x y z) (λ r. refl)
formed_steady m d (suc (suc (suc (suc (suc (suc (suc (suc zero)))))))) x y z h = ranged_steady (no_operands y z) (Invalidate x) (λ r. refl)
formed_steady m d (suc (suc (suc (suc (suc (suc (suc (suc (suc zero))))))))) x y z h = ranged_steady (no_operands y z) (Revalidate x) (λ r. refl)
formed_steady m d (suc (suc (suc (suc (suc (suc (suc (suc (suc (suc zero)))))))))) x y z h = ranged_steady (no_operands y z) (Exclusive x) (λ r. refl)
formed_steady m d (suc (suc (suc (suc (suc (suc (suc (suc (suc (suc (suc n))))))))))) x y z h = tt

steady_same : (s : State) (e : Formed) → Steady e → (instruction_done s e).after.registers ≡ s.registers
unfolding done_at
steady_same s (well_formed i) h = h s.registers
steady_same s (ill_formed n) h = refl

done_registers : (s : State) (a : Action) → is_switch a ≡ false → (done s a).after.registers ≡ s.registers
unfolding done
done_registers s (instruction number x y z) e =
    steady_same s (formed_in s number x y z)
    (formed_steady s.lent.M s.registers.current number x y z (eqb-false number 3 e))
done_registers s (block_write x bytes) e = refl
done_registers s (read_view x n) e = refl

-- only a switch alters the registers
pub only_switch : (s : State) (a : Action) → is_switch a ≡ false → (performed s a).after.registers ≡ s.registers
only_switch s a e = by_outcome (λ o. o.after.registers ≡ s.registers) s a (λ n k. refl) (λ h. done_registers s a e)

-- ---- checks 1, 2 and 3 go on holding

pub begun_kept : (s : State) (a : Action) → Begun s → Begun (performed s a).after
begun_kept s a b =
    let h = first_holds s b in
    begun (performed s a).after [] (sizes_kept s a ∙ h.0, (sound_kept s a h.1.0, (known_kept s a h.1.1.0, tt)))

-- ---- any sequence of calls

pub sizes_throughout : (s : State) (calls : List Action) → well_sized (after_all s calls).lent ≡ well_sized s.lent
unfolding after_all
sizes_throughout s [] = refl
sizes_throughout s (a ∷ rest) = sizes_throughout (performed s a).after rest ∙ sizes_kept s a

pub sound_throughout : (s : State) (calls : List Action) → sound_tables s.lent ≡ true → sound_tables (after_all s calls).lent ≡ true
unfolding after_all
sound_throughout s [] e = e
sound_throughout s (a ∷ rest) e = sound_throughout (performed s a).after rest (sound_kept s a e)

pub known_throughout : (s : State) (calls : List Action) → known_divisions s ≡ true → known_divisions (after_all s calls) ≡ true
unfolding after_all
known_throughout s [] e = e
known_throughout s (a ∷ rest) e = known_throughout (performed s a).after rest (known_kept s a e)

-- ---- two outcomes

-- two outcomes that equal one definition are equal
pub one_outcome {ℓ} : {A : Type ℓ} {x o p : A} → o ≡ x → p ≡ x → o ≡ p
one_outcome e f = e ∙ sym f
