-- Laws of decoding: what an operand's range says, and that an operand in its range is its own low byte. Assumes nothing.
use Prim.Native.Nat.{ℕ, ◌%◌, ◌≤◌, ◌<◌}
use mathlib.Core.Path.{◌≡◌, refl, ap, sym}
use mathlib.Core.Bool.{Bool, true, false, not, ◌&&◌}
use native.Mathlib.Omega.{arith}
use lib.ListN.{get_or-eq_default}
use lib.Dec.{leb, ltb, eqb}
use borrow.Author.Tests.{leb-true, ltb-true, ltb-false, eqb-false, not-true}
use Rattle.rules.specs.Refusals.{no_such_instruction}
use Rattle.rules.specs.Instructions.{Kind, Refused, byte_operand, division_operand, rights_operand, grant_operands, source_operand, ill_formed, ranged, instruction_table, formed, beside, decoded}
use Rattle.rules.specs.declared.Instruction.{Instruction}
use Rattle.rules.proofs.Below.{and_left, and_right}

-- ---- the ranges

pub byte_small : (y z : ℕ) → byte_operand y z ≡ true → y ≤ 255
unfolding byte_operand
byte_small y z e = leb-true y 255 (and_left (leb y 255) _ e)

pub rights_small : (y z : ℕ) → rights_operand y z ≡ true → y ≤ 7
unfolding rights_operand
rights_small y z e = leb-true y 7 (and_left (leb y 7) _ e)

pub division_below : (m y z : ℕ) → division_operand m y z ≡ true → y < m
unfolding division_operand
division_below m y z e = ltb-true y m (and_left (ltb y m) _ e)

-- a target or a source: a division that is not the current one
pub record Other (m d y : ℕ) : Type 0 where
  pub below : y < m
  pub differs : y ≡ d → ⊥

other : (m d y : ℕ) → ltb y m && not (eqb y d) ≡ true → Other m d y
other m d y e =
    record {
      below = ltb-true y m (and_left (ltb y m) _ e);
      differs = eqb-false y d (not-true (eqb y d) (and_right (ltb y m) _ e));
    }

pub grant_other : (m d y z : ℕ) → grant_operands m d y z ≡ true → Other m d y
unfolding grant_operands
grant_other m d y z e = other m d y (and_left (ltb y m && not (eqb y d)) _ (and_left (ltb y m && not (eqb y d) && leb 1 z) _ e))

pub grant_some : (m d y z : ℕ) → grant_operands m d y z ≡ true → 1 ≤ z
unfolding grant_operands
grant_some m d y z e =
    leb-true 1 z (and_right (ltb y m && not (eqb y d)) _ (and_left (ltb y m && not (eqb y d) && leb 1 z) _ e))

pub grant_small : (m d y z : ℕ) → grant_operands m d y z ≡ true → z ≤ 7
unfolding grant_operands
grant_small m d y z e = leb-true z 7 (and_right (ltb y m && not (eqb y d) && leb 1 z) _ e)

pub source_other : (m d y z : ℕ) → source_operand m d y z ≡ true → Other m d y
unfolding source_operand
source_other m d y z e = other m d y (and_left (ltb y m && not (eqb y d)) _ e)

-- ---- in the code's terms

-- an operand that is kept only in its range may be cut to a byte first
pub cut_kept : (position : ℕ) (ok : Bool) (kind : ℕ → Instruction) (y : ℕ) → (ok ≡ true → y ≤ 255)
    → beside position (ranged ok (kind (y % 256))) ≡ beside position (ranged ok (kind y))
cut_kept position true kind y h =
    let e : y % 256 ≡ y = omega (arith, h refl) in
    ap (λ (v : ℕ). Kind (record { position = position; instruction = kind v })) e
cut_kept position false kind y h = refl

pub past_table : (m d position number x y z : ℕ) → 11 ≤ number → Refused no_such_instruction ≡ decoded m d position number x y z
unfolding formed
past_table m d position number x y z h =
    ap (beside position) (sym (get_or-eq_default (instruction_table m d x y z) (ill_formed no_such_instruction) h))

-- a number from k on that is not k
pub above : (k n : ℕ) → k ≤ n → (n ≡ k → ⊥) → k < n
above k n h e = go (ltb k n) refl
  where
    go : (b : Bool) → ltb k n ≡ b → k < n
    go true f = ltb-true k n f
    go false f = absurd (e (omega (arith, ltb-false k n f)))
