-- What four numbers are: a kind with its operands in their ranges, or refusal 4 or 5. Shown once over the table.
-- Assumes nothing.
use Prim.Native.Nat.{ℕ, zero, suc, ◌≤◌, ◌<◌}
use mathlib.Core.Path.{◌≡◌, refl, ap}
use mathlib.Core.Logic.{◌⊎◌, inl, inr}
use mathlib.Core.Bool.{Bool, true, false}
use mathlib.Core.List.{List, [], ◌∷◌}
use native.Mathlib.Omega.{arith}
use lib.ListN.{get_or}
use Rattle.rules.specs.Refusals.{no_such_instruction, bad_operand}
use Rattle.rules.specs.Instructions.{Kind, Refused, no_operands, byte_operand, division_operand, rights_operand, grant_operands, source_operand, Formed, well_formed, ill_formed, ranged, instruction_table, formed, beside}
use Rattle.rules.specs.declared.Placed.{Placed}
use Rattle.rules.specs.declared.Instruction.{Instruction}
use Rattle.rules.specs.declared.Instruction.TheVariants.{Load, Store, Fetch, Switch, Protect, Grant, Receive, Transfer, Invalidate, Revalidate, Exclusive}
use Rattle.rules.proofs.Checks.{Each}
use Rattle.rules.proofs.Operands.{Other, byte_small, rights_small, division_below, grant_other, grant_some, grant_small, source_other}

pub each_get_or {ℓ} : {A : Type 0} (P : A → Type ℓ) (l : List A) (n : ℕ) (a : A) → Each P l → P a → P (get_or l n a)
each_get_or P [] n a e h = h
each_get_or P (x ∷ l) zero a e h = e.0
each_get_or P (x ∷ l) (suc n) a e h = each_get_or P l n a e.1 h

-- the operands of a grant or a transfer
pub record Offer (m d y z : ℕ) : Type 0 where
  pub other : Other m d y
  pub some : 1 ≤ z
  pub small : z ≤ 7

abbrev pub InRange : (m d : ℕ) → Instruction → Type 0
InRange m d (Load x) = Unit
InRange m d (Store x y) = y ≤ 255
InRange m d (Fetch x) = Unit
InRange m d (Switch x y) = y < m
InRange m d (Protect x y) = y ≤ 7
InRange m d (Grant x y z) = Offer m d y z
InRange m d (Receive x y) = Other m d y
InRange m d (Transfer x y z) = Offer m d y z
InRange m d (Invalidate x) = Unit
InRange m d (Revalidate x) = Unit
InRange m d (Exclusive x) = Unit

-- a kind in its ranges, or one of the two refusals
abbrev pub Sensible : (m d : ℕ) → Formed → Type 0
Sensible m d (well_formed i) = InRange m d i
Sensible m d (ill_formed n) = (n ≡ no_such_instruction) ⊎ (n ≡ bad_operand)

ranged_sensible : (m d : ℕ) (ok : Bool) (i : Instruction) → (ok ≡ true → InRange m d i) → Sensible m d (ranged ok i)
ranged_sensible m d true i h = h refl
ranged_sensible m d false i h = inr refl

offer : (m d y z : ℕ) → grant_operands m d y z ≡ true → Offer m d y z
offer m d y z e = record { other = grant_other m d y z e; some = grant_some m d y z e; small = grant_small m d y z e }

table_sensible : (m d x y z : ℕ) → Each (Sensible m d) (instruction_table m d x y z)
table_sensible m d x y z = (
  ranged_sensible m d (no_operands y z) (Load x) (λ e. tt),
  (
    ranged_sensible m d (byte_operand y z) (Store x y) (byte_small y z),
    (
      ranged_sensible m d (no_operands y z) (Fetch x) (λ e. tt),
      (
        ranged_sensible m d (division_operand m y z) (Switch x y) (division_below m y z),
        (
          ranged_sensible m d (rights_operand y z) (Protect x y) (rights_small y z),
          (
            ranged_sensible m d (grant_operands m d y z) (Grant x y z) (offer m d y z),
            (
              ranged_sensible m d (source_operand m d y z) (Receive x y) (source_other m d y z),
              (
                ranged_sensible m d (grant_operands m d y z) (Transfer x y z) (offer m d y z),
                (
                  ranged_sensible m d (no_operands y z) (Invalidate x) (λ e. tt),
                  (
                    ranged_sensible m d (no_operands y z) (Revalidate x) (λ e. tt),
                    (
                      ranged_sensible m d (no_operands y z) (Exclusive x) (λ e. tt),
                      tt,
                    ),
                  ),
                ),
              ),
            ),
          ),
        ),
      ),
    ),
  ),
)

pub formed_sensible : (m d number x y z : ℕ) → Sensible m d (formed m d number x y z)
unfolding formed
formed_sensible m d number x y z =
    each_get_or (Sensible m d) (instruction_table m d x y z) number (ill_formed no_such_instruction) (table_sensible m d x y z) (inl refl)

-- ---- kept beside a position

-- a kind that was decoded is the well-formed instruction, beside that position
pub kind_formed : (position : ℕ) (f : Formed) (p : Placed) → beside position f ≡ Kind p
    → (f ≡ well_formed p.instruction) × (position ≡ p.position)
kind_formed position (well_formed i) p e =
    let q : record { position = position; instruction = i } ≡ p = cc e in
    (ap (λ (r : Placed). well_formed r.instruction) q, ap (λ (r : Placed). r.position) q)
kind_formed position (ill_formed n) p e =
    let z : ◌≡◌ {A = ℕ} 0 1 = cc e in
    absurd (omega arith)

-- and a refusal is that of numbers that are no instruction
pub refused_formed : (position : ℕ) (f : Formed) (n : ℕ) → beside position f ≡ Refused n → f ≡ ill_formed n
refused_formed position (well_formed i) n e =
    let z : ◌≡◌ {A = ℕ} 0 1 = cc e in
    absurd (omega arith)
refused_formed position (ill_formed k) n e =
    let q : k ≡ n = cc e in
    ap ill_formed q
