-- What the tests before it say to a judge or an effect: the cell, its entries and its bytes are there. Assumes nothing.
use Prim.Native.Nat.{ℕ, suc, ◌+◌, ◌-◌, ◌*◌, ◌%◌, ◌≤◌, ◌<◌}
use mathlib.Core.Path.{◌≡◌, sym, ap, subst, ◌∙◌}
use mathlib.Core.List.{List, []}
use mathlib.Core.Bool.{true}
use native.Mathlib.Omega.{arith}
use lib.ListN.{length}
use lib.Dec.{ltb, eqb}
use borrow.Author.Tests.{leb-true, ltb-true}
use Rattle.rules.specs.Numbers.{Tables, state, N, L, first_of, last_of, offset_of, entry, held}
use Rattle.rules.specs.Sound.{after_cell_before}
use Rattle.rules.specs.Instructions.{address_of, whole_word, other_holder, needs}
use Rattle.rules.specs.Refusals.{Answer, first_failing}
use Rattle.rules.specs.declared.Registers.{Registers}
use Rattle.rules.specs.declared.Instruction.{Instruction}
use Rattle.rules.specs.declared.Instruction.TheVariants.{Switch, Receive}
use Rattle.rules.proofs.Decoding.{InRange}
use Rattle.rules.proofs.Below.{and_left, and_right}
use Rattle.rules.proofs.Sizes.{Sized, row_below, entry_below}
use Rattle.rules.proofs.SoundCells.{SoundCell, AllSound}
use Rattle.rules.proofs.Kept.{Covering}
use Rattle.rules.proofs.Operands.{Other}
use Rattle.monitor.specs.Ready.{Ready, first_answer}
use Rattle.monitor.specs.Leaves.{CellsRise}

-- ---- a cell and its entries

-- the cell c is in every list of cells
pub record CellIn (t : Tables) (c : ℕ) : Type 0 where
  pub firsts : c < length t.first
  pub lasts : c < length t.last
  pub offsets : c < length t.offset
  pub marked : c < length t.marks

module _ (t : Tables) (z : Sized t) (c : ℕ) (h : c < N t) where
  pub cell_in : CellIn t c
  cell_in =
      record {
        firsts = h;
        lasts = omega (arith, z.lasts);
        offsets = omega (arith, z.offsets);
        marked = omega (arith, z.marked);
      }

  -- the row of c
  pub row_in_rights : c * t.M + t.M ≤ length t.rights
  row_in_rights = omega (arith, z.rights_long, row_below c (N t) t.M h)

  -- the entry of c and a division
  pub entry_in_rights : (d : ℕ) → d < t.M → c * t.M + d < length t.rights
  entry_in_rights d l = omega (arith, z.rights_long, entry_below c (N t) d t.M h l)

  pub entry_in_grants : (d : ℕ) → d < t.M → c * t.M + d < length t.grants
  entry_in_grants d l = omega (arith, z.grants_long, entry_below c (N t) d t.M h l)

-- ---- its bytes

module _ (t : Tables) (x c : ℕ) (s : SoundCell t c) (v : Covering t x c) where
  -- the byte at x
  pub byte_inside : offset_of t c + x - first_of t c < L t
  byte_inside = omega (arith, s.inside, v.from, v.to)

  -- the word at x
  pub word_inside : whole_word (last_of t c) x ≡ true → offset_of t c + x - first_of t c + 3 < L t
  unfolding whole_word
  word_inside e = omega (arith, s.inside, v.from, v.to, leb-true (x + 3) (last_of t c) (and_right (eqb (x % 4) 0) _ e))

-- ---- the cells' addresses rise

pub cells_rise : (t : Tables) → Sized t → AllSound t → CellsRise t.first t.last
unfolding after_cell_before
cells_rise t z s =
    record {
      lasts = z.lasts;
      rising = λ c h. (s c h).rising;
      apart = λ c h. ltb-true _ _ (and_left (ltb (last_of t c) (first_of t (suc c))) _ (s (suc c) h).after);
    }

-- ---- what an instruction that is ready finds

module _ {t : Tables} {r : Registers} {i : Instruction} {c : ℕ} (p : Ready (state t r) i c) where
  -- its cell, the cell's row, and the current division's entries
  pub cell_there : CellIn t c
  cell_there = cell_in t p.begun.sizes c p.cell.cell

  pub row_there : c * t.M + t.M ≤ length t.rights
  row_there = row_in_rights t p.begun.sizes c p.cell.cell

  pub own_rights : entry t c r.current < length t.rights
  own_rights = entry_in_rights t p.begun.sizes c p.cell.cell r.current p.begun.current

  -- what the operands of its kind name
  pub covers_address : {j : Instruction} → i ≡ j → Covering t (address_of j) c
  covers_address e = subst (λ j. Covering t (address_of j) c) e p.cell

  pub operands_fit : {j : Instruction} → i ≡ j → InRange t.M r.current j
  operands_fit e = subst (InRange t.M r.current) e p.range

  pub target_rights : {x y : ℕ} → i ≡ Switch x y → entry t c y < length t.rights
  target_rights {x} {y} e = entry_in_rights t p.begun.sizes c p.cell.cell y (operands_fit e)

  pub source_grant : {x y : ℕ} → i ≡ Receive x y → entry t c y < length t.grants
  source_grant {x} {y} e =
      let o : Other t.M r.current y = operands_fit e in
      entry_in_grants t p.begun.sizes c p.cell.cell y o.below

  -- the byte at the address, in its cell and in the memory, and the word
  pub place_there : {j : Instruction} → i ≡ j
      → (c < length t.first) × ((c < length t.offset) × (first_of t c ≤ address_of j))
  place_there e = (cell_there.firsts, (cell_there.offsets, (covers_address e).from))

  pub byte_there : {j : Instruction} → i ≡ j → offset_of t c + address_of j - first_of t c < L t
  byte_there {j} e = byte_inside t (address_of j) c (p.begun.sound c p.cell.cell) (covers_address e)

  pub word_there : {j : Instruction} → i ≡ j → whole_word (last_of t c) (address_of j) ≡ true
      → offset_of t c + address_of j - first_of t c + 3 < L t
  word_there {j} e = word_inside t (address_of j) c (p.begun.sound c p.cell.cell) (covers_address e)

-- ---- the tables for reading are those that are lent, whatever the memory

module _ (read lent : List ℕ → Tables) (e : read ≡ lent) where
  pub seen_same : (memory : List ℕ) → read memory ≡ lent memory
  seen_same b = ap (λ f. f b) e

  pub seen_ready : {b : List ℕ} {r : Registers} {i : Instruction} {c : ℕ} → Ready (state (lent b) r) i c → Ready (state (read b) r) i c
  seen_ready {b} {r} {i} {c} = subst (λ t. Ready (state t r) i c) (sym (seen_same b))

  pub seen_held : (c d : ℕ) → held (read []) c d ≡ held (lent []) c d
  seen_held c d = ap (λ (t : Tables). held t c d) (seen_same [])

  pub seen_place : (c x : ℕ) → offset_of (read []) c + x - first_of (read []) c ≡ offset_of (lent []) c + x - first_of (lent []) c
  seen_place c x = ap (λ (t : Tables). offset_of t c + x - first_of t c) (seen_same [])

  pub seen_alone : (c d : ℕ) → eqb (other_holder (read []).M (read []).rights c d) (read []).M
      ≡ eqb (other_holder (lent []).M (lent []).rights c d) (lent []).M
  seen_alone c d = ap (λ (t : Tables). eqb (other_holder t.M t.rights c d) t.M) (seen_same [])

  pub seen_judged : {n : ℕ} (b : List ℕ) (d c : ℕ) (i : Instruction) → n ≡ first_failing (needs (read b) d c i) → n ≡ first_failing (needs (lent b) d c i)
  seen_judged b d c i e = e ∙ ap (λ (t : Tables). first_failing (needs t d c i)) (seen_same b)

  pub seen_first : {a : Answer} (b : List ℕ) (r : Registers) → a ≡ first_answer (state (read b) r) → a ≡ first_answer (state (lent b) r)
  seen_first b r e = e ∙ ap (λ (t : Tables). first_answer (state t r)) (seen_same b)
