-- Laws of grant, receive and transfer: an accepted receive takes a standing grant made out to the current division and
-- leaves none, and a transfer leaves its maker no right. Assumes nothing.
use Prim.Native.Nat.{ℕ, ◌<◌}
use mathlib.Core.Path.{◌≡◌}
use mathlib.Core.Bool.{true, not}
use lib.ListN.{length}
use lib.Seq.{get_or-set_same}
use lib.Dec.{eqb}
use borrow.Author.Tests.{eqb-true, eqb-false, not-true}
use Rattle.rules.specs.Numbers.{Tables, entry, held, grant_of, grant_entry, target_in, rights_in, join}
use Rattle.rules.specs.Instructions.{grant_names, needs, effect}
use Rattle.rules.specs.declared.Instruction.TheVariants.{Grant, Receive, Transfer}
use Rattle.rules.proofs.Below.{and_left, and_right}
use Rattle.rules.proofs.Checks.{AllHold}

-- ---- what is needed

-- y's grant on c stands, and is made out to d
pub record MadeOutTo (t : Tables) (c y d : ℕ) : Type 0 where
  pub stands : grant_of t c y ≡ 0 → ⊥
  pub names : target_in (grant_of t c y) ≡ d

pub names_made_out : (t : Tables) (c y d : ℕ) → grant_names (grant_of t c y) d ≡ true → MadeOutTo t c y d
unfolding grant_names
names_made_out t c y d e =
    record {
      stands = eqb-false _ _ (not-true (eqb (grant_of t c y) 0) (and_left (not (eqb (grant_of t c y) 0)) _ e));
      names = eqb-true _ _ (and_right (not (eqb (grant_of t c y) 0)) _ e);
    }

-- a receive takes no grant that is made out to somebody else
pub receive_made_out : (t : Tables) (d c x y : ℕ) → AllHold (needs t d c (Receive x y)) → MadeOutTo t c y d
unfolding needs
receive_made_out t d c x y a = names_made_out t c y d a.1.0

-- ---- what is done

module _ (t : Tables) (d c : ℕ) where
  -- all that was granted joins what was held
  pub receive_joined : (x y : ℕ) → entry t c d < length t.rights
      → held (effect t d c (Receive x y)) c d ≡ join (held t c d) (rights_in (grant_of t c y))
  unfolding effect
  receive_joined x y h = get_or-set_same t.rights (entry t c d) _ 0 h

  -- the source's grant is gone, and cannot be taken twice
  pub receive_spent : (x y : ℕ) → entry t c y < length t.grants → grant_of (effect t d c (Receive x y)) c y ≡ 0
  unfolding effect
  receive_spent x y h = get_or-set_same t.grants (entry t c y) 0 0 h

  pub grant_made : (x y z : ℕ) → entry t c d < length t.grants → grant_of (effect t d c (Grant x y z)) c d ≡ grant_entry y z
  unfolding effect
  grant_made x y z h = get_or-set_same t.grants (entry t c d) _ 0 h

  pub transfer_made : (x y z : ℕ) → entry t c d < length t.grants → grant_of (effect t d c (Transfer x y z)) c d ≡ grant_entry y z
  unfolding effect
  transfer_made x y z h = get_or-set_same t.grants (entry t c d) _ 0 h

  -- and its maker holds nothing
  pub transfer_leaves : (x y z : ℕ) → entry t c d < length t.rights → held (effect t d c (Transfer x y z)) c d ≡ 0
  unfolding effect
  transfer_leaves x y z h = get_or-set_same t.rights (entry t c d) 0 0 h
