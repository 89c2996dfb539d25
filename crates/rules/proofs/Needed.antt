-- What the current division must hold for a call to be accepted: the right that the call uses, or the rights that it passes
-- on. Assumes nothing.
use Prim.Native.Nat.{ℕ}
use mathlib.Core.Path.{◌≡◌}
use mathlib.Core.Bool.{true}
use Rattle.rules.specs.Numbers.{Tables, read, write, execute, part_of, held}
use Rattle.rules.specs.Instructions.{needs}
use Rattle.rules.specs.Blocks.{block_needs}
use Rattle.rules.specs.declared.Instruction.TheVariants.{Load, Store, Fetch, Switch, Protect, Grant, Transfer}
use Rattle.rules.proofs.Checks.{AllHold}

module _ (t : Tables) (d c : ℕ) where
  pub load_held : (x : ℕ) → AllHold (needs t d c (Load x)) → part_of read (held t c d) ≡ true
  unfolding needs
  load_held x a = a.1.0

  pub store_held : (x y : ℕ) → AllHold (needs t d c (Store x y)) → part_of write (held t c d) ≡ true
  unfolding needs
  store_held x y a = a.1.0

  pub fetch_held : (x : ℕ) → AllHold (needs t d c (Fetch x)) → part_of execute (held t c d) ≡ true
  unfolding needs
  fetch_held x a = a.1.1.0

  -- the target's right, not the switcher's
  pub switch_held : (x y : ℕ) → AllHold (needs t d c (Switch x y)) → part_of execute (held t c y) ≡ true
  unfolding needs
  switch_held x y a = a.1.1.0

  -- what is left is part of what was held
  pub protect_held : (x y : ℕ) → AllHold (needs t d c (Protect x y)) → part_of y (held t c d) ≡ true
  unfolding needs
  protect_held x y a = a.1.0

  -- a maker holds all that it grants or transfers
  pub grant_held : (x y z : ℕ) → AllHold (needs t d c (Grant x y z)) → part_of z (held t c d) ≡ true
  unfolding needs
  grant_held x y z a = a.1.0

  pub transfer_held : (x y z : ℕ) → AllHold (needs t d c (Transfer x y z)) → part_of z (held t c d) ≡ true
  unfolding needs
  transfer_held x y z a = a.1.0

  pub block_held : (right x n : ℕ) → AllHold (block_needs right t d c x n) → part_of right (held t c d) ≡ true
  unfolding block_needs
  block_held right x n a = a.1.1.0
