-- An accepted call leaves lengths as they were and sound tables sound. Assumes nothing.
use Prim.Native.Nat.{ℕ, ◌+◌, ◌≤◌, ◌<◌}
use mathlib.Core.Path.{◌≡◌, refl, ◌∙◌}
use mathlib.Core.List.{List, ◌++◌}
use mathlib.Core.Bool.{true, ◌&&◌}
use native.Mathlib.Omega.{arith}
use lib.ListN.{length, take, drop, length-set, length-append, length-drop}
use lib.Seq.{length-take-le}
use lib.Dec.{leb, ltb}
use borrow.Author.Tests.{leb-true, ltb-true, eqb-true, lt-ltb}
use Rattle.rules.specs.Below.{lowest}
use Rattle.rules.specs.Numbers.{Tables, tables, State, N, L, right_lengths, first_of, last_of, mark_of, held, grant_of, grant_entry, rights_in, join}
use Rattle.rules.specs.Refusals.{Check, first_checks, well_sized, known_divisions}
use Rattle.rules.specs.Instructions.{covers, covering_cell, covered, cell_at, valid, place, needs, effect, put_rights, put_grant}
use Rattle.rules.specs.Blocks.{within_cell, block_written}
use Rattle.rules.specs.declared.Instruction.{Instruction}
use Rattle.rules.specs.declared.Instruction.TheVariants.{Load, Store, Fetch, Switch, Protect, Grant, Receive, Transfer, Invalidate, Revalidate, Exclusive}
use Rattle.rules.proofs.Below.{and_left, and_right, and_both, lowest_passes}
use Rattle.rules.proofs.Rights.{join_le}
use Rattle.rules.proofs.Checks.{AllHold}
use Rattle.rules.proofs.Decoding.{InRange}
use Rattle.rules.proofs.Sizes.{Sized, sized}
use Rattle.rules.proofs.SoundCells.{SoundCell, AllSound, all_sound, sound_all, rights_put, grant_put, mark_put, memory_put, none_sound, offer_sound, nobody_lone}

-- ---- lengths

-- M and the cells' addresses and offsets are the same, every other list is as long
pub record SameShape (t u : Tables) : Type 0 where
  pub divisions : u.M ≡ t.M
  pub firsts : u.first ≡ t.first
  pub lasts : u.last ≡ t.last
  pub offsets : u.offset ≡ t.offset
  pub marks : length u.marks ≡ length t.marks
  pub rights : length u.rights ≡ length t.rights
  pub grants : length u.grants ≡ length t.grants
  pub bytes : length u.memory ≡ length t.memory

-- new lists beside the same cells
pub shape_with : {t : Tables} {k r g b : List ℕ} → length k ≡ length t.marks → length r ≡ length t.rights
    → length g ≡ length t.grants → length b ≡ length t.memory
    → SameShape t (tables t.M t.first t.last t.offset k r g b)
shape_with marks rights grants bytes =
    record {
      divisions = refl;
      firsts = refl;
      lasts = refl;
      offsets = refl;
      marks = marks;
      rights = rights;
      grants = grants;
      bytes = bytes;
    }

pub shape_same : (t : Tables) → SameShape t t
shape_same t = shape_with refl refl refl refl

pub shape_then : {t u v : Tables} → SameShape t u → SameShape u v → SameShape t v
shape_then a b =
    record {
      divisions = b.divisions ∙ a.divisions;
      firsts = b.firsts ∙ a.firsts;
      lasts = b.lasts ∙ a.lasts;
      offsets = b.offsets ∙ a.offsets;
      marks = b.marks ∙ a.marks;
      rights = b.rights ∙ a.rights;
      grants = b.grants ∙ a.grants;
      bytes = b.bytes ∙ a.bytes;
    }

pub shape_sized : (t u : Tables) → SameShape t u → well_sized u ≡ well_sized t
unfolding well_sized right_lengths
shape_sized t u s =
    rw (s.divisions, s.firsts, s.lasts, s.offsets, s.marks, s.rights, s.grants, s.bytes)

-- an instruction's
pub effect_shape : (t : Tables) (d c : ℕ) (i : Instruction) → SameShape t (effect t d c i)
unfolding effect
effect_shape t d c (Load x) = shape_same t
effect_shape t d c (Store x y) = shape_with refl refl refl (simp length-set)
effect_shape t d c (Fetch x) = shape_same t
effect_shape t d c (Switch x y) = shape_same t
effect_shape t d c (Protect x y) = shape_with refl (simp length-set) refl refl
effect_shape t d c (Grant x y z) = shape_with refl refl (simp length-set) refl
effect_shape t d c (Receive x y) = shape_with refl (simp length-set) (simp length-set) refl
effect_shape t d c (Transfer x y z) = shape_with refl (simp length-set) (simp length-set) refl
effect_shape t d c (Invalidate x) = shape_with (simp length-set) refl refl refl
effect_shape t d c (Revalidate x) = shape_with (simp length-set) refl refl refl
effect_shape t d c (Exclusive x) = shape_same t

-- ---- what the checks say

-- checks 1, 2 and 3
pub record Begun (s : State) : Type 0 where
  pub well : well_sized s.lent ≡ true
  pub sizes : Sized s.lent
  pub sound : AllSound s.lent
  pub current : s.registers.current < s.lent.M
  pub caller : s.registers.caller < s.lent.M

pub begun : (s : State) (ks : List Check) → AllHold (first_checks s ++ ks) → Begun s
unfolding known_divisions
begun s ks a =
    record {
      well = a.0;
      sizes = sized s.lent a.0;
      sound = all_sound s.lent a.1.0;
      current = ltb-true _ _ (and_left (ltb s.registers.current s.lent.M) _ a.1.1.0);
      caller = ltb-true _ _ (and_right (ltb s.registers.current s.lent.M) _ a.1.1.0);
    }

pub first_holds : (s : State) → Begun s → AllHold (first_checks s)
unfolding known_divisions
first_holds s b =
    (b.well, (sound_all s.lent b.sound, (and_both _ _ (lt-ltb _ _ b.current) (lt-ltb _ _ b.caller), tt)))

-- check 6: c is a cell, and covers x
pub record Covering (t : Tables) (x c : ℕ) : Type 0 where
  pub cell : c < N t
  pub from : first_of t c ≤ x
  pub to : x ≤ last_of t c

pub covering : (t : Tables) (x : ℕ) → covered t x ≡ true → Covering t x (cell_at t x)
unfolding covered covering_cell covers
covering t x e =
    let c = lowest (covers t.first t.last x) (N t) in
    let h : c < N t = ltb-true _ _ e in
    let q : leb (first_of t c) x && leb x (last_of t c) ≡ true = lowest_passes (covers t.first t.last x) (N t) h in
    record {
      cell = h;
      from = leb-true _ _ (and_left (leb (first_of t c) x) _ q);
      to = leb-true _ _ (and_right (leb (first_of t c) x) _ q);
    }

-- check 7
valid_mark : (t : Tables) (c : ℕ) → valid (mark_of t c) ≡ true → mark_of t c ≡ 0 → ⊥
unfolding valid
valid_mark t c e z = omega (arith, eqb-true (mark_of t c) 1 e)

-- check 8: the block lies in the memory
pub block_inside : (t : Tables) (c x n : ℕ) → SoundCell t c → Covering t x c → within_cell (last_of t c) x n ≡ true → place t c x + n ≤ L t
unfolding place within_cell
block_inside t c x n s v e = omega (arith, s.inside, s.rising, v.from, v.to, leb-true (x + n) (last_of t c + 1) e)

-- ---- what is done

pub effect_sound : (t : Tables) (d c : ℕ) (i : Instruction) → t.M ≤ 32 → AllSound t → d < t.M → InRange t.M d i
    → AllHold (needs t d c i) → AllSound (effect t d c i)
unfolding effect needs
effect_sound t d c (Load x) w s h r a = s
effect_sound t d c (Store x y) w s h r a = memory_put t s _ (simp length-set)
effect_sound t d c (Fetch x) w s h r a = s
effect_sound t d c (Switch x y) w s h r a = s
effect_sound t d c (Protect x y) w s h r a = rights_put t s c d h y r (valid_mark t c a.0)
effect_sound t d c (Grant x y z) w s h r a =
    grant_put t s c d h (grant_entry y z) (offer_sound t.M d y z w r.other.below r.other.differs r.some r.small)
effect_sound t d c (Receive x y) w s h r a =
    let p = join (held t c d) (rights_in (grant_of t c y)) in
    grant_put (put_rights t c d p) (rights_put t s c d h p (join_le _ _) (valid_mark t c a.0))
    c y r.below 0 (none_sound t.M y)
effect_sound t d c (Transfer x y z) w s h r a =
    let g = grant_entry y z in
    rights_put (put_grant t c d g)
    (grant_put t s c d h g (offer_sound t.M d y z w r.other.below r.other.differs r.some r.small))
    c d h 0 (omega arith) (valid_mark t c a.0)
effect_sound t d c (Invalidate x) w s h r a = mark_put t s c 0 (omega arith) (λ _. nobody_lone t c d a.1.1.0)
effect_sound t d c (Revalidate x) w s h r a = mark_put t s c 1 (omega arith) (λ z. absurd (omega arith))
effect_sound t d c (Exclusive x) w s h r a = s

block_long : (p : ℕ) (m b : List ℕ) → p + length b ≤ length m → length (take p m ++ b ++ drop (p + length b) m) ≡ length m
block_long p m b h =
    simp (length-append, length-take-le p m (omega arith), length-drop) (omega arith)

pub block_shape : (t : Tables) (c x : ℕ) (b : List ℕ) → place t c x + length b ≤ L t → SameShape t (block_written t c x b)
unfolding block_written
block_shape t c x b h = shape_with refl refl refl (block_long (place t c x) t.memory b h)

pub block_sound : (t : Tables) (c x : ℕ) (b : List ℕ) → place t c x + length b ≤ L t → AllSound t → AllSound (block_written t c x b)
unfolding block_written
block_sound t c x b h s = memory_put t s _ (block_long (place t c x) t.memory b h)
