-- The local laws kind by kind: how an accepted instruction gains a right, makes a grant, and keeps one. Assumes nothing.
use Prim.Native.Nat.{ℕ, ◌+◌, ◌*◌, ◌/◌, ◌≤◌, ◌<◌}
use mathlib.Core.Path.{◌≡◌, refl, sym, subst}
use mathlib.Core.Logic.{◌⊎◌, inl, inr}
use mathlib.Core.Bool.{true, false, ◌&&◌, false≢true}
use native.Mathlib.Omega.{arith}
use lib.ListN.{length, get_or, set}
use lib.Seq.{get_or-set_same}
use lib.Dec.{eqb}
use borrow.Author.Tests.{eqb-true, eq-eqb}
use Rattle.rules.specs.Numbers.{Tables, State, N, held, grant_of, grant_entry, rights_in, entry, part_of, join}
use Rattle.rules.specs.Instructions.{address_of, cell_at, grant_names, needs, effect, put_grant}
use Rattle.rules.specs.declared.Instruction.{Instruction}
use Rattle.rules.specs.declared.Instruction.TheVariants.{Load, Store, Fetch, Switch, Protect, Grant, Receive, Transfer, Invalidate, Revalidate, Exclusive}
use Rattle.rules.proofs.Below.{and_left, and_right, and_both, clash}
use Rattle.rules.proofs.Checks.{AllHold}
use Rattle.rules.proofs.Decoding.{InRange}
use Rattle.rules.proofs.Needed.{protect_held, grant_held, transfer_held}
use Rattle.rules.proofs.Sizes.{entry_below}
use Rattle.rules.proofs.Kept.{Begun, Covering}
use Rattle.history.specs.History.{Right}
use Rattle.history.specs.Shown.{has, holds_in, offers_in, deed_of, takes_by, makes_by, source_of}
use Rattle.history.proofs.Bits.{has_part, has_join, has_none}
use Rattle.history.proofs.Entries.{holds_made, holds_not, Granting, Offering, offers_means, offers_made, put_gain, put_offer}

-- ---- an accepted instruction

-- all its checks hold: d is the current division, c the cell covering its address
pub record Accepted (s : State) (i : Instruction) : Type 0 where
  pub begun : Begun s
  pub range : InRange s.lent.M s.registers.current i
  pub cell : cell_at s.lent (address_of i) < N s.lent
  pub covers : Covering s.lent (address_of i) (cell_at s.lent (address_of i))
  pub needed : AllHold (needs s.lent s.registers.current (cell_at s.lent (address_of i)) i)

pub entry_grants : (s : State) (c d : ℕ) → Begun s → c < N s.lent → d < s.lent.M → entry s.lent c d < length s.lent.grants
entry_grants s c d b h l = omega (arith, b.sizes.grants_long, entry_below c (N s.lent) d s.lent.M h l)

pub without_grant : (d : ℕ) → grant_names 0 d ≡ false
unfolding grant_names
without_grant d = refl

-- the rights of a grant entry that was made
entry_has : (m y z : ℕ) (r : Right) → m ≤ 32 → y < m → has r (rights_in (grant_entry y z)) ≡ true → has r z ≡ true
entry_has m y z r w l h =
    let e : (y + 256 * z) / 256 ≡ z = omega arith in
    subst (λ (v : ℕ). has r v ≡ true) e h

-- what k and e do not hold, c and d do not, if they are the same
not_held : (t : Tables) (c d k e : ℕ) (r : Right) → c < N t → d < t.M → k ≡ c → e ≡ d → holds_in t k e r ≡ false → has r (held t c d) ≡ false
not_held t c d k e r h l p q n =
    holds_not t c d r h l (subst (λ (i : ℕ). holds_in t c i r ≡ false) q (subst (λ (i : ℕ). holds_in t i e r ≡ false) p n))

-- the maker of a grant of rights z to y on the cell covering x, who holds z there
maker_holds : (s : State) (x y z : ℕ) → Begun s → cell_at s.lent x < N s.lent → y < s.lent.M
    → part_of z (held s.lent (cell_at s.lent x) s.registers.current) ≡ true
    → (k m e : ℕ) (r : Right) → eqb k (cell_at s.lent x) && eqb m s.registers.current ≡ true
    → offers_in (put_grant s.lent (cell_at s.lent x) s.registers.current (grant_entry y z)) k m e r ≡ true
    → holds_in s.lent k m r ≡ true
maker_holds s x y z b h l p k m e r q o =
    let t = s.lent in
    let d = s.registers.current in
    let c = cell_at t x in
    let kc : k ≡ c = eqb-true k c (and_left (eqb k c) _ q) in
    let md : m ≡ d = eqb-true m d (and_right (eqb k c) _ q) in
    let w : Offering (put_grant t c d (grant_entry y z)) k m e r = offers_means (put_grant t c d (grant_entry y z)) k m e r o in
    let put : get_or (set t.grants (entry t c d) (grant_entry y z)) (entry t k m) 0 ≡ grant_entry y z
    = subst (λ (i : ℕ). get_or (set t.grants (entry t c d) (grant_entry y z)) (entry t i m) 0 ≡ grant_entry y z) (sym kc)
    (subst (λ (i : ℕ). get_or (set t.grants (entry t c d) (grant_entry y z)) (entry t c i) 0 ≡ grant_entry y z) (sym md)
    (get_or-set_same t.grants (entry t c d) (grant_entry y z) 0 (entry_grants s c d b h b.current))) in
    let granted : has r z ≡ true
    = entry_has t.M y z r b.sizes.within.divisions l (subst (λ (v : ℕ). has r (rights_in v) ≡ true) put w.grant.1) in
    holds_made t k m r
    (record {
      cell = w.cell;
      division = w.maker;
      right = subst (λ (i : ℕ). has r (held t i m) ≡ true) (sym kc)
          (subst (λ (i : ℕ). has r (held t c i) ≡ true) (sym md) (has_part r z (held t c d) p granted));
    })

-- a grant after another grant or transfer than the maker's own
grant_aside : (s : State) (x y z : ℕ) → Begun s → (k m e : ℕ) (r : Right)
    → eqb k (cell_at s.lent x) && eqb m s.registers.current ≡ false
    → offers_in (put_grant s.lent (cell_at s.lent x) s.registers.current (grant_entry y z)) k m e r ≡ true
    → offers_in s.lent k m e r ≡ true
grant_aside s x y z b k m e r n h =
    go (put_offer s.lent (cell_at s.lent x) s.registers.current b.current (grant_entry y z) k m e r h)
  where
    go : ((k ≡ cell_at s.lent x) × (m ≡ s.registers.current) × Granting e r (grant_entry y z)) ⊎ (offers_in s.lent k m e r ≡ true)
        → offers_in s.lent k m e r ≡ true
    go (inl q) = clash _ (and_both _ _ (eq-eqb k _ q.0) (eq-eqb m _ q.1)) n
    go (inr q) = q

-- ---- a right is gained by a receive alone

pub kind_gain : (s : State) (i : Instruction) → Accepted s i → (k e : ℕ) (r : Right) → holds_in s.lent k e r ≡ false
    → holds_in (effect s.lent s.registers.current (cell_at s.lent (address_of i)) i) k e r ≡ true
    → (takes_by s (deed_of i) k e (source_of (deed_of i)) ≡ true) × (offers_in s.lent k (source_of (deed_of i)) e r ≡ true)
unfolding effect needs deed_of takes_by source_of holds_in
kind_gain s (Load x) a k e r n h = clash _ h n
kind_gain s (Store x y) a k e r n h = clash _ h n
kind_gain s (Fetch x) a k e r n h = clash _ h n
kind_gain s (Switch x y) a k e r n h = clash _ h n
kind_gain s (Protect x y) a k e r n h =
    let t = s.lent in
    let d = s.registers.current in
    let c = cell_at t x in
    let q = put_gain t c d a.begun.current y k e r n h in
    clash _ (has_part r y (held t c d) (protect_held t d c x y a.needed) q.2) (not_held t c d k e r a.cell a.begun.current q.0 q.1 n)
kind_gain s (Grant x y z) a k e r n h = clash _ h n
kind_gain s (Receive x y) a k e r n h =
    let t = s.lent in
    let d = s.registers.current in
    let c = cell_at t x in
    let p = join (held t c d) (rights_in (grant_of t c y)) in
    let q = put_gain t c d a.begun.current p k e r n h in
    let g = has_join r (held t c d) (rights_in (grant_of t c y)) q.2 (not_held t c d k e r a.cell a.begun.current q.0 q.1 n) in (
      and_both _ _ (and_both _ _ (eq-eqb k c q.0) (eq-eqb e d q.1)) (eq-eqb y y refl),
      offers_made t k y e r
          (subst (λ (i : ℕ). Offering t i y e r) (sym q.0) (subst (λ (i : ℕ). Offering t c y i r) (sym q.1)
          (record { cell = a.cell; maker = a.range.below; grant = (a.needed.1.0, g) }))),
    )
kind_gain s (Transfer x y z) a k e r n h =
    let q = put_gain s.lent (cell_at s.lent x) s.registers.current a.begun.current 0 k e r n h in
    clash _ q.2 (has_none r)
kind_gain s (Invalidate x) a k e r n h = clash _ h n
kind_gain s (Revalidate x) a k e r n h = clash _ h n
kind_gain s (Exclusive x) a k e r n h = clash _ h n

-- ---- what a maker grants, it holds

pub kind_made : (s : State) (i : Instruction) → Accepted s i → (k m e : ℕ) (r : Right) → makes_by s (deed_of i) k m ≡ true
    → offers_in (effect s.lent s.registers.current (cell_at s.lent (address_of i)) i) k m e r ≡ true
    → holds_in s.lent k m r ≡ true
unfolding effect needs deed_of makes_by offers_in
kind_made s (Load x) a k m e r b h = absurd (false≢true b)
kind_made s (Store x y) a k m e r b h = absurd (false≢true b)
kind_made s (Fetch x) a k m e r b h = absurd (false≢true b)
kind_made s (Switch x y) a k m e r b h = absurd (false≢true b)
kind_made s (Protect x y) a k m e r b h = absurd (false≢true b)
kind_made s (Grant x y z) a k m e r b h =
    maker_holds s x y z a.begun a.cell a.range.other.below (grant_held s.lent s.registers.current (cell_at s.lent x) x y z a.needed) k m e r b h
kind_made s (Receive x y) a k m e r b h = absurd (false≢true b)
kind_made s (Transfer x y z) a k m e r b h =
    maker_holds s x y z a.begun a.cell a.range.other.below (transfer_held s.lent s.registers.current (cell_at s.lent x) x y z a.needed) k m e r b h
kind_made s (Invalidate x) a k m e r b h = absurd (false≢true b)
kind_made s (Revalidate x) a k m e r b h = absurd (false≢true b)
kind_made s (Exclusive x) a k m e r b h = absurd (false≢true b)

-- ---- a grant that is not made now stood before

pub kind_kept : (s : State) (i : Instruction) → Accepted s i → (k m e : ℕ) (r : Right) → makes_by s (deed_of i) k m ≡ false
    → offers_in (effect s.lent s.registers.current (cell_at s.lent (address_of i)) i) k m e r ≡ true
    → offers_in s.lent k m e r ≡ true
unfolding effect deed_of makes_by offers_in
kind_kept s (Load x) a k m e r b h = h
kind_kept s (Store x y) a k m e r b h = h
kind_kept s (Fetch x) a k m e r b h = h
kind_kept s (Switch x y) a k m e r b h = h
kind_kept s (Protect x y) a k m e r b h = h
kind_kept s (Grant x y z) a k m e r b h = grant_aside s x y z a.begun k m e r b h
kind_kept s (Receive x y) a k m e r b h =
    go (put_offer s.lent (cell_at s.lent x) y a.range.below 0 k m e r h)
  where
    go : ((k ≡ cell_at s.lent x) × (m ≡ y) × Granting e r 0) ⊎ (offers_in s.lent k m e r ≡ true) → offers_in s.lent k m e r ≡ true
    go (inl q) = clash _ q.2.0 (without_grant e)
    go (inr q) = q
kind_kept s (Transfer x y z) a k m e r b h = grant_aside s x y z a.begun k m e r b h
kind_kept s (Invalidate x) a k m e r b h = h
kind_kept s (Revalidate x) a k m e r b h = h
kind_kept s (Exclusive x) a k m e r b h = h
