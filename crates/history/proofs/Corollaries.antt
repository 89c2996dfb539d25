-- What users ask for, each a line or two from demand 3; and what demand 3 does not say, closed by demand 2's definition.
-- Assumes nothing.
use Prim.Native.Nat.{ℕ, zero, suc, ◌≤◌, ◌<◌}
use mathlib.Core.Path.{◌≡◌, refl, sym, ap, ◌∙◌, subst}
use mathlib.Core.List.{◌++◌}
use mathlib.Core.Bool.{Bool, true, false, ◌&&◌, and-false, false≢true}
use native.Mathlib.Omega.{arith}
use lib.ListN.{length}
use lib.Dec.{eqb, ltb}
use borrow.Author.Tests.{eqb-true}
use Rattle.rules.specs.Numbers.{Tables, State, N, held, grant_of, rights_in, entry}
use Rattle.rules.specs.Refusals.{first_checks}
use Rattle.rules.specs.Instructions.{Formed, well_formed, ill_formed, address_of, cell_at, grant_names, effect}
use Rattle.rules.specs.Calls.{Action, instruction, block_write, read_view, formed_in, instruction_checks, instruction_done, done_at, checks, done, performed}
use Rattle.rules.specs.declared.Instruction.{Instruction}
use Rattle.rules.specs.declared.Instruction.TheVariants.{Load, Store, Fetch, Switch, Protect, Grant, Receive, Transfer, Invalidate, Revalidate, Exclusive}
use Rattle.rules.proofs.Below.{and_left, and_right, by_test, clash}
use Rattle.rules.proofs.Checks.{AllHold}
use Rattle.rules.proofs.Decoding.{Sensible, formed_sensible}
use Rattle.rules.proofs.Grants.{receive_spent, transfer_leaves}
use Rattle.rules.proofs.Kept.{Begun}
use Rattle.rules.proofs.Sizes.{entry_below}
use Rattle.rules.proofs.Laws.{accepted_exactly, accepted_done}
use Rattle.history.specs.History.{Right}
use Rattle.history.specs.Shown.{has, holds_in, offers_in, deed_of, formed_deed, deed_in, is_accepted, takes_by, state_at, begins_at, shown}
use Rattle.history.proofs.Bits.{has_none}
use Rattle.history.proofs.Bounds.{Around, holder, never_around}
use Rattle.history.proofs.Accepted.{Accepted, entry_grants, without_grant}
use Rattle.history.proofs.Local.{accepted_kind, call_gain}
use Rattle.history.proofs.Demand3.{shown_laws}

-- ---- over any sequence

module _ (calls : ℕ → Action) (start : State) where
  not_again : (c i : ℕ) → 0 < i → begins_at calls start i c ≡ false
  not_again c zero h = absurd (omega arith)
  not_again c (suc n) h = refl

  -- rights held or offered on a cell never grow, in union
  pub never_grows : (t s c : ℕ) (r : Right) → s ≤ t → Around (shown calls start) t c r → Around (shown calls start) s c r
  never_grows t s c r h a =
      never_around (shown calls start) (shown_laws calls start) t s c r h (λ i l k. not_again c i (omega arith)) a

  -- a division that is never the target of a grant gains nothing
  pub never_target : (t c d : ℕ) (r : Right) → ((i m : ℕ) → i < t → offers_in (state_at calls start i).lent c m d r ≡ false)
      → holds_in (state_at calls start t).lent c d r ≡ true → holds_in start.lent c d r ≡ true
  never_target zero c d r f h = h
  never_target (suc n) c d r f h =
      by_test (holds_in (state_at calls start n).lent c d r) (λ e. never_target n c d r (λ i m l. f i m (omega arith)) e)
      (λ e. clash _ (call_gain (state_at calls start n) (calls n) c d r e h).1 (f n _ (omega arith)))

  -- what nobody holds or is offered at the start, nobody ever holds
  pub nobody_ever : (t c d : ℕ) (r : Right) → (Around (shown calls start) 0 c r → ⊥) → holds_in (state_at calls start t).lent c d r ≡ true → ⊥
  nobody_ever t c d r f h = f (never_grows t 0 c r (omega arith) (holder d h))

-- ---- a grant taken is gone

last_false : (a b : Bool) → b ≡ false → (a && b) ≡ false
last_false a b e = rw e (and-false a)

-- no grant stands at an entry of 0
nothing_offered : (t : Tables) (k m e : ℕ) (r : Right) → grant_of t k m ≡ 0 → offers_in t k m e r ≡ false
unfolding offers_in
nothing_offered t k m e r z =
    ap (λ (b : Bool). b && has r (rights_in (grant_of t k m)))
    (last_false (ltb k (N t) && ltb m t.M) _ (ap (λ (g : ℕ). grant_names g e) z ∙ without_grant e))

deed_gone : (s : State) (i : Instruction) → Accepted s i → (k d m : ℕ) → takes_by s (deed_of i) k d m ≡ true → (e : ℕ) (r : Right)
    → offers_in (effect s.lent s.registers.current (cell_at s.lent (address_of i)) i) k m e r ≡ false
unfolding deed_of takes_by
deed_gone s (Load x) a k d m b e r = absurd (false≢true b)
deed_gone s (Store x y) a k d m b e r = absurd (false≢true b)
deed_gone s (Fetch x) a k d m b e r = absurd (false≢true b)
deed_gone s (Switch x y) a k d m b e r = absurd (false≢true b)
deed_gone s (Protect x y) a k d m b e r = absurd (false≢true b)
deed_gone s (Grant x y z) a k d m b e r = absurd (false≢true b)
deed_gone s (Receive x y) a k d m b e r =
    let t = s.lent in
    let c = cell_at t x in
    let two = and_left (eqb k c && eqb d s.registers.current) _ b in
    let kc : k ≡ c = eqb-true k c (and_left (eqb k c) _ two) in
    let my : m ≡ y = eqb-true m y (and_right (eqb k c && eqb d s.registers.current) _ b) in
    let after = effect t s.registers.current c (Receive x y) in
    let gone : grant_of after c y ≡ 0 = receive_spent t s.registers.current c x y (entry_grants s c y a.begun a.cell a.range.below) in
    subst (λ (j : ℕ). offers_in after j m e r ≡ false) (sym kc)
    (subst (λ (j : ℕ). offers_in after c j e r ≡ false) (sym my) (nothing_offered after c y e r gone))
deed_gone s (Transfer x y z) a k d m b e r = absurd (false≢true b)
deed_gone s (Invalidate x) a k d m b e r = absurd (false≢true b)
deed_gone s (Revalidate x) a k d m b e r = absurd (false≢true b)
deed_gone s (Exclusive x) a k d m b e r = absurd (false≢true b)

formed_gone : (s : State) (v : Formed) → Sensible s.lent.M s.registers.current v → AllHold (first_checks s ++ instruction_checks s v)
    → (k d m : ℕ) → takes_by s (formed_deed v) k d m ≡ true → (e : ℕ) (r : Right)
    → offers_in (instruction_done s v).after.lent k m e r ≡ false
unfolding done_at formed_deed takes_by
formed_gone s (well_formed i) h a k d m b e r = deed_gone s i (accepted_kind s i h a) k d m b e r
formed_gone s (ill_formed n) h a k d m b e r = absurd (false≢true b)

done_gone : (s : State) (a : Action) → AllHold (checks s a) → (k d m : ℕ) → takes_by s (deed_in s a) k d m ≡ true → (e : ℕ) (r : Right)
    → offers_in (done s a).after.lent k m e r ≡ false
unfolding checks done deed_in takes_by
done_gone s (instruction number x y z) v k d m b e r =
    formed_gone s (formed_in s number x y z) (formed_sensible s.lent.M s.registers.current number x y z) v k d m b e r
done_gone s (block_write x bytes) v k d m b e r = absurd (false≢true b)
done_gone s (read_view x n) v k d m b e r = absurd (false≢true b)

-- after an accepted receive the grant that it took stands no more, whatever it was of: it cannot be taken twice
pub taken_gone : (s : State) (a : Action) (k d m : ℕ) → is_accepted s a && takes_by s (deed_in s a) k d m ≡ true → (e : ℕ) (r : Right)
    → offers_in (performed s a).after.lent k m e r ≡ false
unfolding is_accepted
taken_gone s a k d m b e r =
    let z : (performed s a).number ≡ 0 = eqb-true _ _ (and_left (eqb (performed s a).number 0) _ b) in
    ap (λ o. offers_in o.after.lent k m e r) (accepted_done s a z)
    ∙ done_gone s a ((accepted_exactly s a).0 z) k d m (and_right (eqb (performed s a).number 0) _ b) e r

-- ---- a transfer leaves its maker nothing

nothing_held : (t : Tables) (k d : ℕ) (r : Right) → held t k d ≡ 0 → holds_in t k d r ≡ false
unfolding holds_in
nothing_held t k d r z = last_false (ltb k (N t) && ltb d t.M) _ (ap (has r) z ∙ has_none r)

entry_rights : (s : State) (c d : ℕ) → Begun s → c < N s.lent → d < s.lent.M → entry s.lent c d < length s.lent.rights
entry_rights s c d b h l = omega (arith, b.sizes.rights_long, entry_below c (N s.lent) d s.lent.M h l)

-- the state after what four numbers are, if they are a transfer
formed_nothing : (s : State) (at to rights : ℕ) (r : Right) → Sensible s.lent.M s.registers.current (well_formed (Transfer at to rights))
    → AllHold (first_checks s ++ instruction_checks s (well_formed (Transfer at to rights)))
    → holds_in (instruction_done s (well_formed (Transfer at to rights))).after.lent (cell_at s.lent at) s.registers.current r ≡ false
unfolding done_at
formed_nothing s at to rights r h a =
    let t = s.lent in
    let d = s.registers.current in
    let v = accepted_kind s (Transfer at to rights) h a in
    nothing_held (effect t d (cell_at t at) (Transfer at to rights)) (cell_at t at) d r
    (transfer_leaves t d (cell_at t at) at to rights (entry_rights s (cell_at t at) d v.begun v.cell v.begun.current))

-- after an accepted transfer its maker holds no right on the cell
pub transfer_nothing : (s : State) (number x y z : ℕ) (at to rights : ℕ) → formed_in s number x y z ≡ well_formed (Transfer at to rights)
    → (performed s (instruction number x y z)).number ≡ 0 → (r : Right)
    → holds_in (performed s (instruction number x y z)).after.lent (cell_at s.lent at) s.registers.current r ≡ false
unfolding checks done
transfer_nothing s number x y z at to rights e n r =
    let m = s.lent.M in
    let d = s.registers.current in
    let h : Sensible m d (well_formed (Transfer at to rights)) = subst (Sensible m d) e (formed_sensible m d number x y z) in
    let a : AllHold (first_checks s ++ instruction_checks s (well_formed (Transfer at to rights)))
    = subst (λ (v : Formed). AllHold (first_checks s ++ instruction_checks s v)) e ((accepted_exactly s (instruction number x y z)).0 n) in
    ap (λ o. holds_in o.after.lent (cell_at s.lent at) d r) (accepted_done s (instruction number x y z) n)
    ∙ ap (λ (v : Formed). holds_in (instruction_done s v).after.lent (cell_at s.lent at) d r) e
    ∙ formed_nothing s at to rights r h a
