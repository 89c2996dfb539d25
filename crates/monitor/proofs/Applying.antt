-- What an accepted instruction leaves is what the rules say it does. Assumes nothing.
use Prim.Native.Nat.{ℕ, ◌+◌, ◌-◌, ◌≤◌, ◌<◌}
use mathlib.Core.Path.{◌≡◌, refl, subst}
use mathlib.Core.List.{List}
use mathlib.Core.Bool.{Bool, true, false, cond}
use native.Mathlib.Omega.{arith}
use mir.Val.{bool_byte}
use lib.ListN.{get_or, set}
use lib.Dec.{eqb}
use lib.Seq.{get_or-set_same}
use Rattle.rules.specs.Numbers.{Tables, state, join, L, first_of, last_of, offset_of, entry, held, grant_of, grant_entry, rights_in, switched}
use Rattle.rules.specs.Instructions.{place, word_in, whole_word, other_holder, nobody_else, needs, with_marks, with_rights, with_grants, with_memory, put_rights, effect, registers_after, value_of}
use Rattle.rules.specs.Calls.{done_at}
use Rattle.rules.specs.declared.Registers.{Registers}
use Rattle.rules.specs.declared.Instruction.{Instruction}
use Rattle.rules.specs.declared.Instruction.TheVariants.{Load, Store, Fetch, Switch, Protect, Grant, Receive, Transfer, Invalidate, Revalidate, Exclusive}
use Rattle.rules.proofs.Checks.{AllHold}
use Rattle.rules.proofs.Decoding.{Offer}
use Rattle.monitor.specs.Ready.{Ready, accepted_as}
use Rattle.rules.specs.Refusals.{Outcome}
use Rattle.monitor.proofs.Readiness.{own_rights, operands_fit, word_there}

-- 1 where a test holds
one_if : (b : Bool) → bool_byte b ≡ cond b 1 0
one_if true = refl
one_if false = refl

-- an acceptance
abbrev accepts : (v : ℕ) → Registers → Tables → Outcome
accepts v r t = accepted_as (v, r) t

-- ---- what the range and the checks of a kind say

-- a grant's or a transfer's target and rights fit a grant entry
offer_fits : {m d y z : ℕ} → m ≤ 32 → Offer m d y z → (y < 256) × (z ≤ 7)
offer_fits w o = (omega (arith, o.other.below), o.small)

fetch_whole : (t : Tables) (d c x : ℕ) → AllHold (needs t d c (Fetch x)) → whole_word (last_of t c) x ≡ true
unfolding needs
fetch_whole t d c x a = a.1.0

module _ {t : Tables} {r : Registers} {i : Instruction} {c : ℕ} (p : Ready (state t r) i c) where
  -- the rights put there are the rights held
  own_put : (q : ℕ) → held (put_rights t c r.current q) c r.current ≡ q
  own_put q = get_or-set_same t.rights (entry t c r.current) q 0 (own_rights p)

  -- ---- what its checks and its operands say

  pub fetch_there : {x : ℕ} → i ≡ Fetch x → AllHold (needs t r.current c i) → offset_of t c + x - first_of t c + 3 < L t
  fetch_there {x} e a = word_there p e (fetch_whole t r.current c x (subst (λ j. AllHold (needs t r.current c j)) e a))

  pub grant_fits : {x y z : ℕ} → i ≡ Grant x y z → (y < 256) × (z ≤ 7)
  grant_fits e = offer_fits p.begun.sizes.within.divisions (operands_fit p e)

  pub transfer_fits : {x y z : ℕ} → i ≡ Transfer x y z → (y < 256) × (z ≤ 7)
  transfer_fits e = offer_fits p.begun.sizes.within.divisions (operands_fit p e)

  -- ---- what it leaves, kind by kind: where each list and the value are as said, the outcome is the rules'

  pub load_done : {x p v : ℕ} → i ≡ Load x → p ≡ offset_of t c + x - first_of t c → v ≡ get_or t.memory p 0
      → accepts v r t ≡ done_at (state t r) c i
  unfolding done_at effect value_of registers_after place
  load_done e at byte = rw (e, byte, at)

  pub store_done : {x y p : ℕ} {b : List ℕ} → i ≡ Store x y → p ≡ offset_of t c + x - first_of t c → b ≡ set t.memory p y
      → accepts 0 r (with_memory t b) ≡ done_at (state t r) c i
  unfolding done_at effect value_of registers_after place
  store_done e at put = rw (e, put, at)

  pub fetch_done : {x p v : ℕ} → i ≡ Fetch x → p ≡ offset_of t c + x - first_of t c → v ≡ word_in t.memory p
      → accepts v r t ≡ done_at (state t r) c i
  unfolding done_at effect value_of registers_after place
  fetch_done e at word = rw (e, word, at)

  pub switch_done : {x y : ℕ} {q : Registers} → i ≡ Switch x y → q ≡ switched r y x
      → accepts r.current q t ≡ done_at (state t r) c i
  unfolding done_at effect value_of registers_after
  switch_done e to = rw (e, to)

  pub protect_done : {x y : ℕ} {k : List ℕ} → i ≡ Protect x y → k ≡ set t.rights (entry t c r.current) y
      → accepts y r (with_rights t k) ≡ done_at (state t r) c i
  unfolding done_at effect value_of registers_after
  protect_done {y = y} e put = rw (e, put, own_put y)

  pub grant_done : {x y z h w : ℕ} {g : List ℕ} → i ≡ Grant x y z → h ≡ held t c r.current → w ≡ grant_entry y z
      → g ≡ set t.grants (entry t c r.current) w → accepts h r (with_grants t g) ≡ done_at (state t r) c i
  unfolding done_at effect value_of registers_after
  grant_done e holds entered put = rw (e, put, entered, holds)

  pub receive_done : {x y v : ℕ} {k g : List ℕ} → i ≡ Receive x y
      → v ≡ join (held t c r.current) (rights_in (grant_of t c y))
      → k ≡ set t.rights (entry t c r.current) v → g ≡ set t.grants (entry t c y) 0
      → accepts v r (with_grants (with_rights t k) g) ≡ done_at (state t r) c i
  unfolding done_at effect value_of registers_after
  receive_done {y = y} e joined put gone =
      rw (e, put, gone, joined, own_put (join (held t c r.current) (rights_in (grant_of t c y))))

  pub transfer_done : {x y z w : ℕ} {k g : List ℕ} → i ≡ Transfer x y z → w ≡ grant_entry y z
      → g ≡ set t.grants (entry t c r.current) w → k ≡ set t.rights (entry t c r.current) 0
      → accepts 0 r (with_rights (with_grants t g) k) ≡ done_at (state t r) c i
  unfolding done_at effect value_of registers_after
  transfer_done e entered put left = rw (e, left, put, entered, own_put 0)

  pub invalidate_done : {x h : ℕ} {l : List ℕ} → i ≡ Invalidate x → h ≡ held t c r.current → l ≡ set t.marks c 0
      → accepts h r (with_marks t l) ≡ done_at (state t r) c i
  unfolding done_at effect value_of registers_after
  invalidate_done e holds put = rw (e, put, holds)

  pub revalidate_done : {x h : ℕ} {l : List ℕ} → i ≡ Revalidate x → h ≡ held t c r.current → l ≡ set t.marks c 1
      → accepts h r (with_marks t l) ≡ done_at (state t r) c i
  unfolding done_at effect value_of registers_after
  revalidate_done e holds put = rw (e, put, holds)

  pub exclusive_done : {x : ℕ} {b : Bool} → i ≡ Exclusive x → b ≡ eqb (other_holder t.M t.rights c r.current) t.M
      → accepts (bool_byte b) r t ≡ done_at (state t r) c i
  unfolding done_at effect value_of registers_after nobody_else
  exclusive_done {b = b} e alone = rw (e, one_if b, alone)
