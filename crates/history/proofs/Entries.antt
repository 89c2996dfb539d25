-- What the tables show of holding and offering, and what they show after one entry was put. Assumes nothing.
use Prim.Native.Nat.{ℕ, ◌<◌}
use mathlib.Core.Path.{◌≡◌}
use mathlib.Core.Logic.{◌⊎◌, inl, inr}
use mathlib.Core.Bool.{true, false, ◌&&◌}
use lib.Dec.{ltb}
use borrow.Author.Tests.{ltb-true, lt-ltb}
use Rattle.rules.specs.Numbers.{Tables, N, held, grant_of, rights_in, entry}
use Rattle.rules.specs.Instructions.{grant_names, put_rights, put_grant}
use Rattle.rules.proofs.Below.{and_left, and_right, clash}
use Rattle.rules.proofs.Sizes.{same_cell, same_division}
use Rattle.history.specs.History.{Right}
use Rattle.history.specs.Shown.{has, holds_in, offers_in}
use Rattle.history.proofs.Bits.{put_cases}

-- ---- what it says to hold, and to offer

pub record Holding (t : Tables) (c d : ℕ) (r : Right) : Type 0 where
  pub cell : c < N t
  pub division : d < t.M
  pub right : has r (held t c d) ≡ true

pub holds_means : (t : Tables) (c d : ℕ) (r : Right) → holds_in t c d r ≡ true → Holding t c d r
unfolding holds_in
holds_means t c d r e =
    let two = and_left (ltb c (N t) && ltb d t.M) _ e in
    record {
      cell = ltb-true _ _ (and_left (ltb c (N t)) _ two);
      division = ltb-true _ _ (and_right (ltb c (N t)) _ two);
      right = and_right (ltb c (N t) && ltb d t.M) _ e;
    }

pub holds_made : (t : Tables) (c d : ℕ) (r : Right) → Holding t c d r → holds_in t c d r ≡ true
unfolding holds_in
holds_made t c d r h = rw (lt-ltb _ _ h.cell, lt-ltb _ _ h.division) h.right

pub holds_not : (t : Tables) (c d : ℕ) (r : Right) → c < N t → d < t.M → holds_in t c d r ≡ false → has r (held t c d) ≡ false
unfolding holds_in
holds_not t c d r h l e = rw (lt-ltb _ _ h, lt-ltb _ _ l) at e

-- the grant g is made out to d, with the right
abbrev pub Granting : (d : ℕ) (r : Right) (g : ℕ) → Type 0
Granting d r g = (grant_names g d ≡ true) × (has r (rights_in g) ≡ true)

pub record Offering (t : Tables) (c m d : ℕ) (r : Right) : Type 0 where
  pub cell : c < N t
  pub maker : m < t.M
  pub grant : Granting d r (grant_of t c m)

pub offers_means : (t : Tables) (c m d : ℕ) (r : Right) → offers_in t c m d r ≡ true → Offering t c m d r
unfolding offers_in
offers_means t c m d r e =
    let a = ltb c (N t) in
    let b = ltb m t.M in
    let g = grant_names (grant_of t c m) d in
    let three = and_left (a && b && g) _ e in
    let two = and_left (a && b) _ three in
    record {
      cell = ltb-true _ _ (and_left a b two);
      maker = ltb-true _ _ (and_right a b two);
      grant = (and_right (a && b) g three, and_right (a && b && g) _ e);
    }

pub offers_made : (t : Tables) (c m d : ℕ) (r : Right) → Offering t c m d r → offers_in t c m d r ≡ true
unfolding offers_in
offers_made t c m d r h =
    rw (lt-ltb _ _ h.cell, lt-ltb _ _ h.maker, h.grant.0) h.grant.1

-- ---- after a put

module _ (t : Tables) (c d : ℕ) (l : d < t.M) where
  -- a right gained by a put is among the rights put, on that cell, for that division
  pub put_gain : (p k e : ℕ) (r : Right) → holds_in t k e r ≡ false → holds_in (put_rights t c d p) k e r ≡ true
      → (k ≡ c) × (e ≡ d) × (has r p ≡ true)
  put_gain p k e r n h =
      let w : Holding (put_rights t c d p) k e r = holds_means (put_rights t c d p) k e r h in
      go w (put_cases (λ v. has r v ≡ true) t.rights (entry t c d) (entry t k e) p w.right)
    where
      go : Holding (put_rights t c d p) k e r → ((entry t k e ≡ entry t c d) × (has r p ≡ true)) ⊎ (has r (held t k e) ≡ true)
          → (k ≡ c) × (e ≡ d) × (has r p ≡ true)
      go w (inl q) = (same_cell t.M k e c d w.division l q.0, same_division t.M k e c d w.division l q.0, q.1)
      go w (inr q) = clash _ q (holds_not t k e r w.cell w.division n)

  -- a grant that stands after a put was put there, or stood before
  pub put_offer : (g k m e : ℕ) (r : Right) → offers_in (put_grant t c d g) k m e r ≡ true
      → ((k ≡ c) × (m ≡ d) × Granting e r g) ⊎ (offers_in t k m e r ≡ true)
  put_offer g k m e r h =
      let w : Offering (put_grant t c d g) k m e r = offers_means (put_grant t c d g) k m e r h in
      go w (put_cases (Granting e r) t.grants (entry t c d) (entry t k m) g w.grant)
    where
      go : Offering (put_grant t c d g) k m e r → ((entry t k m ≡ entry t c d) × Granting e r g) ⊎ Granting e r (grant_of t k m)
          → ((k ≡ c) × (m ≡ d) × Granting e r g) ⊎ (offers_in t k m e r ≡ true)
      go w (inl q) = inl (same_cell t.M k m c d w.maker l q.0, same_division t.M k m c d w.maker l q.0, q.1)
      go w (inr q) = inr (offers_made t k m e r (record { cell = w.cell; maker = w.maker; grant = q }))
