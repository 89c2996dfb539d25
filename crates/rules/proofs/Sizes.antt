-- Laws of lengths and entries: what check 1 says, where an entry stands, and what stands there after a put.
-- Assumes nothing.
use Prim.Native.Nat.{ℕ, ◌+◌, ◌*◌, ◌/◌, ◌%◌, ◌≤◌, ◌<◌}
use mathlib.Core.Path.{◌≡◌, sym, ap, ◌∙◌, subst}
use mathlib.Core.List.{List}
use mathlib.Core.Bool.{true, ◌&&◌}
use native.Mathlib.Omega.{arith}
use native.Mathlib.Nat.{mul-le-mul, mul-le-mul_right, suc-mul}
use lib.Arith.{digits_div, digits_mod}
use lib.ListN.{length, get_or, set}
use lib.Seq.{get_or-set_same, get_or-set_other, set_out}
use lib.Dec.{leb, ltb, eqb}
use borrow.Author.Tests.{leb-true, ltb-true, ltb-false, eqb-true, eqb-false}
use Rattle.rules.specs.Numbers.{Tables, N, L, in_bounds, right_lengths}
use Rattle.rules.specs.Refusals.{well_sized}
use Rattle.rules.proofs.Below.{and_left, and_right, by_test}

-- ---- what check 1 says

-- M, N and L are in their bounds
pub record Bounds (m n l : ℕ) : Type 0 where
  pub some : 1 ≤ m
  pub divisions : m ≤ 32
  pub cells : n ≤ 256
  pub bytes : l ≤ 65536

pub bounds : (m n l : ℕ) → in_bounds m n l ≡ true → Bounds m n l
unfolding in_bounds
bounds m n l e =
    let a = and_left (leb 1 m && leb m 32 && leb n 256) _ e in
    let b = and_left (leb 1 m && leb m 32) _ a in
    record {
      some = leb-true 1 m (and_left (leb 1 m) _ b);
      divisions = leb-true m 32 (and_right (leb 1 m) _ b);
      cells = leb-true n 256 (and_right (leb 1 m && leb m 32) _ a);
      bytes = leb-true l 65536 (and_right (leb 1 m && leb m 32 && leb n 256) _ e);
    }

-- and every list has its length
pub record Sized (t : Tables) : Type 0 where
  pub within : Bounds t.M (N t) (L t)
  pub lasts : length t.last ≡ N t
  pub offsets : length t.offset ≡ N t
  pub marked : length t.marks ≡ N t
  pub rights_long : length t.rights ≡ N t * t.M
  pub grants_long : length t.grants ≡ N t * t.M

pub sized : (t : Tables) → well_sized t ≡ true → Sized t
unfolding well_sized right_lengths
sized t e =
    let l = eqb (length t.last) (N t) in
    let o = eqb (length t.offset) (N t) in
    let k = eqb (length t.marks) (N t) in
    let r = eqb (length t.rights) (N t * t.M) in
    let w = and_right (in_bounds t.M (N t) (L t)) _ e in
    let a = and_left (l && o && k && r) _ w in
    let b = and_left (l && o && k) _ a in
    let d = and_left (l && o) _ b in
    record {
      within = bounds _ _ _ (and_left (in_bounds t.M (N t) (L t)) _ e);
      lasts = eqb-true _ _ (and_left l _ d);
      offsets = eqb-true _ _ (and_right l _ d);
      marked = eqb-true _ _ (and_right (l && o) _ b);
      rights_long = eqb-true _ _ (and_right (l && o && k) _ a);
      grants_long = eqb-true _ _ (and_right (l && o && k && r) _ w);
    }

-- ---- entries: cell × M + division

pub row_below : (c n m : ℕ) → c < n → c * m + m ≤ n * m
row_below c n m h = rw (← suc-mul c m) (mul-le-mul_right m h)

pub entry_below : (c n d m : ℕ) → c < n → d < m → c * m + d < n * m
entry_below c n d m h k = omega (arith, row_below c n m h)

-- at most 256 cells and 32 divisions
pub entries_few : {m n l : ℕ} → Bounds m n l → n * m ≤ 8192
entries_few b = mul-le-mul b.cells b.divisions

-- an entry's cell and division are its own
pub same_cell : (m c d k e : ℕ) → d < m → e < m → c * m + d ≡ k * m + e → c ≡ k
same_cell m c d k e h l q = sym (digits_div c h) ∙ ap (λ (i : ℕ). i / m) q ∙ digits_div k l

pub same_division : (m c d k e : ℕ) → d < m → e < m → c * m + d ≡ k * m + e → d ≡ e
same_division m c d k e h l q = sym (digits_mod c h) ∙ ap (λ (i : ℕ). i % m) q ∙ digits_mod k l

-- ---- after a put

-- what holds of the number put, and held of the one that stood there, holds of the one that stands there now
pub after_put : (P : ℕ → Type 0) (l : List ℕ) (i j v : ℕ) → (j ≡ i → P v) → P (get_or l j 0) → P (get_or (set l i v) j 0)
after_put P l i j v f h =
    by_test (eqb j i)
    (λ e. let q : j ≡ i = eqb-true j i e in
    by_test (ltb i (length l))
    (λ b. subst (λ (k : ℕ). P (get_or (set l i v) k 0)) (sym q) (subst P (sym (get_or-set_same l i v 0 (ltb-true _ _ b))) (f q)))
    (λ b. subst (λ (k : List ℕ). P (get_or k j 0)) (sym (set_out l i v (ltb-false _ _ b))) h))
    (λ e. subst P (sym (get_or-set_other l i j v 0 (eqb-false j i e))) h)
