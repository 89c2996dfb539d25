-- Laws of a line within limits. Assumes nothing.
use Prim.Native.Nat.{ℕ, suc, ◌+◌, ◌*◌, ◌≤◌, ◌<◌}
use mathlib.Core.Path.{◌≡◌, refl, sym, ap, ◌∙◌}
use mathlib.Core.List.{List}
use mathlib.Core.Bool.{Bool, true, ◌&&◌}
use Rattle.std.proofs.Common.{Option, Some, None}
use Rattle.std.proofs.lemmas.Option.{same_Some, none-some}
use native.Mathlib.Omega.{arith}
use native.Mathlib.Nat.{mul-le-mul_right, mul-le-mul, suc-mul}
use lib.ListN.{length, get_or}
use lib.Dec.{ltb, leb}
use borrow.Author.Tests.{ltb-true}
use Rattle.text.specs.Line.{bad_row, row_at, row_within, Row}
use Rattle.text.proofs.Cases.{by_test, and_right}
use Rattle.text.proofs.Lines.{within_passed}
use Rattle.text.proofs.Advance.{row_advance}
use Rattle.listing.specs.Words.{right_word, grant_word, byte_word, cell_word, size_word, do_word}
use Rattle.listing.specs.Lines.{field, size_row, cell_row, right_row, grant_row, byte_row, do_row, Entry, option_of_entry, right_at, grant_at, byte_at}
use Rattle.listing.specs.Reading.{Told}
use Rattle.listing.specs.declared.entries.Entry.{Entry as Found}

module _ (r : Row) (j least limit : ℕ) where
  abbrev passes : Bool
  passes = ltb j 5 && leb least (get_or r.v j 0) && ltb (get_or r.v j 0) limit

  below : passes ≡ true → field r j < limit
  below h = ltb-true (field r j) limit (and_right (ltb j 5 && leb least (field r j)) (ltb (field r j) limit) h)

  -- a right line within limits is that line, and its number j is within them
  pub within_ok : (row_within r j least limit).ok ≡ true
      → (r.ok ≡ true) × (row_within r j least limit ≡ r) × (field r j < limit) × (least ≤ field r j)
  within_ok e =
      let p = within_passed r j least limit e in
      (ap (λ (r : Row). r.ok) (sym p.0) ∙ e, p.0, p.2, p.1)

  -- what holds of the line and of the bad row holds of the line within limits
  pub within_either : (P : Row → Type 0) → P r → P bad_row → P (row_within r j least limit)
  unfolding row_within
  within_either P p q = by_test passes (λ h. rw h p) (λ h. rw h q)

  pub within_below : field bad_row j ≡ 0 → 0 < limit → field (row_within r j least limit) j < limit
  unfolding row_within
  within_below z k = by_test passes (λ h. rw h (below h)) (λ h. rw h (omega (arith, z)))

  pub within_most : field bad_row j ≡ 0 → field (row_within r j least limit) j ≤ limit
  unfolding row_within
  within_most z = by_test passes (λ h. rw h (omega (arith, below h))) (λ h. rw h (omega (arith, z)))

-- ---- the numbers of a line, right or not

pub size_divisions : (s : List ℕ) (at : ℕ) → (size_row s at).ok ≡ true → (1 ≤ field (size_row s at) 0) × (field (size_row s at) 0 ≤ 32)
unfolding size_row
size_divisions s at e =
    let r = row_at s at size_word 2 in
    let p = within_ok (row_within r 0 1 33) 1 0 65537 e in
    let q = within_ok r 0 1 33 p.0 in
    rw (p.1, q.1) (q.3, omega (arith, q.2))

pub size_bytes : (s : List ℕ) (at : ℕ) → field (size_row s at) 1 ≤ 65536
unfolding size_row
size_bytes s at = omega (arith, within_below (row_within (row_at s at size_word 2) 0 1 33) 1 0 65537 refl (omega arith))

pub mark_below : (s : List ℕ) (at : ℕ) → field (cell_row s at) 3 < 2
unfolding cell_row
mark_below s at = within_below (row_at s at cell_word 4) 3 0 2 refl (omega arith)

-- so few cells and divisions that their product is small
abbrev pub FewNamed : Row → Type 0
FewNamed r = (field r 0 ≤ 256) × (field r 1 ≤ 32)

few_named : (r : Row) (n m : ℕ) → n ≤ 256 → m ≤ 32 → FewNamed (row_within (row_within r 0 0 n) 1 0 m)
few_named r n m h k = (
  within_either (row_within r 0 0 n) 1 0 m (λ (r : Row). field r 0 ≤ 256) (omega (arith, within_most r 0 0 n refl)) (omega arith),
  omega (arith, within_most (row_within r 0 0 n) 1 0 m refl),
)

pub right_few : (n m : ℕ) (s : List ℕ) (at : ℕ) → n ≤ 256 → m ≤ 32 → FewNamed (right_row n m s at)
unfolding right_row
right_few n m s at h k =
    within_either (row_within (row_within (row_at s at right_word 3) 0 0 n) 1 0 m) 2 1 8 FewNamed
    (few_named (row_at s at right_word 3) n m h k) (omega arith, omega arith)

pub grant_few : (n m : ℕ) (s : List ℕ) (at : ℕ) → n ≤ 256 → m ≤ 32 → FewNamed (grant_row n m s at)
unfolding grant_row
grant_few n m s at h k =
    let r = row_within (row_within (row_at s at grant_word 4) 0 0 n) 1 0 m in
    within_either (row_within r 2 0 m) 3 1 8 FewNamed
    (within_either r 2 0 m FewNamed (few_named (row_at s at grant_word 4) n m h k) (omega arith, omega arith))
    (omega arith, omega arith)

pub product_small : (c m : ℕ) → c ≤ 256 → m ≤ 32 → c * m ≤ 8192
product_small c m h k = mul-le-mul {n₁ = c} {m₁ = m} {n₂ = 256} {m₂ = 32} h k

pub rights_below : (n m : ℕ) (s : List ℕ) (at : ℕ) → field (right_row n m s at) 2 < 8
unfolding right_row
rights_below n m s at = within_below (row_within (row_within (row_at s at right_word 3) 0 0 n) 1 0 m) 2 1 8 refl (omega arith)

pub byte_below : (l : ℕ) (s : List ℕ) (at : ℕ) → field (byte_row l s at) 1 < 256
unfolding byte_row
byte_below l s at = within_below (row_within (row_at s at byte_word 2) 0 0 l) 1 1 256 refl (omega arith)

module _ (n m : ℕ) (s : List ℕ) (at : ℕ) where
  abbrev granted : Row
  granted = row_within (row_within (row_within (row_at s at grant_word 4) 0 0 n) 1 0 m) 2 0 m

  pub grant_below : field (grant_row n m s at) 3 < 8
  unfolding grant_row
  grant_below = within_below granted 3 1 8 refl (omega arith)

  pub target_most : field (grant_row n m s at) 2 ≤ m
  unfolding grant_row
  target_most =
      within_either granted 3 1 8 (λ (r : Row). field r 2 ≤ m)
      (within_most (row_within (row_within (row_at s at grant_word 4) 0 0 n) 1 0 m) 2 0 m refl) (omega arith)

  pub target_below : 1 ≤ m → field (grant_row n m s at) 2 < m
  unfolding grant_row
  target_below h =
      within_either granted 3 1 8 (λ (r : Row). field r 2 < m)
      (within_below (row_within (row_within (row_at s at grant_word 4) 0 0 n) 1 0 m) 2 0 m refl h) h

-- ---- a right line names an entry of its list

-- entry c × m + d of n × m
pub entry_inside : (c d n m : ℕ) → c < n → d < m → c * m + d < n * m
entry_inside c d n m h g = omega (arith, mul-le-mul_right {m = suc c} {n = n} m h, suc-mul c m, g)

pub right_inside : (n m : ℕ) (s : List ℕ) (at : ℕ) → (right_at n m s at).ok ≡ true → (right_at n m s at).key < n * m
unfolding right_at right_row
right_inside n m s at e =
    let r₀ = row_at s at right_word 3 in
    let r₁ = row_within r₀ 0 0 n in
    let r₂ = row_within r₁ 1 0 m in
    let p₂ = within_ok r₂ 2 1 8 e in
    let p₁ = within_ok r₁ 1 0 m p₂.0 in
    let p₀ = within_ok r₀ 0 0 n p₁.0 in
    rw (p₂.1, p₁.1, p₀.1) (entry_inside (field r₀ 0) (field r₀ 1) n m p₀.2 (rw p₀.1 at p₁.2))

pub grant_inside : (n m : ℕ) (s : List ℕ) (at : ℕ) → (grant_at n m s at).ok ≡ true → (grant_at n m s at).key < n * m
unfolding grant_at grant_row
grant_inside n m s at e =
    let r₀ = row_at s at grant_word 4 in
    let r₁ = row_within r₀ 0 0 n in
    let r₂ = row_within r₁ 1 0 m in
    let r₃ = row_within r₂ 2 0 m in
    let p₃ = within_ok r₃ 3 1 8 e in
    let p₂ = within_ok r₂ 2 0 m p₃.0 in
    let p₁ = within_ok r₁ 1 0 m p₂.0 in
    let p₀ = within_ok r₀ 0 0 n p₁.0 in
    rw (p₃.1, p₂.1, p₁.1, p₀.1) (entry_inside (field r₀ 0) (field r₀ 1) n m p₀.2 (rw p₀.1 at p₁.2))

pub byte_inside : (l : ℕ) (s : List ℕ) (at : ℕ) → (byte_at l s at).ok ≡ true → (byte_at l s at).key < l
unfolding byte_at byte_row
byte_inside l s at e =
    let r₀ = row_at s at byte_word 2 in
    let p₁ = within_ok (row_within r₀ 0 0 l) 1 1 256 e in
    let p₀ = within_ok r₀ 0 0 l p₁.0 in
    rw (p₁.1, p₀.1) p₀.2

-- ---- an answer names what the line names

-- it is the line
pub entry_found : (t : Entry) {e : Found ℕ} → Some e ≡ option_of_entry t → t ≡ record { ok = true; next = e.next; key = e.key; value = e.value }
entry_found t {e} q =
    by_test t.ok
    (λ h.
    let same : ◌≡◌ {A = Option (Found ℕ)} (Some e) (Some (record { next = t.next; key = t.key; value = t.value })) = q ∙ rw h in
    ap (λ (b : Bool). record { ok = b; next = t.next; key = t.key; value = t.value }) h
    ∙ ap (λ (e : Found ℕ). record { ok = true; next = e.next; key = e.key; value = e.value }) (sym (same_Some _ _ same)))
    (λ h. absurd (none-some e (sym (q ∙ rw h))))

pub told : (t : Entry) (r : Option (Found ℕ)) → r ≡ option_of_entry t → Told (λ (x : ℕ). x) r t
told t None q = by_test t.ok (λ h. absurd (none-some (record { next = t.next; key = t.key; value = t.value }) (q ∙ rw h))) (λ h. h)
told t (Some e) q = entry_found t q

-- so the entry that it names lies in the list
pub right_key : (n m : ℕ) (s : List ℕ) (at : ℕ) {e : Found ℕ} → Some e ≡ option_of_entry (right_at n m s at) → e.key < n * m
right_key n m s at q = let t = entry_found (right_at n m s at) q in rw t at (right_inside n m s at (ap (λ (t : Entry). t.ok) t))

pub grant_key : (n m : ℕ) (s : List ℕ) (at : ℕ) {e : Found ℕ} → Some e ≡ option_of_entry (grant_at n m s at) → e.key < n * m
grant_key n m s at q = let t = entry_found (grant_at n m s at) q in rw t at (grant_inside n m s at (ap (λ (t : Entry). t.ok) t))

pub byte_key : (l : ℕ) (s : List ℕ) (at : ℕ) {e : Found ℕ} → Some e ≡ option_of_entry (byte_at l s at) → e.key < l
byte_key l s at q = let t = entry_found (byte_at l s at) q in rw t at (byte_inside l s at (ap (λ (t : Entry). t.ok) t))

-- ---- a do line has at least 11 bytes

pub do_advance : (s : List ℕ) (at : ℕ) → (do_row s at).ok ≡ true → (at + 11 ≤ (do_row s at).next) × ((do_row s at).next ≤ length s)
unfolding do_row
do_advance s at e = let a = row_advance s at do_word 4 e in (omega (arith, a.0), a.1)
