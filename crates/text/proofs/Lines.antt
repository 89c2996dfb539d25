-- Laws of the line at a place, and of a row within limits. Assumes nothing.
use Prim.Native.Nat.{ℕ, suc, ◌+◌, ◌-◌, ◌≤◌, ◌<◌}
use mathlib.Core.Path.{◌≡◌, refl, sym, ap, ◌∙◌}
use mathlib.Core.List.{List, [], ◌∷◌}
use mathlib.Core.Bool.{Bool, true, false, ◌&&◌, true≢false}
use native.Mathlib.Omega.{arith}
use native.Mathlib.Numerals.{add-one}
use lib.ListN.{length, get_or, drop, set, length-set, drop_of_length-le}
use lib.Seq.{drop-cons}
use lib.Dec.{leb, ltb, eqb}
use borrow.Author.Tests.{eq-eqb, ne_eqb, eqb-true, eqb-false, lt-ltb, le-ltb, le-leb, lt-leb, leb-true, ltb-true}
use Rattle.std.proofs.Common.{Option, Some, None}
use Rattle.std.specs.Borrow.{Bor}
use Rattle.std.specs.Option.{unwrap_or}
use Rattle.std.specs.Slice.{IsGetRangeResult}
use Rattle.std.proofs.lemmas.Slice.{between_to_end}
use Rattle.std.specs.List.{starts_with}
use Rattle.std.proofs.lemmas.Option.{same_Some, none-some}
use Rattle.text.specs.Number.{Field, Number, Bad, peek_at, number_at, option_of_field}
use Rattle.text.specs.declared.number.Number.{Number as FoundNumber}
use Rattle.text.specs.Line.{Row, option_of_row, row_of, tab, bad_row, zeros5, word_at, fields_at, row_at, row_within}
use Rattle.text.specs.declared.line.Row.{Row as Found}
use Rattle.text.proofs.Cases.{by_test, below_or_not, and_left, and_right}
use Rattle.text.proofs.Digits.{peek_past}

-- ---- the word: what the text starts with from a place on

-- what stands from a place on: past the end, nothing
pub rest_at : (s : List ℕ) (at : ℕ) (r : Option (Bor (List ℕ))) (none : Bor (List ℕ)) → none.now ≡ [] →
    IsGetRangeResult s at (length s) r → (unwrap_or r none).now ≡ drop at s
rest_at s at None none e h = e ∙ sym (drop_of_length-le s (omega (arith, h.0)))
rest_at s at (Some x) none e h = h.0.2 ∙ between_to_end s at (length s) (omega arith)

pub word_starts : (s : List ℕ) (at : ℕ) (w : List ℕ) → ((k : ℕ) → get_or w k 0 < 256) →
    starts_with eqb (drop at s) w ≡ word_at s at w
word_starts s at [] h = refl
word_starts s at (x ∷ w) h =
    below_or_not at (length s)
    (λ i.
    by_test (eqb (peek_at s at) x)
    (λ e.
    let same : x ≡ peek_at s at = sym (eqb-true (peek_at s at) x e) in
    rw (drop-cons s at 256 i, e, eq-eqb x (peek_at s at) same, ← add-one at) (word_starts s (at + 1) w (λ k. h (suc k))))
    (λ e. rw (drop-cons s at 256 i, e, ne_eqb x (peek_at s at) (λ f. eqb-false (peek_at s at) x e (sym f)))))
    (λ i. rw (drop_of_length-le s i, ne_eqb (peek_at s at) x (λ e. omega (arith, e, peek_past s at i, h 0))))

-- ---- a number and a row as answers

pub found_number : (f : Field) {x : FoundNumber} → Some x ≡ option_of_field f → f ≡ Number x.value x.next
found_number (Number v n) {x} e = ap (λ (y : FoundNumber). Number y.value y.next) (same_Some _ x (sym e))
found_number Bad {x} e = absurd (none-some x (sym e))

-- an answer is a right line, and none is no right line
pub found_row : (r : Row) {f : Found} → Some f ≡ option_of_row r → r ≡ row_of f
found_row r {f} e =
    by_test r.ok
    (λ h.
    let same : ◌≡◌ {A = Option Found} (Some f) (Some (record { next = r.next; v = r.v })) = e ∙ rw h in
    ap (λ (b : Bool). record { ok = b; next = r.next; v = r.v }) h ∙ ap row_of (sym (same_Some _ _ same)))
    (λ h. absurd (none-some f (sym (e ∙ rw h))))

pub no_row : (r : Row) → None ≡ option_of_row r → r.ok ≡ false
no_row r e = by_test r.ok (λ h. absurd (none-some (record { next = r.next; v = r.v }) (e ∙ rw h))) (λ h. h)

-- ---- the loop of `fields_at`: j of k numbers are read into v, and i is the place after them

pub record Reading (s : List ℕ) (at k : ℕ) (v : List ℕ) (i j : ℕ) : Type 0 where
  pub within : j ≤ k
  pub five : length v ≡ 5
  pub same : fields_at s (k - j) j v i ≡ fields_at s k 0 zeros5 at

module _ {s : List ℕ} {at k : ℕ} {v : List ℕ} {i j : ℕ} (m : Reading s at k v i j) where
  one_left : j < k → k - j ≡ suc (k - (j + 1))
  one_left h = omega arith

  pub fields_go_on : j < k → peek_at s i ≡ tab → {x n : ℕ} → number_at s (i + 1) ≡ Number x n →
      Reading s at k (set v j x) n (j + 1)
  fields_go_on h t {x} {n} e =
      let more : fields_at s (k - j) j v i ≡ fields_at s (k - (j + 1)) (j + 1) (set v j x) n =
      rw (one_left h, eq-eqb (peek_at s i) tab t, e) in
      record { within = omega arith; five = length-set v j x ∙ m.five; same = sym more ∙ m.same }

-- ---- the line

module _ (s : List ℕ) (at : ℕ) (w : List ℕ) (k : ℕ) where
  pub row_too_many : 5 < k → bad_row ≡ row_at s at w k
  unfolding row_at
  row_too_many h = rw (lt-leb k 5 h)

  pub row_no_word : k ≤ 5 → word_at s at w ≡ false → bad_row ≡ row_at s at w k
  unfolding row_at
  row_no_word h e = rw (le-leb k 5 h, e)

  pub row_fields : k ≤ 5 → word_at s at w ≡ true → fields_at s k 0 zeros5 (at + length w) ≡ row_at s at w k
  unfolding row_at
  row_fields h e = rw (le-leb k 5 h, e)

-- ---- a row within limits

module _ (r : Row) (j least limit : ℕ) where
  pub within_no_entry : 4 < j → bad_row ≡ row_within r j least limit
  unfolding row_within
  within_no_entry h = rw (le-ltb j 5 h)

  pub within_low : j ≤ 4 → get_or r.v j 0 < least → bad_row ≡ row_within r j least limit
  unfolding row_within
  within_low h l = rw (lt-ltb j 5 (omega arith), lt-leb least (get_or r.v j 0) l)

  pub within_high : j ≤ 4 → least ≤ get_or r.v j 0 → limit ≤ get_or r.v j 0 → bad_row ≡ row_within r j least limit
  unfolding row_within
  within_high h l m =
      rw (lt-ltb j 5 (omega arith), le-leb least (get_or r.v j 0) l, le-ltb (get_or r.v j 0) limit m)

  pub within_limits : j ≤ 4 → least ≤ get_or r.v j 0 → get_or r.v j 0 < limit → r ≡ row_within r j least limit
  unfolding row_within
  within_limits h l m =
      rw (lt-ltb j 5 (omega arith), le-leb least (get_or r.v j 0) l, lt-ltb (get_or r.v j 0) limit m)

  -- where the row is not right, none is within limits
  pub within_no_row : None ≡ option_of_row r → None ≡ option_of_row (row_within r j least limit)
  unfolding row_within
  within_no_row e =
      by_test (ltb j 5 && leb least (get_or r.v j 0) && ltb (get_or r.v j 0) limit)
      (λ h. rw h e)
      (λ h. rw h)

  -- a row that is right within limits is the row itself, and the number is within them
  pub within_passed : (row_within r j least limit).ok ≡ true →
      (row_within r j least limit ≡ r) × (least ≤ get_or r.v j 0) × (get_or r.v j 0 < limit)
  unfolding row_within
  within_passed e =
      let x = get_or r.v j 0 in
      let low = ltb j 5 && leb least x in
      by_test (low && ltb x limit)
      (λ h. (
        rw h,
        leb-true least x (and_right (ltb j 5) (leb least x) (and_left low (ltb x limit) h)),
        ltb-true x limit (and_right low (ltb x limit) h),
      ))
      (λ h. absurd (true≢false (sym e ∙ rw h)))
