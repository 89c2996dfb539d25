-- Laws of a text for which a buffer has room or has not, and of what then stands in the buffer. Assumes nothing.
use Prim.Native.Nat.{ℕ, zero, suc, ◌+◌, ◌*◌, ◌≤◌}
use mathlib.Core.Path.{◌≡◌, refl, sym, ap, ◌∙◌}
use mathlib.Core.List.{List, [], ◌++◌, append_assoc}
use mathlib.Core.Bool.{Bool, true, false, ◌&&◌}
use native.Mathlib.Omega.{arith}
use lib.ListN.{length, get_or, take, drop, length-append, length-take}
use lib.Seq.{sets-eq, length-sets, length-take-le, take_at, drop_at}
use lib.Dec.{leb}
use borrow.Author.Tests.{le-leb, leb-true}
use Rattle.text.specs.Text.{Put, Ends, decimal, fields_text, row_text, in_room, word_in, number_in, row_in}
use Rattle.text.proofs.Cases.{by_test, and_left, and_right}
use Rattle.text.proofs.Writing.{put_nothing, decimal_length}

-- ---- the longest that a text can be

pub fields_length : (k j : ℕ) (v : List ℕ) → length (fields_text k j v) ≤ 11 * k + 1
fields_length zero j v = omega arith
fields_length (suc k) j v =
    let x = get_or v j 0 in
    let rest = fields_text k (j + 1) v in
    omega (arith, length-append (decimal x) rest, decimal_length x, fields_length k (j + 1) v)

module _ (w v : List ℕ) (k : ℕ) (few : k ≤ 5) where
  pub row_line : row_text w v k ≡ w ++ fields_text k 0 v
  unfolding row_text
  row_line = rw (le-leb k 5 few)

  pub row_length : length (row_text w v k) ≤ length w + 11 * k + 1
  row_length = rw row_line (omega (arith, length-append w (fields_text k 0 v), fields_length k 0 v))

-- ---- the tests of `has_room` and `row_has_room`: b is what they answer

module _ (at n len : ℕ) where
  pub room_for : {b : Bool} → b ≡ leb (at + n) len → b ≡ true → at + n ≤ len
  room_for e t = leb-true (at + n) len (sym e ∙ t)

module _ (at word k len : ℕ) where
  pub row_room_for : {b : Bool} → b ≡ (leb k 5 && leb (at + (word + 11 * k + 1)) len) → b ≡ true →
      (k ≤ 5) × (at + (word + 11 * k + 1) ≤ len)
  row_room_for e t =
      let fits = leb (at + (word + 11 * k + 1)) len in (
        leb-true k 5 (and_left (leb k 5) fits (sym e ∙ t)),
        leb-true (at + (word + 11 * k + 1)) len (and_right (leb k 5) fits (sym e ∙ t)),
      )

-- ---- what `put_word`, `put_number` and `put_row` leave, with room and without

pub put_long : {l l₁ : List ℕ} {at r : ℕ} {t : List ℕ} → Put l at t r l₁ → length l₁ ≡ length l
put_long {l} {at = at} {t = t} p = ap length p.bytes ∙ length-sets l at t

module _ (l : List ℕ) (at n : ℕ) {b : Bool} (e : b ≡ leb (at + n) (length l)) where
  put_in_room : {l₁ t : List ℕ} {r : ℕ} → b ≡ true → length t ≤ n → Put l at t r l₁ →
      Put l at (in_room l at n t) r l₁ × Ends at r l₁
  put_in_room {l₁} {r = r} h short p =
      let room : at + n ≤ length l = room_for at n (length l) e h in (
        rw (← e, h) p,
        (omega (arith, p.place, put_long p), sym (length-take r l₁)),
      )

  not_in_room : (t : List ℕ) → b ≡ false → Put l at (in_room l at n t) at l × Ends at at l
  not_in_room t h = (rw (← e, h) (put_nothing l at), (omega arith, sym (length-take at l)))

module _ {l : List ℕ} {at : ℕ} {b : Bool} where
  pub word_put : {w l₁ : List ℕ} {r : ℕ} → b ≡ leb (at + length w) (length l) → b ≡ true → Put l at w r l₁ →
      Put l at (word_in l at w) r l₁ × Ends at r l₁
  unfolding word_in
  word_put {w} e h p = put_in_room l at (length w) e h (omega arith) p

  pub word_not_put : (w : List ℕ) → b ≡ leb (at + length w) (length l) → b ≡ false →
      Put l at (word_in l at w) at l × Ends at at l
  unfolding word_in
  word_not_put w e h = not_in_room l at (length w) e w h

  pub number_put : (n : ℕ) {l₁ : List ℕ} {r : ℕ} → b ≡ leb (at + 10) (length l) → b ≡ true → Put l at (decimal n) r l₁ →
      Put l at (number_in l at n) r l₁ × Ends at r l₁
  unfolding number_in
  number_put n e h p = put_in_room l at 10 e h (decimal_length n) p

  pub number_not_put : (n : ℕ) → b ≡ leb (at + 10) (length l) → b ≡ false →
      Put l at (number_in l at n) at l × Ends at at l
  unfolding number_in
  number_not_put n e h = not_in_room l at 10 e (decimal n) h

  pub row_put : (w v : List ℕ) (k : ℕ) {l₁ : List ℕ} {r : ℕ} →
      b ≡ (leb k 5 && leb (at + (length w + 11 * k + 1)) (length l)) → b ≡ true →
      Put l at (w ++ fields_text k 0 v) r l₁ → Put l at (row_in l at w v k) r l₁ × Ends at r l₁
  unfolding row_in
  row_put w v k e h p =
      let room = row_room_for at (length w) k (length l) e h in
      let fits = le-leb (at + (length w + 11 * k + 1)) (length l) room.1 in
      put_in_room l at (length w + 11 * k + 1) (sym fits) refl (row_length w v k room.0)
      (rw (row_line w v k room.0) p)

  pub row_not_put : (w v : List ℕ) (k : ℕ) → b ≡ (leb k 5 && leb (at + (length w + 11 * k + 1)) (length l)) →
      b ≡ false → Put l at (row_in l at w v k) at l × Ends at at l
  unfolding row_in row_text
  row_not_put w v k e h =
      by_test (leb k 5)
      (λ few. not_in_room l at (length w + 11 * k + 1) refl (row_text w v k) (rw few at (sym e ∙ h)))
      (λ many.
      let none : row_text w v k ≡ [] = rw many in
      by_test (leb (at + (length w + 11 * k + 1)) (length l))
      (λ fits. put_in_room l at (length w + 11 * k + 1) refl fits (rw none (omega arith)) (rw none (put_nothing l at)))
      (λ no. not_in_room l at (length w + 11 * k + 1) refl (row_text w v k) no))

-- ---- for a caller that knows that there is room

module _ (l : List ℕ) (at : ℕ) where
  pub word_fits : (w : List ℕ) → at + length w ≤ length l → word_in l at w ≡ w
  unfolding word_in
  word_fits w h = rw (le-leb (at + length w) (length l) h)

  pub number_fits : (n : ℕ) → at + 10 ≤ length l → number_in l at n ≡ decimal n
  unfolding number_in
  number_fits n h = rw (le-leb (at + 10) (length l) h)

  pub row_fits : (w v : List ℕ) (k : ℕ) → at + (length w + 11 * k + 1) ≤ length l → row_in l at w v k ≡ row_text w v k
  unfolding row_in
  row_fits w v k h = rw (le-leb (at + (length w + 11 * k + 1)) (length l) h)

module _ {l l₁ : List ℕ} {at r : ℕ} {t : List ℕ} (h : at + length t ≤ length l) (p : Put l at t r l₁) where
  split : l₁ ≡ take at l ++ t ++ drop r l
  split = rw p.place (p.bytes ∙ sets-eq t l at h)

  -- what was written so far, and the text
  pub put_front : take r l₁ ≡ take at l ++ t
  put_front =
      let long : length (take at l ++ t) ≡ r =
      omega (arith, length-append (take at l) t, length-take-le at l (omega arith), p.place) in
      ap (take r) split ∙ take_at (take at l ++ t) (drop r l) r long

  -- the text, and what stood behind it
  pub put_stands : drop at l₁ ≡ t ++ drop r l
  put_stands =
      ap (drop at) (split ∙ append_assoc (take at l) t (drop r l))
      ∙ drop_at (take at l) (t ++ drop r l) at (length-take-le at l (omega arith))
