-- What is written reads back: a number, then a line, then what `put_row` left in a buffer. Assumes nothing.
use Prim.Native.Nat.{ℕ, zero, suc, ◌+◌, ◌-◌, ◌*◌, ◌/◌, ◌%◌, ◌≤◌, ◌<◌}
use mathlib.Core.Path.{◌≡◌, refl, sym, ap, ◌∙◌}
use mathlib.Core.List.{List, [], ◌∷◌, ◌++◌, append_assoc}
use mathlib.Core.Bool.{true, false}
use native.Mathlib.Omega.{arith}
use native.Mathlib.Nat.{add-zero}
use native.Mathlib.Numerals.{add-one}
use lib.ListN.{length, get_or, drop, take, set, length-append, length-set, take-append-drop}
use lib.Seq.{drop-drop, drop-append_seam, drop-cons, take-suc-set, drop-set-lt, append_snoc}
use borrow.Author.Tests.{lt-ltb, le-ltb, eq-eqb, ne_eqb, le-leb}
use Rattle.text.specs.Number.{peek_at, is_digit, digits_in, value_from, number_at, Number}
use Rattle.text.specs.Line.{tab, line_feed, word_at, fields_at, row_at, zeros5}
use Rattle.text.specs.Text.{Put, decimal_in, decimal, fields_text, row_text, row_in}
use Rattle.text.proofs.Cases.{below_or_not}
use Rattle.text.proofs.Digits.{digit_between, run_stops, peek_drop}
use Rattle.text.proofs.Lines.{row_fields}
use Rattle.text.proofs.Room.{row_line, row_length, row_fits, put_stands}

-- ---- a number

-- the least number of more than f digits
abbrev pub tens : (f : ℕ) → ℕ
tens zero = 1
tens (suc f) = 10 * tens f

-- a digit in front of a text
module _ (d : ℕ) (t : List ℕ) (h : d < 10) where
  digit_counts : digits_in ((48 + d) ∷ t) ≡ 1 + digits_in t
  digit_counts = rw (digit_between (48 + d) (omega arith) (omega arith)) (omega arith)

  digit_shifts : (v : ℕ) → value_from v ((48 + d) ∷ t) ≡ value_from (10 * v + d) t
  digit_shifts v =
      let e : 10 * v + (48 + d - 48) ≡ 10 * v + d = omega arith in
      rw (digit_between (48 + d) (omega arith) (omega arith), e)

-- a number below ten is its digit; another is its tenth and then its last digit
module _ (f n : ℕ) where
  small_length : n < 10 → length (decimal_in (suc f) n) ≡ 1
  small_length h = rw (lt-ltb n 10 h) (omega arith)

  large_length : 10 ≤ n → length (decimal_in (suc f) n) ≡ length (decimal_in f (n / 10)) + 1
  large_length h = rw (le-ltb n 10 h) (length-append (decimal_in f (n / 10)) ((48 + n % 10) ∷ []))

  module _ (t : List ℕ) where
    small : n < 10 → decimal_in (suc f) n ++ t ≡ (48 + n) ∷ t
    small h = rw (lt-ltb n 10 h)

    large : 10 ≤ n → decimal_in (suc f) n ++ t ≡ decimal_in f (n / 10) ++ ((48 + n % 10) ∷ t)
    large h = rw (le-ltb n 10 h) (append_assoc (decimal_in f (n / 10)) ((48 + n % 10) ∷ []) t)

digits_of : (f n : ℕ) (t : List ℕ) → digits_in (decimal_in f n ++ t) ≡ length (decimal_in f n) + digits_in t
digits_of zero n t = omega arith
digits_of (suc f) n t =
    below_or_not n 10
    (λ h. ap digits_in (small f n t h) ∙ omega (arith, digit_counts n t h, small_length f n h))
    (λ h.
    let last = digit_counts (n % 10) t (omega arith) in
    ap digits_in (large f n t h) ∙ omega (arith, digits_of f (n / 10) ((48 + n % 10) ∷ t), last, large_length f n h))

value_of : (f n : ℕ) (t : List ℕ) → n < tens f → value_from 0 (decimal_in f n ++ t) ≡ value_from n t
value_of zero n t k = let z : 0 ≡ n = omega arith in ap (λ (v : ℕ). value_from v t) z
value_of (suc f) n t k =
    below_or_not n 10
    (λ h.
    let z : 10 * 0 + n ≡ n = omega arith in
    ap (value_from 0) (small f n t h) ∙ digit_shifts n t h 0 ∙ ap (λ (v : ℕ). value_from v t) z)
    (λ h.
    let whole : 10 * (n / 10) + n % 10 ≡ n = omega arith in
    ap (value_from 0) (large f n t h)
    ∙ value_of f (n / 10) ((48 + n % 10) ∷ t) (omega arith)
    ∙ digit_shifts (n % 10) t (omega arith) (n / 10)
    ∙ ap (λ (v : ℕ). value_from v t) whole)

-- only 0 starts with a zero
no_zero_first : (f n : ℕ) (t : List ℕ) → n < tens f → 0 < n → peek_at (decimal_in f n ++ t) 0 ≡ 48 → ⊥
no_zero_first zero n t k p e = omega arith
no_zero_first (suc f) n t k p e =
    below_or_not n 10
    (λ h. let q : 48 + n ≡ 48 = ap (λ (l : List ℕ). peek_at l 0) (sym (small f n t h)) ∙ e in omega arith)
    (λ h.
    no_zero_first f (n / 10) ((48 + n % 10) ∷ t) (omega arith) (omega arith)
    (ap (λ (l : List ℕ). peek_at l 0) (sym (large f n t h)) ∙ e))

-- the number that stands written at a place, before no digit, is read there
module _ (at n : ℕ) (t : List ℕ) (h : n ≤ 4294967295) (end : is_digit (peek_at t 0) ≡ false) where
  count_is : digits_in (decimal_in 10 n ++ t) ≡ length (decimal_in 10 n)
  count_is = omega (arith, digits_of 10 n t, (run_stops n t end).0)

  value_is : value_from 0 (decimal_in 10 n ++ t) ≡ n
  value_is = value_of 10 n t (omega arith) ∙ (run_stops n t end).1

  some_digit : 0 < length (decimal_in 10 n)
  some_digit =
      below_or_not n 10 (λ k. omega (arith, small_length 9 n k)) (λ k. omega (arith, large_length 9 n k))

  decimal_reads : (s : List ℕ) → drop at s ≡ decimal_in 10 n ++ t →
      number_at s at ≡ Number n (at + length (decimal_in 10 n))
  unfolding number_at
  decimal_reads s e =
      below_or_not 0 n
      (λ k.
      rw (
        e,
        count_is,
        value_is,
        lt-ltb 0 (length (decimal_in 10 n)) some_digit,
        le-leb n 4294967295 h,
        ne_eqb (peek_at (decimal_in 10 n ++ t) 0) 48 (no_zero_first 10 n t (omega arith) k),
      ))
      (λ k.
      let only : length (decimal_in 10 n) ≡ 1 = small_length 9 n (omega arith) in
      let zero_first : peek_at (decimal_in 10 n ++ t) 0 ≡ 48 =
      ap (λ (l : List ℕ). peek_at l 0) (small 9 n t (omega arith)) ∙ omega arith in
      rw (
        e,
        count_is,
        value_is,
        lt-ltb 0 (length (decimal_in 10 n)) some_digit,
        le-leb n 4294967295 h,
        eq-eqb (peek_at (decimal_in 10 n ++ t) 0) 48 zero_first,
        eq-eqb (length (decimal_in 10 n)) 1 only,
      ))

  pub number_back : (s : List ℕ) → drop at s ≡ decimal n ++ t → number_at s at ≡ Number n (at + length (decimal n))
  unfolding decimal
  number_back s e = decimal_reads s e

-- ---- a line

module _ (s : List ℕ) (at : ℕ) where
  front : {x : ℕ} {u : List ℕ} → drop at s ≡ x ∷ u → (peek_at s at ≡ x) × (drop (at + 1) s ≡ u)
  front e = (
    sym (peek_drop s at) ∙ ap (λ (l : List ℕ). peek_at l 0) e,
    sym (drop-drop 1 at s) ∙ ap (λ (l : List ℕ). drop 1 l) e,
  )

  behind : (t u : List ℕ) → drop at s ≡ t ++ u → drop (at + length t) s ≡ u
  behind t u e = sym (drop-drop (length t) at s) ∙ ap (drop (length t)) e ∙ drop-append_seam t u

-- k entries of v, from j on, over those of w
abbrev over : (k j : ℕ) (v w : List ℕ) → List ℕ
over k j v w = take j w ++ (take k (drop j v) ++ drop (j + k) w)

over_none : (j : ℕ) (v w : List ℕ) → w ≡ over 0 j v w
over_none j v w = rw add-zero (sym (take-append-drop j w))

over_more : (k j : ℕ) (v w : List ℕ) → j < length v → j < length w →
    over k (j + 1) v (set w j (get_or v j 0)) ≡ over (suc k) j v w
over_more k j v w h g =
    let x = get_or v j 0 in
    let place : j + 1 + k ≡ j + suc k = omega arith in
    rw (place, drop-set-lt (j + suc k) w j x (omega arith), add-one j, take-suc-set w j x g, drop-cons v j 0 h)
    (append_snoc (take j w) x (take k (drop (suc j) v) ++ drop (j + suc k) w))

no_digit : (k j : ℕ) (v rest : List ℕ) → is_digit (peek_at (fields_text k j v ++ rest) 0) ≡ false
no_digit zero j v rest = refl
no_digit (suc k) j v rest = refl

-- no entry is more than a number can be
abbrev pub Small : List ℕ → Type 0
Small v = (j : ℕ) → get_or v j 0 ≤ 4294967295

module _ (s v : List ℕ) (small : Small v) (rest : List ℕ) where
  fields_back : (k j : ℕ) (w : List ℕ) (at : ℕ) → j + k ≤ length v → j + k ≤ length w →
      drop at s ≡ fields_text k j v ++ rest →
      fields_at s k j w at ≡ record { ok = true; next = at + length (fields_text k j v); v = over k j v w }
  fields_back zero j w at h g e =
      rw (eq-eqb (peek_at s at) line_feed (front s at e).0)
      (ap (λ (u : List ℕ). record { ok = true; next = at + 1; v = u }) (over_none j v w))
  fields_back (suc k) j w at h g e =
      let x = get_or v j 0 in
      let f = fields_text k (j + 1) v in
      let p = front s at e in
      let text : drop (at + 1) s ≡ decimal x ++ (f ++ rest) = p.1 ∙ append_assoc (decimal x) f rest in
      let number = number_back (at + 1) x (f ++ rest) (small j) (no_digit k (j + 1) v rest) s text in
      let next = at + 1 + length (decimal x) in
      let place : next + length f ≡ at + suc (length (decimal x ++ f)) = omega (arith, length-append (decimal x) f) in
      rw (eq-eqb (peek_at s at) tab p.0, number)
      (fields_back k (j + 1) (set w j x) next (omega arith) (omega (arith, length-set w j x))
      (behind s (at + 1) (decimal x) (f ++ rest) text)
      ∙ rw (place, over_more k j v w (omega arith) (omega arith)))

word_back : (s w u : List ℕ) (at : ℕ) → drop at s ≡ w ++ u → word_at s at w ≡ true
word_back s [] u at e = refl
word_back s (x ∷ w) u at e =
    let p = front s at e in
    rw (eq-eqb (peek_at s at) x p.0) (word_back s w u (at + 1) p.1)

-- a line that stands written at a place is read there: the place after it, and its numbers, 0 past the last
module _ (w v : List ℕ) (k : ℕ) (few : k ≤ 5) (enough : k ≤ length v) (small : Small v) where
  pub row_back : (s rest : List ℕ) (at : ℕ) → drop at s ≡ row_text w v k ++ rest →
      row_at s at w k ≡ record { ok = true; next = at + length (row_text w v k); v = take k v ++ drop k zeros5 }
  row_back s rest at e =
      let f = fields_text k 0 v in
      let text : drop at s ≡ w ++ (f ++ rest) =
      e ∙ ap (λ (l : List ℕ). l ++ rest) (row_line w v k few) ∙ append_assoc w f rest in
      let place : at + length w + length f ≡ at + length (row_text w v k) =
      rw (row_line w v k few) (omega (arith, length-append w f)) in
      let zero_first : 0 + k ≡ k = omega arith in
      sym (row_fields s at w k few (word_back s w (f ++ rest) at text))
      ∙ fields_back s v small rest k 0 zeros5 (at + length w) (omega arith) (omega arith)
      (behind s at w (f ++ rest) text)
      ∙ rw (place, zero_first)

  -- what `put_row` wrote where there is room
  pub put_row_back : {l l₁ : List ℕ} {at r : ℕ} → at + (length w + 11 * k + 1) ≤ length l →
      Put l at (row_in l at w v k) r l₁ →
      row_at l₁ at w k ≡ record { ok = true; next = r; v = take k v ++ drop k zeros5 }
  put_row_back {l} {l₁} {at} {r} room p =
      let line : Put l at (row_text w v k) r l₁ = rw (row_fits l at w v k room) at p in
      let inside : at + length (row_text w v k) ≤ length l = omega (arith, row_length w v k few) in
      row_back l₁ (drop r l) at (put_stands inside line) ∙ rw (← line.place)
