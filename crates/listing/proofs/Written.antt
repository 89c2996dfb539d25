-- Laws of lines written one after the other. Assumes nothing.
use Prim.Native.Nat.{ℕ, zero, suc, ◌+◌, ◌*◌, ◌/◌, ◌%◌, ◌≤◌, ◌<◌}
use mathlib.Core.Path.{◌≡◌, refl, sym, ap, ◌∙◌}
use mathlib.Core.List.{List, [], ◌∷◌, ◌++◌, append_assoc, append-nil}
use native.Mathlib.Omega.{arith}
use native.Mathlib.Nat.{add-zero, mul-add, mul-one, mul-le-mul_left, div-le_self, mod-lt}
use native.Mathlib.Numerals.{add-one}
use lib.ListN.{length, get_or, length-append}
use borrow.Author.Tests.{ne_eqb, lt-ltb, le-ltb}
use Rattle.text.specs.Text.{Put, decimal_in, decimal, fields_text, row_text, row_in}
use Rattle.text.proofs.Writing.{put_nothing, put_then, decimal_length}
use Rattle.text.proofs.Cases.{below_or_not}
use Rattle.text.proofs.Round.{tens}
use Rattle.text.proofs.Room.{put_long, row_fits, row_line, row_length}
use Rattle.listing.specs.Words.{answer_word, right_word, grant_word}
use Rattle.listing.specs.Output.{line1, line3, line4, lines_of, right_line, grant_line}

-- a line for which there is room: the text, and where it ends
module _ (w v : List ℕ) (k : ℕ) {l l₁ : List ℕ} {at r : ℕ} (few : k ≤ 5) (room : at + (length w + 11 * k + 1) ≤ length l)
    (p : Put l at (row_in l at w v k) r l₁) where
  pub row_put : Put l at (row_text w v k) r l₁
  row_put = rw (row_fits l at w v k room) at p

  pub row_short : r ≤ at + (length w + 11 * k + 1)
  row_short = omega (arith, row_put.place, row_length w v k few)

-- a line of one, three or four numbers, of which no more were given
module _ {l l₁ : List ℕ} {at r : ℕ} (w : List ℕ) (a : ℕ) where
  put1 : Put l at (row_text w (a ∷ []) 1) r l₁ → Put l at (line1 w a) r l₁
  unfolding row_text
  put1 p = p

  put3 : (b c : ℕ) → Put l at (row_text w (a ∷ b ∷ c ∷ []) 3) r l₁ → Put l at (line3 w a b c) r l₁
  unfolding row_text
  put3 b c p = p

  put4 : (b c d : ℕ) → Put l at (row_text w (a ∷ b ∷ c ∷ d ∷ []) 4) r l₁ → Put l at (line4 w a b c d) r l₁
  unfolding row_text
  put4 b c d p = p

-- a line of one, three or four numbers for which there is room, as `put_row` writes it
module _ {l l₁ : List ℕ} {at r : ℕ} (w : List ℕ) (a : ℕ) where
  pub line1_put : at + (length w + 11 + 1) ≤ length l → Put l at (row_in l at w (a ∷ []) 1) r l₁
      → Put l at (line1 w a) r l₁ × (r ≤ at + (length w + 11 + 1))
  line1_put room p = (put1 w a (row_put w (a ∷ []) 1 (omega arith) room p), row_short w (a ∷ []) 1 (omega arith) room p)

  pub line3_put : (b c : ℕ) → at + (length w + 33 + 1) ≤ length l → Put l at (row_in l at w (a ∷ b ∷ c ∷ []) 3) r l₁
      → Put l at (line3 w a b c) r l₁ × (r ≤ at + (length w + 33 + 1))
  line3_put b c room p =
      let v = a ∷ b ∷ c ∷ [] in
      (put3 w a b c (row_put w v 3 (omega arith) room p), row_short w v 3 (omega arith) room p)

  pub line4_put : (b c d : ℕ) → at + (length w + 44 + 1) ≤ length l → Put l at (row_in l at w (a ∷ b ∷ c ∷ d ∷ []) 4) r l₁
      → Put l at (line4 w a b c d) r l₁
  line4_put b c d room p = put4 w a b c d (row_put w (a ∷ b ∷ c ∷ d ∷ []) 4 (omega arith) room p)

-- ---- how long a line is

-- a number below the least of k + 2 digits has no more than k + 1
digits_short : (f n k : ℕ) → n < tens (suc k) → length (decimal_in f n) ≤ suc k
digits_short zero n k h = omega arith
digits_short (suc f) n zero h = rw (lt-ltb n 10 (omega arith)) (omega arith)
digits_short (suc f) n (suc k) h =
    below_or_not n 10
    (λ l. rw (lt-ltb n 10 l) (omega arith))
    (λ g.
    let shorter = digits_short f (n / 10) k (omega arith) in
    rw (le-ltb n 10 g) (omega (arith, length-append (decimal_in f (n / 10)) ((48 + n % 10) ∷ []))))

two_digits : (n : ℕ) → n < 100 → length (decimal n) ≤ 2
unfolding decimal
two_digits n h = digits_short 10 n 1 h

three_digits : (n : ℕ) → n < 1000 → length (decimal n) ≤ 3
unfolding decimal
three_digits n h = digits_short 10 n 2 h

four_digits : (n : ℕ) → n < 10000 → length (decimal n) ≤ 4
unfolding decimal
four_digits n h = digits_short 10 n 3 h

fields_long : (k j : ℕ) (v : List ℕ)
    → length (fields_text (suc k) j v) ≡ 1 + length (decimal (get_or v j 0)) + length (fields_text k (j + 1) v)
fields_long k j v = omega (arith, length-append (decimal (get_or v j 0)) (fields_text k (j + 1) v))

line3_long : (w : List ℕ) (a b c : ℕ) → length (line3 w a b c) ≡ length w + length (decimal a) + length (decimal b) + length (decimal c) + 4
line3_long w a b c =
    let v = a ∷ b ∷ c ∷ 0 ∷ 0 ∷ [] in
    rw (row_line w v 3 (omega arith))
    (omega (arith, length-append w (fields_text 3 0 v), fields_long 2 0 v, fields_long 1 1 v, fields_long 0 2 v))

line4_long : (w : List ℕ) (a b c d : ℕ)
    → length (line4 w a b c d) ≡ length w + length (decimal a) + length (decimal b) + length (decimal c) + length (decimal d) + 5
line4_long w a b c d =
    let v = a ∷ b ∷ c ∷ d ∷ 0 ∷ [] in
    rw (row_line w v 4 (omega arith))
    (omega (arith, length-append w (fields_text 4 0 v), fields_long 3 0 v, fields_long 2 1 v, fields_long 1 2 v, fields_long 0 3 v))

module _ {l l₁ : List ℕ} {at r : ℕ} where
  -- an answer, of a position of at most four digits
  pub answer_short : (a b c : ℕ) → a < 10000 → Put l at (line3 answer_word a b c) r l₁ → r ≤ at + 34
  answer_short a b c h p =
      omega (arith, p.place, line3_long answer_word a b c, four_digits a h, decimal_length b, decimal_length c)

  pub right_short : (a b c : ℕ) → a < 10000 → b < 100 → c < 1000 → Put l at (line3 right_word a b c) r l₁ → r ≤ at + 18
  right_short a b c h i j p =
      omega (arith, p.place, line3_long right_word a b c, four_digits a h, two_digits b i, three_digits c j)

  pub grant_short : (a b c d : ℕ) → a < 10000 → b < 100 → c < 1000 → d < 1000 → Put l at (line4 grant_word a b c d) r l₁ → r ≤ at + 22
  grant_short a b c d h i j k p =
      omega (arith, p.place, line4_long grant_word a b c d, four_digits a h, two_digits b i, three_digits c j, three_digits d k)

-- an entry's cell has at most four digits, and its division two
pub cell_short : (e m : ℕ) → e ≤ 8191 → e / m < 10000
cell_short e m h = omega (arith, div-le_self e m)

pub division_short : (e m : ℕ) → 1 ≤ m → m ≤ 32 → e % m < 100
division_short e m some few = omega (arith, mod-lt e some)

-- the lines from i on, and one behind them
lines_last : (line : ℕ → List ℕ) (i k : ℕ) → lines_of line i (suc k) ≡ lines_of line i k ++ line (i + k)
unfolding lines_of
lines_last line i zero = rw add-zero (append-nil (line i))
lines_last line i (suc k) =
    let q : i + 1 + k ≡ i + suc k = omega arith in
    ap (λ (t : List ℕ). line i ++ t) (lines_last line (i + 1) k)
    ∙ rw q (sym (append_assoc (line i) (lines_of line (i + 1) k) (line (i + suc k))))

pub lines_next : (line : ℕ → List ℕ) (e : ℕ) → lines_of line 0 (e + 1) ≡ lines_of line 0 e ++ line e
lines_next line e = let z : 0 + e ≡ e = omega arith in rw add-one (rw z at (lines_last line 0 e))

-- e of k lines are written from at on, each of at most `room` bytes, and i is the place after them
pub record Lined (line : ℕ → List ℕ) (room k at : ℕ) (l₀ l : List ℕ) (i e : ℕ) : Type 0 where
  pub few : e ≤ k
  pub long : length l ≡ length l₀
  pub short : i ≤ at + room * e
  pub put : Put l₀ at (lines_of line 0 e) i l

pub lined_none : (line : ℕ → List ℕ) (room k at : ℕ) (l : List ℕ) → Lined line room k at l l at 0
unfolding lines_of
lined_none line room k at l = record { few = omega arith; long = refl; short = omega arith; put = put_nothing l at }

pub lined_more : {line : ℕ → List ℕ} {room k at : ℕ} {l₀ l : List ℕ} {i e : ℕ} → Lined line room k at l₀ l i e → e < k
    → {r : ℕ} {l₁ : List ℕ} → Put l i (line e) r l₁ → r ≤ i + room → Lined line room k at l₀ l₁ r (e + 1)
lined_more {line} {room} {k} {at} {l₀} {l} {i} {e} h f {r} {l₁} p q =
    record {
      few = omega arith;
      long = put_long p ∙ h.long;
      short = omega (arith, h.short, mul-add room e 1, mul-one room);
      put = rw (lines_next line e) (put_then h.put p);
    }

-- room for one line more, where there is room for k
pub room_more : {line : ℕ → List ℕ} {room k at : ℕ} {l₀ l : List ℕ} {i e : ℕ} → Lined line room k at l₀ l i e → e < k
    → (spare : ℕ) → at + room * k + spare ≤ length l₀ → i + room + spare ≤ length l
room_more {room = room} {k = k} {e = e} h f spare fits =
    let next : room * (e + 1) ≤ room * k = mul-le-mul_left room (omega arith) in
    omega (arith, h.short, h.long, fits, next, mul-add room e 1, mul-one room)

pub lined_all : {line : ℕ → List ℕ} {room k at : ℕ} {l₀ l : List ℕ} {i e : ℕ} → Lined line room k at l₀ l i e → k ≤ e
    → Put l₀ at (lines_of line 0 k) i l × (i ≤ at + room * k)
lined_all {line} {room} {k} {at} {l₀} {l} {i} {e} h f =
    let q : e ≡ k = omega (arith, h.few) in
    (rw q at h.put, rw q at h.short)

-- ---- an entry that is 0, and one that is not: h was read of it

module _ (m : ℕ) (list : List ℕ) (e h : ℕ) (q : h ≡ get_or list e 0) where
  pub no_right : h ≡ 0 → right_line m list e ≡ []
  unfolding right_line
  no_right z = rw (← q, z)

  pub some_right : (h ≡ 0 → ⊥) → right_line m list e ≡ line3 right_word (e / m) (e % m) h
  unfolding right_line
  some_right z = rw (← q, ne_eqb h 0 z)

  pub without_grant : h ≡ 0 → grant_line m list e ≡ []
  unfolding grant_line
  without_grant z = rw (← q, z)

  pub some_grant : (h ≡ 0 → ⊥) → grant_line m list e ≡ line4 grant_word (e / m) (e % m) (h % 256) (h / 256)
  unfolding grant_line
  some_grant z = rw (← q, ne_eqb h 0 z)
