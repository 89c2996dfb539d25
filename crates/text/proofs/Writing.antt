-- Laws of a text in a buffer: how one stands after another, digit by digit, byte by byte, field by field.
-- Assumes nothing.
use Prim.Native.Nat.{ℕ, zero, suc, ◌+◌, ◌-◌, ◌*◌, ◌/◌, ◌%◌, ◌≤◌, ◌<◌}
use mathlib.Core.Path.{◌≡◌, refl, sym, ap, ◌∙◌}
use mathlib.Core.List.{List, [], ◌∷◌, ◌++◌, append_assoc}
use native.Mathlib.Omega.{arith}
use native.Mathlib.Nat.{add-zero}
use lib.ListN.{length, get_or, take, drop, set, length-append}
use lib.Seq.{sets, sets-eq, drop-drop}
use borrow.Rule.Slice.PartMut.{put_mid}
use borrow.Author.Tests.{lt-ltb, le-ltb}
use Rattle.text.specs.Line.{tab}
use Rattle.text.specs.Text.{Put, decimal_in, decimal, fields_text}
use Rattle.text.proofs.Cases.{below_or_not}

sets_append : (l : List ℕ) (i : ℕ) (a b : List ℕ) → sets (sets l i a) (i + length a) b ≡ sets l i (a ++ b)
sets_append l i [] b = rw add-zero
sets_append l i (x ∷ a) b =
    let e : i + suc (length a) ≡ suc i + length a = omega arith in
    rw e (sets_append (set l i x) (suc i) a b)

pub put_nothing : (l : List ℕ) (at : ℕ) → Put l at [] at l
put_nothing l at = record { place = omega arith; bytes = refl }

pub put_byte : {l : List ℕ} {at b r : ℕ} {l₁ : List ℕ} → (r ≡ at + 1) × (l₁ ≡ set l at b) → Put l at (b ∷ []) r l₁
put_byte h = record { place = h.0; bytes = h.1 }

-- a text, and from the place after it on another
pub put_then : {l l₁ l₂ : List ℕ} {at m r : ℕ} {a b : List ℕ} → Put l at a m l₁ → Put l₁ m b r l₂ →
    Put l at (a ++ b) r l₂
put_then {l} {at = at} {a = a} {b = b} p q =
    record {
      place = omega (arith, length-append a b, p.place, q.place);
      bytes = q.bytes ∙ rw (p.bytes, p.place) (sets_append l at a b);
    }

-- ---- digits

pub digits_length : (f n : ℕ) → length (decimal_in f n) ≤ f
digits_length zero n = omega arith
digits_length (suc f) n =
    below_or_not n 10
    (λ h. rw (lt-ltb n 10 h) (omega arith))
    (λ h.
    let long = length-append (decimal_in f (n / 10)) ((48 + n % 10) ∷ []) in
    rw (le-ltb n 10 h) (omega (arith, digits_length f (n / 10))))

pub decimal_length : (n : ℕ) → length (decimal n) ≤ 10
unfolding decimal
decimal_length n = digits_length 10 n

module _ (l : List ℕ) (at n f : ℕ) where
  module _ (h : f ≡ 0 → ⊥) where
    one_more : f ≡ suc (f - 1)
    one_more = omega arith

    digits_split : 10 ≤ n → decimal_in f n ≡ decimal_in (f - 1) (n / 10) ++ ((48 + n % 10) ∷ [])
    digits_split k = ap (λ (g : ℕ). decimal_in g n) one_more ∙ rw (le-ltb n 10 k)

    pub digits_more : 10 ≤ n → {a r : ℕ} {l₁ l₂ : List ℕ} → Put l at (decimal_in (f - 1) (n / 10)) a l₁ →
        (r ≡ a + 1) × (l₂ ≡ set l₁ a (48 + n % 10)) → Put l at (decimal_in f n) r l₂
    digits_more k p q = rw (digits_split k) (put_then p (put_byte q))

-- ---- what is still to be written: of T from at on, t from i on

pub record Rest (l₀ : List ℕ) (at : ℕ) (T : List ℕ) (l : List ℕ) (i : ℕ) (t : List ℕ) : Type 0 where
  pub place : i + length t ≡ at + length T
  pub bytes : sets l i t ≡ sets l₀ at T

module _ {l₀ : List ℕ} {at : ℕ} {T : List ℕ} {l : List ℕ} {i : ℕ} where
  rest_less : {a t : List ℕ} {m : ℕ} {l₁ : List ℕ} → Rest l₀ at T l i (a ++ t) → Put l i a m l₁ → Rest l₀ at T l₁ m t
  rest_less {a} {t} r p =
      record {
        place = omega (arith, length-append a t, r.place, p.place);
        bytes = rw (p.bytes, p.place) (sets_append l i a t ∙ r.bytes);
      }

-- ---- a word that is copied

pub word_copied : {l w c : List ℕ} {at : ℕ} → at + length w ≤ length l → c ≡ w →
    Put l at w (at + length w) (put_mid at (at + length w - at) l c)
word_copied {l} {w} {c} {at} h e =
    let long : at + length w - at ≡ length w = omega arith in
    record {
      place = refl;
      bytes = rw (long, e, sets-eq w l at h, drop-drop (length w) at l) (sym (append_assoc (take at l) w (drop (at + length w) l)));
    }

-- ---- the loop of `write_fields`: j of k numbers of v are written, and i is the place after them

pub record Listed (l₀ : List ℕ) (at k : ℕ) (v l : List ℕ) (i j : ℕ) : Type 0 where
  pub within : j ≤ k
  pub room : i + 11 * (k - j) + 1 ≤ length l
  pub long : length l ≡ length l₀
  pub rest : Rest l₀ at (fields_text k 0 v) l i (fields_text (k - j) j v)

module _ {l₀ : List ℕ} {at k : ℕ} {v l : List ℕ} {i j : ℕ} (m : Listed l₀ at k v l i j) where
  pub listed_more : j < k → {a : ℕ} {l₁ : List ℕ} → (a ≡ i + 1) × (l₁ ≡ set l i tab) →
      {r : ℕ} {l₂ : List ℕ} → Put l₁ a (decimal (get_or v j 0)) r l₂ → length l₂ ≡ length l →
      Listed l₀ at k v l₂ r (j + 1)
  listed_more h p q long =
      let one_left : k - j ≡ suc (k - (j + 1)) = omega arith in
      let t = decimal (get_or v j 0) ++ fields_text (k - (j + 1)) (j + 1) v in
      let all : Rest l₀ at (fields_text k 0 v) l i ((tab ∷ []) ++ t) = rw one_left at m.rest in
      record {
        within = omega arith;
        room = omega (arith, m.room, p.0, q.place, decimal_length (get_or v j 0));
        long = long ∙ m.long;
        rest = rest_less (rest_less all (put_byte p)) q;
      }
