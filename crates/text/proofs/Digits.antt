-- Laws of the byte at a place, and of the run of digits there. Assumes nothing.
use Prim.Native.Nat.{ℕ, zero, suc, ◌+◌, ◌-◌, ◌*◌, ◌≤◌, ◌<◌, min}
use mathlib.Core.Path.{◌≡◌, refl, sym, ap, ◌∙◌}
use mathlib.Core.List.{List, [], ◌∷◌}
use mathlib.Core.Bool.{true, false}
use native.Mathlib.Omega.{arith}
use native.Mathlib.Nat.{add-zero, min-eq_left, min-eq_right}
use native.Mathlib.Numerals.{add-one}
use lib.ListN.{length, get_or, drop, get_or-eq_default}
use lib.Seq.{drop-cons, get_or-drop}
use lib.Dec.{ltb}
use Rattle.std.proofs.Common.{Some}
use Rattle.std.proofs.lemmas.Option.{same_Some, none-some}
use borrow.Author.Tests.{le-leb}
use Rattle.text.specs.Number.{peek_at, byte_or_none, is_digit, digits_in, value_from}
use Rattle.text.proofs.Cases.{by_test, below_or_not}

-- ---- the byte at a place

pub peek_byte : (s : List ℕ) (i : ℕ) → i < length s → get_or s i 0 ≡ peek_at s i
peek_byte [] i h = omega arith
peek_byte (x ∷ s) zero h = refl
peek_byte (x ∷ s) (suc i) h = peek_byte s i (omega arith)

pub peek_past : (s : List ℕ) (i : ℕ) → length s ≤ i → 256 ≡ peek_at s i
peek_past s i h = sym (get_or-eq_default s 256 h)

-- where there is a byte, the text has not ended
pub peek_inside : (s : List ℕ) (i : ℕ) → peek_at s i < 256 → i < length s
peek_inside [] i h = omega arith
peek_inside (x ∷ s) zero h = omega arith
peek_inside (x ∷ s) (suc i) h = omega (arith, peek_inside s i h)

-- a byte that is the answer at a place is the byte there
pub peek_some : {p c : ℕ} → Some c ≡ byte_or_none p → c ≡ p
peek_some {p} {c} e = by_test (ltb p 256) (λ h. same_Some c p (e ∙ rw h)) (λ h. absurd (none-some c (sym (e ∙ rw h))))

pub peek_drop : (s : List ℕ) (i : ℕ) → peek_at (drop i s) 0 ≡ peek_at s i
peek_drop s i = rw (get_or-drop, add-zero)

-- ---- a digit

pub digit_between : (c : ℕ) → 48 ≤ c → c ≤ 57 → is_digit c ≡ true
digit_between c h k = rw (le-leb 48 c h, le-leb c 57 k)

-- ---- a run of digits

-- it ends where no digit stands
pub run_stops : (v : ℕ) (l : List ℕ) → is_digit (peek_at l 0) ≡ false → (digits_in l ≡ 0) × (value_from v l ≡ v)
run_stops v [] h = (refl, refl)
run_stops v (c ∷ l) h = (rw h, rw h)

run_goes_on : (s : List ℕ) (i v : ℕ) → is_digit (peek_at s i) ≡ true → i < length s →
    (digits_in (drop i s) ≡ 1 + digits_in (drop (i + 1) s))
    × (value_from v (drop i s) ≡ value_from (10 * v + (peek_at s i - 48)) (drop (i + 1) s))
run_goes_on s i v h inside = (
  rw (drop-cons s i 256, h, add-one) (omega arith),
  rw (drop-cons s i 256, h, add-one),
)

-- a digit more makes the value no smaller
value_grows : (v : ℕ) (l : List ℕ) → v ≤ value_from v l
value_grows v [] = omega arith
value_grows v (c ∷ l) =
    by_test (is_digit c)
    (λ h. rw h (omega (arith, value_grows (10 * v + (c - 48)) l)))
    (λ h. rw h (omega arith))

-- a value that is kept at k where it is more comes to the same
pub value_capped : (k v : ℕ) (l : List ℕ) → min (value_from (min v k) l) k ≡ min (value_from v l) k
value_capped k v l =
    below_or_not v k
    (λ h. let less : v ≤ k = omega arith in rw (min-eq_left less))
    (λ h. rw (min-eq_right h) (omega (arith, value_grows k l, value_grows v l)))

-- ---- the loop of `run_at`: it has come to the place i with the value v, of the run at a place

pub record Running (s : List ℕ) (at i v : ℕ) : Type 0 where
  pub kept : v ≤ 4294967296
  pub place : i + digits_in (drop i s) ≡ at + digits_in (drop at s)
  pub value : min (value_from v (drop i s)) 4294967296 ≡ min (value_from 0 (drop at s)) 4294967296

module _ {s : List ℕ} {at i v : ℕ} (r : Running s at i v) where
  module _ {c : ℕ} (e : c ≡ peek_at s i) where
    pub run_inside : c ≤ 57 → i < length s
    run_inside h = peek_inside s i (omega arith)

    pub run_turns : 48 ≤ c → c ≤ 57 → {w : ℕ} → w ≡ min (10 * v + (c - 48)) 4294967296 → Running s at (i + 1) w
    run_turns h k f =
        let d = peek_at s i - 48 in
        let g = run_goes_on s i v (digit_between (peek_at s i) (omega arith) (omega arith)) (run_inside k) in
        rw (f, e)
        (record {
          kept = omega arith;
          place = omega (arith, r.place, g.0);
          value =
              value_capped 4294967296 (10 * v + d) (drop (i + 1) s)
              ∙ ap (λ (n : ℕ). min n 4294967296) (sym g.1)
              ∙ r.value;
        })
