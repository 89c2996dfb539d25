-- A number is decimal without leading zeros, at most 4,294,967,295: `0` is one; `00`, `+1` and an empty field are none.
-- A text is a list of bytes, and a place in it counts them from 0. Assumes nothing.
use Rattle.std.specs.Prelude.{ℕ, suc, ◌+◌, ◌-◌, ◌*◌, List, [], ◌∷◌, Bool, cond, not, ◌&&◌, ◌||◌, Option, Some, None, get_or, drop, ltb, leb, eqb}
use Rattle.text.specs.declared.number.Number.{Number as Found}

-- the byte at a place, and 256 past the end
abbrev pub peek_at : (s : List ℕ) (at : ℕ) → ℕ
peek_at s at = get_or s at 256

-- the same as an answer: the byte, and none past the end
abbrev pub byte_or_none : (c : ℕ) → Option ℕ
byte_or_none c = cond (ltb c 256) (Some c) None

-- `0` to `9`
abbrev pub is_digit : ℕ → Bool
is_digit c = leb 48 c && leb c 57

-- how many digits a text starts with
abbrev pub digits_in : List ℕ → ℕ
digits_in [] = 0
digits_in (c ∷ l) = cond (is_digit c) (suc (digits_in l)) 0

-- the number that they spell, after digits that spell v
abbrev pub value_from : (v : ℕ) → List ℕ → ℕ
value_from v [] = v
value_from v (c ∷ l) = cond (is_digit c) (value_from (10 * v + (c - 48)) l) v

-- the first byte is not `0`, or there is one digit only
abbrev pub no_leading_zero : List ℕ → Bool
no_leading_zero l = not (eqb (peek_at l 0) 48) || eqb (digits_in l) 1

-- whether a text starts with a number
abbrev pub starts_number : List ℕ → Bool
starts_number l = ltb 0 (digits_in l) && leb (value_from 0 l) 4294967295 && no_leading_zero l

-- what stands at a place: a number, with the place after it, or none
pub data Field : Type 0 where
  Number : (value next : ℕ) → Field
  Bad : Field

-- the same as an answer
abbrev pub option_of_field : Field → Option Found
option_of_field (Number x n) = Some (record { value = x; next = n })
option_of_field Bad = None

-- the number at a place of a text, with the place after its last digit; `Bad` where there is none
unfoldable pub number_at : (s : List ℕ) (at : ℕ) → Field
number_at s at =
    cond (starts_number (drop at s)) (Number (value_from 0 (drop at s)) (at + digits_in (drop at s))) Bad
