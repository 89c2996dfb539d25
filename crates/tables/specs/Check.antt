-- What the table check answers: checks 1 and 2 of document 01's refusal list, with the value.
use Rattle.std.specs.Prelude.{ℕ, ◌+◌, ◌*◌, ◌≤◌, ◌<◌, List, length, Bool, not, cond, get_or, leb, ltb, Option, Some, None}
use Rattle.rules.specs.Below.{every}
use Rattle.rules.specs.Numbers.{Tables, L}
use Rattle.rules.specs.Refusals.{Answer, first_failing, table_checks, refused_value}

unfoldable pub tables_checked : Tables → Answer
tables_checked t =
    record { number = first_failing (table_checks t); value = refused_value t (first_failing (table_checks t)) }

-- some division's rights on c are above 7
abbrev pub excess : (m : ℕ) (rights : List ℕ) (c : ℕ) → Bool
excess m rights c = not (every (λ d. leb (get_or rights (c * m + d) 0) 7) m)

-- cell c has an entry in each list, and its row, M entries from c × M on, lies within the rights and the grants; M and L
-- are in their bounds
pub record Within (t : Tables) (c : ℕ) : Type 0 where
  pub in_first : c < length t.first
  pub in_last : c < length t.last
  pub in_offset : c < length t.offset
  pub in_marks : c < length t.marks
  pub in_rights : c * t.M + t.M ≤ length t.rights
  pub in_grants : c * t.M + t.M ≤ length t.grants
  pub divisions : t.M ≤ 32
  pub bytes : L t ≤ 65536

-- c as one of n cells, where it is one
abbrev pub cell_below : (n c : ℕ) → Option ℕ
cell_below n c = cond (ltb c n) (Some c) None
