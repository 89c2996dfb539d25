-- Document 01, "Block write" and "Read view".
use Rattle.std.specs.Prelude.{ℕ, ◌+◌, List, [], ◌∷◌, ◌++◌, Bool, length, take, drop, leb}
use Rattle.rules.specs.Numbers.{Tables, part_of, last_of, mark_of, held}
use Rattle.rules.specs.Refusals.{not_valid, not_whole, right_missing, Check, ◌unless◌}
use Rattle.rules.specs.Instructions.{valid, place, with_memory}

-- n bytes from x on do not run past last; this holds of no bytes, since c covers x
unfoldable pub within_cell : (last x n : ℕ) → Bool
within_cell last x n = leb (x + n) (last + 1)

-- checks 7, 8 and 9: the right is write for a block write, read for a read view
unfoldable pub block_needs : (right : ℕ) → Tables → (d c x n : ℕ) → List Check
block_needs right t d c x n =
    not_valid unless valid (mark_of t c)
    ∷ not_whole unless within_cell (last_of t c) x n
    ∷ right_missing unless part_of right (held t c d)
    ∷ []

-- the block's part of the memory is filled; all bytes outside it stay
unfoldable pub block_written : Tables → (c x : ℕ) (bytes : List ℕ) → Tables
block_written t c x bytes =
    with_memory t
    (take (place t c x) t.memory ++ bytes ++ drop (place t c x + length bytes) t.memory)

-- the part of the lent memory itself
unfoldable pub part_viewed : Tables → (c x n : ℕ) → List ℕ
part_viewed t c x n = take n (drop (place t c x) t.memory)
