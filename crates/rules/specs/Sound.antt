-- Document 01, "Sound tables".
use Rattle.std.specs.Prelude.{ℕ, zero, suc, ◌+◌, List, Bool, true, not, ◌&&◌, ◌||◌, get_or, leb, ltb, eqb}
use Rattle.rules.specs.Below.{every, count, lowest}
use Rattle.rules.specs.Numbers.{Tables, N, L, first_of, last_of, offset_of, mark_of, held, grant_of, target_in, rights_in}

-- granter d's entry g is 0, or has rights 1 to 7 and a target below M that is not the granter
unfoldable pub sound_grant : (m d g : ℕ) → Bool
sound_grant m d g =
    eqb g 0
    || (leb 1 (rights_in g) && leb (rights_in g) 7 && ltb (target_in g) m && not (eqb (target_in g) d))

-- how many divisions hold any right on c
unfoldable pub holders : Tables → (c : ℕ) → ℕ
holders t c = count (λ d. ltb 0 (held t c d)) t.M

-- except for cell 0: first above the last of the cell before, offset at least that cell's offset + last - first + 1
unfoldable pub after_cell_before : (first last offset : List ℕ) (c : ℕ) → Bool
after_cell_before first last offset zero = true
after_cell_before first last offset (suc b) =
    ltb (get_or last b 0) (get_or first (suc b) 0)
    && leb (get_or offset b 0 + get_or last b 0 + 1) (get_or offset (suc b) 0 + get_or first b 0)

-- a difference of two numbers stands as a sum on the other side: offset + last - first < L
unfoldable pub sound_cell : Tables → (c : ℕ) → Bool
sound_cell t c =
    leb (first_of t c) (last_of t c)
    && ltb (offset_of t c + last_of t c) (L t + first_of t c)
    && leb (mark_of t c) 1
    && every (λ d. leb (held t c d) 7) t.M
    && every (λ d. sound_grant t.M d (grant_of t c d)) t.M
    && (not (eqb (mark_of t c) 0) || leb (holders t c) 1)
    && after_cell_before t.first t.last t.offset c

unfoldable pub sound_tables : Tables → Bool
sound_tables t = every (sound_cell t) (N t)

-- N where every cell is sound
unfoldable pub lowest_unsound : Tables → ℕ
lowest_unsound t = lowest (λ c. not (sound_cell t c)) (N t)
