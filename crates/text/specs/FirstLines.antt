-- The lines of a text, each with the LF that ends it. Assumes nothing.
use Rattle.std.specs.Prelude.{ℕ, zero, suc, List, [], ◌∷◌, cond, eqb}
use Rattle.text.specs.Line.{line_feed}

-- the first k lines of a text; where it has fewer, all of it, with what stands behind its last LF
unfoldable pub first_lines : (k : ℕ) (s : List ℕ) → List ℕ
first_lines zero s = []
first_lines (suc k) [] = []
first_lines (suc k) (c ∷ s) = c ∷ cond (eqb c line_feed) (first_lines k s) (first_lines (suc k) s)

-- how many lines a text has
unfoldable pub line_count : (s : List ℕ) → ℕ
line_count [] = 0
line_count (c ∷ s) = cond (eqb c line_feed) (suc (line_count s)) (line_count s)
