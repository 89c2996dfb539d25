-- The keywords of a listing and of what is written, in ASCII. Assumes nothing.
use Rattle.std.specs.Prelude.{ℕ, List, [], ◌∷◌}

-- cells
abbrev pub cells_word : List ℕ
cells_word = 99 ∷ 101 ∷ 108 ∷ 108 ∷ 115 ∷ []

-- size
abbrev pub size_word : List ℕ
size_word = 115 ∷ 105 ∷ 122 ∷ 101 ∷ []

-- cell
abbrev pub cell_word : List ℕ
cell_word = 99 ∷ 101 ∷ 108 ∷ 108 ∷ []

-- right
abbrev pub right_word : List ℕ
right_word = 114 ∷ 105 ∷ 103 ∷ 104 ∷ 116 ∷ []

-- grant
abbrev pub grant_word : List ℕ
grant_word = 103 ∷ 114 ∷ 97 ∷ 110 ∷ 116 ∷ []

-- byte
abbrev pub byte_word : List ℕ
byte_word = 98 ∷ 121 ∷ 116 ∷ 101 ∷ []

-- core
abbrev pub core_word : List ℕ
core_word = 99 ∷ 111 ∷ 114 ∷ 101 ∷ []

-- do
abbrev pub do_word : List ℕ
do_word = 100 ∷ 111 ∷ []

-- answer
abbrev pub answer_word : List ℕ
answer_word = 97 ∷ 110 ∷ 115 ∷ 119 ∷ 101 ∷ 114 ∷ []

-- bad
abbrev pub bad_word : List ℕ
bad_word = 98 ∷ 97 ∷ 100 ∷ []
