-- What `cellrun` writes of a listing. Assumes nothing.
use Rattle.std.specs.Prelude.{ℕ, zero, suc, ◌+◌, ◌/◌, ◌%◌, List, [], ◌∷◌, ◌++◌, cond, length, get_or, eqb}
use Rattle.text.specs.Text.{row_text}
use Rattle.rules.specs.Numbers.{State, target_in, rights_in}
use Rattle.rules.specs.declared.Registers.{Registers}
use Rattle.monitor.specs.Runs.{after_first, answer_at}
use Rattle.listing.specs.Words.{cells_word, answer_word, core_word, right_word, grant_word, bad_word}
use Rattle.listing.specs.Listing.{Text, run, wrong, listing_in}

-- the line of a keyword and one, three or four numbers
abbrev pub line1 : (w : List ℕ) (a : ℕ) → List ℕ
line1 w a = row_text w (a ∷ 0 ∷ 0 ∷ 0 ∷ 0 ∷ []) 1

abbrev pub line3 : (w : List ℕ) (a b c : ℕ) → List ℕ
line3 w a b c = row_text w (a ∷ b ∷ c ∷ 0 ∷ 0 ∷ []) 3

abbrev pub line4 : (w : List ℕ) (a b c d : ℕ) → List ℕ
line4 w a b c d = row_text w (a ∷ b ∷ c ∷ d ∷ 0 ∷ []) 4

-- the lines of k things, from number i on
unfoldable pub lines_of : (line : ℕ → List ℕ) (i k : ℕ) → List ℕ
lines_of line i zero = []
lines_of line i (suc k) = line i ++ lines_of line (i + 1) k

-- of the instruction numbered i from 0: its listing position, number, value
unfoldable pub answer_line : State → (numbers : List ℕ) (i : ℕ) → List ℕ
answer_line start l i =
    let a = answer_at start l i in
    line3 answer_word a.position a.outcome.number a.outcome.value

unfoldable pub core_line : Registers → List ℕ
core_line r = line3 core_word r.current r.caller r.place

-- entry e is of cell e / M and division e % M; those that are 0 are not written
unfoldable pub right_line : (m : ℕ) (rights : List ℕ) (e : ℕ) → List ℕ
right_line m rights e =
    let h = get_or rights e 0 in cond (eqb h 0) [] (line3 right_word (e / m) (e % m) h)

unfoldable pub grant_line : (m : ℕ) (grants : List ℕ) (e : ℕ) → List ℕ
grant_line m grants e =
    let g = get_or grants e 0 in cond (eqb g 0) [] (line4 grant_word (e / m) (e % m) (target_in g) (rights_in g))

-- the core, and the rights and grants that are not 0, in order
unfoldable pub state_lines : Registers → (m : ℕ) (rights grants : List ℕ) → List ℕ
state_lines r m rights grants =
    core_line r ++ lines_of (right_line m rights) 0 (length rights) ++ lines_of (grant_line m grants) 0 (length grants)

abbrev pub lines_after : State → List ℕ
lines_after s = state_lines s.registers s.lent.M s.lent.rights s.lent.grants

-- behind `cells 1`: for each instruction its answer, and then the state after them all; for wrong text, the line
unfoldable pub body_of : Text → List ℕ
body_of (run start k l) = lines_of (answer_line start l) 0 k ++ lines_after (after_first start l k)
body_of (wrong line) = line1 bad_word line

-- all that is written of the text s
unfoldable pub output_of : (s : List ℕ) → List ℕ
output_of s = line1 cells_word 1 ++ body_of (listing_in s)
