-- The lowest wrong line of a text, said of right listings: the lines before it begin one, and with it they begin none. The
-- bound of 65,536 bytes is left aside. Assumes nothing.
use Rattle.std.specs.Prelude.{ℕ, ◌-◌, ◌≤◌, ◌≡◌, List}
use Rattle.text.specs.FirstLines.{first_lines, line_count}
use Rattle.rules.specs.Numbers.{State}
use Rattle.listing.specs.Lines.{head_row}
use Rattle.listing.specs.Listing.{Text, run, from_head}

-- what a text of any length is: `listing_in` without its bound
unfoldable pub text_in : (s : List ℕ) → Text
text_in s = from_head s (head_row s 0)

-- the text is a right listing
pub record IsListing (s : List ℕ) : Type 0 where
  pub start : State
  pub count : ℕ
  pub numbers : List ℕ
  pub reads : text_in s ≡ run start count numbers

-- a right listing has the same first j lines
abbrev pub Begins : (j : ℕ) (s : List ℕ) → Type 0
Begins j s = (t : List ℕ) × IsListing t × (first_lines j t ≡ first_lines j s)

-- line k of the text, from 1, is the lowest that is wrong
pub record LowestWrong (k : ℕ) (s : List ℕ) : Type 0 where
  -- it is a line of the text, or what stands behind the last LF, or the line after the last
  pub from_one : 1 ≤ k
  pub lines_before : k - 1 ≤ line_count s
  -- the lines before it begin a right listing
  pub begins : Begins (k - 1) s
  -- and with it they begin none
  pub breaks : Begins k s → ⊥
