-- What the readers and writers answer, in the words of the listing. Assumes nothing.
use Rattle.std.specs.Prelude.{ℕ, ◌+◌, ◌*◌, ◌<◌, ◌≤◌, ◌≡◌, true, false, Option, Some, None, List, [], cond, length, get_or, leb}
use Rattle.std.specs.Borrow.{MutBor}
use Rattle.text.specs.Text.{Put}
use Rattle.listing.specs.Words.{answer_word}
use Rattle.listing.specs.Listing.{Cells, Entries, zeros}
use Rattle.listing.specs.Output.{line3, output_of}
use Rattle.listing.specs.Lines.{Entry}
use Rattle.rules.specs.declared.TablesMut.{TablesMut}
use Rattle.listing.specs.declared.bounds.Loaded.{Loaded}
use Rattle.listing.specs.declared.entries.Entry.{Entry as Found}
use Rattle.listing.specs.declared.lines.Passed.{Passed}

-- what was read of a line at a place, where `number` tells what its value is: none, or what the line names
abbrev pub Told : {T : Type 0} (number : T → ℕ) → Option (Found T) → Entry → Type 0
Told number None e = e.ok ≡ false
Told number (Some f) e = e ≡ record { ok = true; next = f.next; key = f.key; value = number f.value }

-- the calls of a reader tell what stands at each place: `post` is what it ensures
abbrev pub Reads : {T : Type 0} (post : ℕ → Option (Found T) → Type 0) (number : T → ℕ) (names : ℕ → Entry) → Type 0
Reads {T} post number names = (at : ℕ) (r : Option (Found T)) → post at r → Told number r (names at)

-- how many lines there were, the place after them, and the list with their values
pub record FilledAs (t : Entries) (r : Passed) (after : List ℕ) : Type 0 where
  pub counted : r.count ≡ t.count
  pub ended : r.next ≡ t.next
  pub filled : after ≡ t.list

-- the cell lines whose numbers stand in the tables, and the place after them
abbrev pub cells_in : (next : ℕ) → TablesMut → Cells
cells_in next t =
    record { next = next; first = t.first.now; last = t.last.now; offset = t.offset.now; marks = t.marks.now }

-- no right, no grant and no byte is read yet: there is a zero for each
pub record Blank (l : Loaded) : Type 0 where
  pub rights : l.tables.rights.now ≡ zeros (length l.tables.first.now * l.size.m)
  pub grants : l.tables.grants.now ≡ zeros (length l.tables.first.now * l.size.m)
  pub bytes : l.memory.now ≡ zeros l.size.l

-- the calls at the entries of a list write the text of each: `post` is what a call ensures of the buffer, the place, an entry's
-- number and the entry, where it answers the place after and leaves the buffer. So they do where there is room for `most` bytes,
-- which is as long as a text may be, and for some more, which a call may ask for.
abbrev pub Writes :
    {T : Type 0} (post : MutBor (List ℕ) → ℕ → ℕ → T → ℕ → MutBor (List ℕ) → Type 0) (list : List T) (text : ℕ → List ℕ) (most spare : ℕ) → Type 0
Writes {T} post list text most spare =
    (before after : MutBor (List ℕ)) (at e r : ℕ) (x : T)
    → e < length list → x ≡ get_or list e x → at + most + spare ≤ length before.now → post before at e x r after
    → Put before.now at (text e) r after.now × (r ≤ at + most)

-- the line of the answer numbered i from 0 in two lists of numbers and values
unfoldable pub answer_of : (numbers values : List ℕ) (i : ℕ) → List ℕ
answer_of numbers values i = line3 answer_word (i + 1) (get_or numbers i 0) (get_or values i 0)

-- bytes that are enough for every output, with some to spare
abbrev pub output_room : ℕ
output_room = 532480

-- the buffer has room for every output, behind `cells 1`
pub record Roomy (at : ℕ) (out : List ℕ) : Type 0 where
  pub head : at ≤ 17
  pub room : output_room ≤ length out

-- what is written to a buffer: nothing, where it is shorter than every output may need
unfoldable pub written_in : (out s : List ℕ) → List ℕ
written_in out s = cond (leb output_room (length out)) (output_of s) []
