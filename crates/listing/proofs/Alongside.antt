-- A text beside one that is right so far: with the same lines before its core, or through to its end, it is right so far too.
-- Assumes nothing.
use Prim.Native.Nat.{ℕ, suc, ◌+◌, ◌*◌, ◌≤◌}
use mathlib.Core.Path.{◌≡◌, sym, ap, ◌∙◌}
use mathlib.Core.List.{List}
use native.Mathlib.Omega.{arith}
use lib.ListN.{length}
use Rattle.text.specs.Number.{peek_at}
use Rattle.text.specs.Line.{Row}
use Rattle.text.proofs.OneLine.{Linewise}
use Rattle.listing.specs.Lines.{field, head_row}
use Rattle.listing.specs.Listing.{zeros, Cells, cells_at, Entries, Dos, dos_at}
use Rattle.listing.proofs.LineKinds.{head_kind, size_kind, cell_kind, right_kind, grant_kind, byte_kind, core_kind, do_kind, second_differs, none_at_end, line_same, line_walks}
use Rattle.listing.proofs.SideBySide.{Left, cells_walk, cells_same, entries_walk, entries_same, dos_walk, dos_same}
use Rattle.listing.proofs.Stages.{Before, Through, lines_in, rights_in, grants_in, bytes_in}

module _ (Q : ℕ → List ℕ → List ℕ → Type 0) (linewise : (j : ℕ) → Linewise (Q (suc j)) (Q j)) (s t : List ℕ) where
  -- j lines are left at a place of those that s and t have in common
  abbrev LeftAt : (j p : ℕ) → Type 0
  LeftAt j p = Left Q linewise s t j p

  module _ {z : Row} {c : Cells} {r g b : Entries} (h : Before s z c r g b) (i : ℕ) (a : LeftAt (lines_in c r g b + i) 0) where
    -- how many are left behind the cells, and so on
    abbrev bytes_left : ℕ
    bytes_left = b.count + i

    abbrev grants_left : ℕ
    grants_left = g.count + bytes_left

    abbrev rights_left : ℕ
    rights_left = r.count + grants_left

    abbrev cells_left : ℕ
    cells_left = length c.first + rights_left

    at_head : LeftAt (suc (suc cells_left)) 0
    at_head = let all : lines_in c r g b + i ≡ suc (suc cells_left) = omega arith in rw all at a

    at_size : LeftAt (suc cells_left) (head_row s 0).next
    at_size = line_walks head_kind (linewise (suc cells_left)) s t 0 at_head h.head

    at_cells : LeftAt cells_left z.next
    at_cells =
        rw h.size at
        (line_walks size_kind (linewise cells_left) s t (head_row s 0).next at_size (ap (λ (r : Row). r.ok) h.size ∙ h.sized))

    cells_count : length (cells_at s z.next).first + rights_left ≡ cells_left
    cells_count = rw h.cells

    at_rights : LeftAt rights_left c.next
    at_rights = rw h.cells at (cells_walk Q linewise s t z.next cells_left rights_left at_cells cells_count)

    abbrev n : ℕ
    n = length c.first

    abbrev m : ℕ
    m = field z 0

    abbrev l : ℕ
    l = field z 1

    rights_count : (rights_in s m c).count + grants_left ≡ rights_left
    rights_count = rw h.rights

    at_grants : LeftAt grants_left r.next
    at_grants =
        rw h.rights at
        (entries_walk Q linewise s t (right_kind n m) (zeros (n * m)) c.next rights_left grants_left at_rights (length s) rights_count)

    grants_count : (grants_in s m c r.next).count + bytes_left ≡ grants_left
    grants_count = rw h.grants

    at_bytes : LeftAt bytes_left g.next
    at_bytes =
        rw h.grants at
        (entries_walk Q linewise s t (grant_kind n m) (zeros (n * m)) r.next grants_left bytes_left at_grants (length s) grants_count)

    bytes_count : (bytes_in s l g.next).count + i ≡ bytes_left
    bytes_count = rw h.bytes

    -- i lines are left at the core line
    pub before_walks : LeftAt i b.next
    before_walks =
        rw h.bytes at
        (entries_walk Q linewise s t (byte_kind l) (zeros l) g.next bytes_left i at_bytes (length s) bytes_count)

    -- where none is left, t goes on with a line whose second byte is that of `core`
    pub before_same : (i ≡ 0 → (p : ℕ) → LeftAt 0 p → peek_at t (p + 1) ≡ 111) → Before t z c r g b
    before_same core =
        let same_head = line_same head_kind (linewise (suc cells_left)) s t 0 at_head in
        record {
          head = ap (λ (r : Row). r.ok) (sym same_head) ∙ h.head;
          size = rw (← same_head) (sym (line_same size_kind (linewise cells_left) s t (head_row s 0).next at_size) ∙ h.size);
          sized = h.sized;
          cells =
              sym
              (cells_same Q linewise s t z.next cells_left rights_left at_cells cells_count
              (λ e left.
              second_differs cell_kind t (cells_at s z.next).next
              (λ f. omega (arith, core (omega arith) (cells_at s z.next).next left))))
              ∙ h.cells;
          rights =
              sym
              (entries_same Q linewise s t (right_kind n m) (zeros (n * m)) c.next rights_left grants_left at_rights rights_count
              (λ e left.
              second_differs (right_kind n m) t (rights_in s m c).next
              (λ f. omega (arith, core (omega arith) (rights_in s m c).next left))))
              ∙ h.rights;
          grants =
              sym
              (entries_same Q linewise s t (grant_kind n m) (zeros (n * m)) r.next grants_left bytes_left at_grants grants_count
              (λ e left.
              second_differs (grant_kind n m) t (grants_in s m c r.next).next
              (λ f. omega (arith, core (omega arith) (grants_in s m c r.next).next left))))
              ∙ h.grants;
          bytes =
              sym
              (entries_same Q linewise s t (byte_kind l) (zeros l) g.next bytes_left i at_bytes bytes_count
              (λ e left.
              second_differs (byte_kind l) t (bytes_in s l g.next).next
              (λ f. omega (arith, core e (bytes_in s l g.next).next left))))
              ∙ h.bytes;
        }

  module _ {z : Row} {c : Cells} {r g b : Entries} {q : Row} {d : Dos} (h : Through s z c r g b q d) (i : ℕ)
      (a : LeftAt (lines_in c r g b + suc (d.count + i)) 0) where
    at_core : LeftAt (suc (d.count + i)) b.next
    at_core = before_walks h.before (suc (d.count + i)) a

    at_dos : LeftAt (d.count + i) q.next
    at_dos =
        rw h.core at
        (line_walks core_kind (linewise (d.count + i)) s t b.next at_core (ap (λ (r : Row). r.ok) h.core ∙ h.cored))

    dos_count : (dos_at s q.next).count + i ≡ d.count + i
    dos_count = rw h.dos

    -- i lines are left behind the do lines
    pub through_walks : LeftAt i d.next
    through_walks = rw h.dos at (dos_walk Q linewise s t q.next (d.count + i) i at_dos dos_count)

    -- where none is left, t ends
    pub through_same : (i ≡ 0 → (p : ℕ) → LeftAt 0 p → length t ≤ p) → Through t z c r g b q d
    through_same ends =
        record {
          before = before_same h.before (suc (d.count + i)) a (λ e. absurd (omega arith));
          core = sym (line_same core_kind (linewise (d.count + i)) s t b.next at_core) ∙ h.core;
          cored = h.cored;
          dos =
              sym
              (dos_same Q linewise s t q.next (d.count + i) i at_dos dos_count
              (λ e left. none_at_end do_kind t (dos_at s q.next).next (ends e (dos_at s q.next).next left)))
              ∙ h.dos;
        }
