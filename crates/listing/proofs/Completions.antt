-- A text that is right so far and goes on with the lines that must still come, the least of each kind, is a right listing.
-- Assumes nothing.
use Prim.Native.Nat.{ℕ, zero, suc, ◌+◌, ◌*◌, ◌≤◌}
use mathlib.Core.Path.{◌≡◌, refl, sym, ap, ◌∙◌}
use mathlib.Core.List.{List, [], ◌∷◌, ◌++◌, append-nil}
use mathlib.Core.Bool.{true, false}
use native.Mathlib.Omega.{arith}
use lib.ListN.{length, drop, length-drop}
use lib.Seq.{drop-drop, drop-append_seam, get_or-drop}
use Rattle.text.specs.Number.{peek_at}
use Rattle.text.specs.Line.{row_at, Row}
use Rattle.text.specs.Text.{row_text}
use Rattle.text.proofs.Lines.{within_limits}
use Rattle.text.proofs.Round.{Small, row_back}
use Rattle.text.proofs.Stars.{star_none}
use Rattle.rules.specs.declared.Registers.{Registers}
use Rattle.listing.specs.Words.{cells_word, size_word}
use Rattle.listing.specs.Lines.{field, head_row, size_row, cell_row, right_at, grant_at, byte_at, core_row, do_row, Entry}
use Rattle.listing.specs.Listing.{zeros, Cells, with_cell, cells_at, Entries, rises, with_next, entries_at, Dos, with_do, dos_at}
use Rattle.listing.specs.Output.{core_line}
use Rattle.listing.specs.First.{IsListing}
use Rattle.listing.proofs.LinesBack.{core_back}
use Rattle.listing.proofs.LineKinds.{cell_kind, right_kind, grant_kind, byte_kind, core_kind, do_kind, second_differs, none_at_end, moves_on}
use Rattle.listing.proofs.Stages.{Before, text_right}

-- 1 and then 0
abbrev one : List ℕ
one = 1 ∷ 0 ∷ 0 ∷ 0 ∷ 0 ∷ []

one_small : Small one
one_small zero = omega arith
one_small (suc zero) = omega arith
one_small (suc (suc zero)) = omega arith
one_small (suc (suc (suc zero))) = omega arith
one_small (suc (suc (suc (suc zero)))) = omega arith
one_small (suc (suc (suc (suc (suc j))))) = omega arith

abbrev zeroed : Registers
zeroed = record { current = 0; caller = 0; place = 0 }

-- `cells 1`, `size 1 0` and `core 0 0 0`
unfoldable pub head_text : List ℕ
head_text = row_text cells_word one 1

unfoldable pub size_text : List ℕ
size_text = row_text size_word one 2

unfoldable pub core_text : List ℕ
core_text = core_line zeroed

-- ---- what stands at a place

module _ (t : List ℕ) (p : ℕ) where
  -- behind a text
  behind : (u v : List ℕ) → drop p t ≡ u ++ v → drop (p + length u) t ≡ v
  behind u v e = sym (drop-drop (length u) p t) ∙ ap (drop (length u)) e ∙ drop-append_seam u v

  -- nothing, only at the end
  pub nothing_left : drop p t ≡ [] → length t ≤ p
  nothing_left e = omega (arith, sym (length-drop p t) ∙ ap length e)

  -- the second byte of `core`
  pub core_second : drop p t ≡ core_text → peek_at t (p + 1) ≡ 111
  unfolding core_text core_line row_text
  core_second e = sym (get_or-drop p t 1 256) ∙ ap (λ (l : List ℕ). peek_at l 1) e

-- ---- no line of a kind stands there

module _ (t : List ℕ) (p : ℕ) where
  no_cells : (cell_row t p).ok ≡ false → cells_at t p ≡ record { next = p; first = []; last = []; offset = []; marks = [] }
  no_cells e =
      star_none (λ (c : Cells). (cell_row t c.next).ok) (λ (c : Cells). with_cell c (cell_row t c.next)) 256
      (record { next = p; first = []; last = []; offset = []; marks = [] }) e

  no_dos : (do_row t p).ok ≡ false → dos_at t p ≡ record { count = 0; next = p; numbers = [] }
  no_dos e =
      star_none (λ (d : Dos). (do_row t d.next).ok) (λ (d : Dos). with_do d (do_row t d.next)) (length t)
      (record { count = 0; next = p; numbers = [] }) e

no_entries : (line : ℕ → Entry) (k p : ℕ) (list : List ℕ) → (line p).ok ≡ false
    → entries_at line k p list ≡ record { count = 0; next = p; least = 0; list = list }
no_entries line k p list e =
    star_none (rises line) (with_next line) k (record { count = 0; next = p; least = 0; list = list }) (rw e)

-- ---- the lines that must still come

-- `core`, behind what stands before it
pub core_completes : {t : List ℕ} {z : Row} {c : Cells} {r g b : Entries} → Before t z c r g b
    → drop b.next t ≡ core_text → IsListing t
unfolding core_text
core_completes {t} {z} {c} {r} {g} {b} h e =
    let p = b.next in
    let u = core_line zeroed in
    let back = core_back zeroed t [] p (omega arith) (omega arith) (omega arith) (e ∙ sym (append-nil u)) in
    let q = core_row t p in
    let ended : length t ≤ q.next =
    rw back.2 (nothing_left t (p + length u) (behind t p u [] (e ∙ sym (append-nil u)))) in
    text_right
    (record {
      before = h;
      core = refl;
      cored = back.0;
      dos = no_dos t q.next (none_at_end do_kind t q.next ended);
    })
    (omega (arith, ended, moves_on core_kind t p back.0))

-- no table, and `core`, behind the size
tables_complete : (t : List ℕ) (z : Row) → (head_row t 0).ok ≡ true → size_row t (head_row t 0).next ≡ z → z.ok ≡ true
    → drop z.next t ≡ core_text → IsListing t
tables_complete t z head size sized e =
    let p = z.next in
    let m = field z 0 in
    let l = field z 1 in
    let second = core_second t p e in
    core_completes
    (record {
      head = head;
      size = size;
      sized = sized;
      cells = no_cells t p (second_differs cell_kind t p (λ f. omega (arith, second)));
      rights = no_entries (right_at 0 m t) (length t) p (zeros (0 * m)) (second_differs (right_kind 0 m) t p (λ f. omega (arith, second)));
      grants = no_entries (grant_at 0 m t) (length t) p (zeros (0 * m)) (second_differs (grant_kind 0 m) t p (λ f. omega (arith, second)));
      bytes = no_entries (byte_at l t) (length t) p (zeros l) (second_differs (byte_kind l) t p (λ f. omega (arith, second)));
    })
    e

-- `size` and `core`, behind the head
pub size_completes : (t : List ℕ) → (head_row t 0).ok ≡ true → drop (head_row t 0).next t ≡ size_text ++ core_text → IsListing t
unfolding size_text size_row
size_completes t head e =
    let p = (head_row t 0).next in
    let u = row_text size_word one 2 in
    let z : Row = record { ok = true; next = p + length u; v = one } in
    let row : row_at t p size_word 2 ≡ z = row_back size_word one 2 (omega arith) (omega arith) one_small t core_text p e in
    let size : size_row t p ≡ z =
    rw (
      row,
      ← within_limits z 0 1 33 (omega arith) (omega arith) (omega arith),
      ← within_limits z 1 0 65537 (omega arith) (omega arith) (omega arith),
    ) in
    tables_complete t z head size refl (behind t p u core_text e)

-- all three
pub head_completes : IsListing (head_text ++ (size_text ++ core_text))
unfolding head_text head_row
head_completes =
    let u = row_text cells_word one 1 in
    let v = size_text ++ core_text in
    let t = u ++ v in
    let h : Row = record { ok = true; next = 0 + length u; v = one } in
    let row : row_at t 0 cells_word 1 ≡ h = row_back cells_word one 1 (omega arith) (omega arith) one_small t v 0 refl in
    let head : head_row t 0 ≡ h = rw (row, ← within_limits h 0 1 2 (omega arith) (omega arith) (omega arith)) in
    size_completes t (ap (λ (r : Row). r.ok) head) (rw head (behind t 0 u v refl))
