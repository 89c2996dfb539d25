-- Two texts read side by side, kind by kind: where they have the same lines, the same is read. `Left j p` says that j lines are
-- left at the place p of those that they have in common. Assumes nothing.
use Prim.Native.Nat.{ℕ, suc, ◌+◌, ◌-◌, ◌≤◌}
use mathlib.Core.Path.{◌≡◌, sym, ap, ◌∙◌}
use mathlib.Core.List.{List, [], ◌∷◌}
use mathlib.Core.Bool.{true, false, ◌&&◌}
use native.Mathlib.Omega.{arith}
use lib.ListN.{length, drop, length-append}
use lib.Dec.{leb}
use Rattle.text.specs.Line.{Row}
use Rattle.text.proofs.Cases.{and_left}
use Rattle.text.proofs.OneLine.{Linewise}
use Rattle.text.proofs.Stars.{star_keeps, star_enough}
use Rattle.text.proofs.Walks.{star_walks, star_same}
use Rattle.listing.specs.Lines.{field, cell_row, do_row, Entry}
use Rattle.listing.specs.Listing.{Cells, with_cell, cells_at, Entries, with_entry, rises, with_next, more_entries, entries_at, Dos, with_do, more_dos, dos_at}
use Rattle.listing.proofs.LineKinds.{EntriesOf, cell_kind, do_kind, moves_on, line_same, line_walks}

-- ---- one text: as many turns as it has bytes are enough

module _ {w : List ℕ} {n : ℕ} {line : List ℕ → ℕ → Entry} (kind : EntriesOf w n line) (s : List ℕ) where
  entries_enough : (k : ℕ) (t : Entries) → length s ≤ k → more_entries (line s) (length s) t ≡ more_entries (line s) k t
  entries_enough k t h =
      star_enough (rises (line s)) (with_next (line s)) (λ (t : Entries). length s - t.next)
      (λ t e.
      omega (arith, moves_on kind s t.next (and_left (line s t.next).ok (leb t.least (line s t.next).key) e)))
      (length s) k t (omega arith) (omega arith)

module _ (s : List ℕ) where
  dos_enough : (k : ℕ) (d : Dos) → length s ≤ k → more_dos s (length s) d ≡ more_dos s k d
  dos_enough k d h =
      star_enough (λ (d : Dos). (do_row s d.next).ok) (λ (d : Dos). with_do d (do_row s d.next))
      (λ (d : Dos). length s - d.next) (λ d e. omega (arith, moves_on do_kind s d.next e))
      (length s) k d (omega arith) (omega arith)

  -- the place after the do lines lies in the text
  pub dos_inside : (p : ℕ) → p ≤ length s → (dos_at s p).next ≤ length s
  dos_inside p h =
      star_keeps (λ (d : Dos). (do_row s d.next).ok) (λ (d : Dos). with_do d (do_row s d.next))
      (λ (d : Dos). d.next ≤ length s) (λ d e _. (moves_on do_kind s d.next e).1) (length s)
      (record { count = 0; next = p; numbers = [] }) h

-- ---- two texts

module _ (Q : ℕ → List ℕ → List ℕ → Type 0) (linewise : (j : ℕ) → Linewise (Q (suc j)) (Q j)) (s t : List ℕ) where
  abbrev pub Left : (j p : ℕ) → Type 0
  Left j p = Q j (drop p s) (drop p t)

  -- ---- cell lines

  cell_counts : (c : Cells) → (cell_row s c.next).ok ≡ true → length (with_cell c (cell_row s c.next)).first ≡ suc (length c.first)
  cell_counts c e = omega (arith, length-append c.first (field (cell_row s c.next) 0 ∷ []))

  cell_walks : (j : ℕ) (c : Cells) → Left (suc j) c.next → (cell_row s c.next).ok ≡ true → Left j (cell_row s c.next).next
  cell_walks j c r e = line_walks cell_kind (linewise j) s t c.next r e

  module _ (p j i : ℕ) (r : Left j p) (e : length (cells_at s p).first + i ≡ j) where
    pub cells_walk : Left i (cells_at s p).next
    cells_walk =
        star_walks (λ (c : Cells). (cell_row s c.next).ok) (λ (c : Cells). with_cell c (cell_row s c.next))
        (λ (c : Cells). length c.first) (λ (j : ℕ) (c : Cells). Left j c.next) cell_counts cell_walks
        256 j i (record { next = p; first = []; last = []; offset = []; marks = [] }) r (omega arith)

    pub cells_same : (i ≡ 0 → Left 0 (cells_at s p).next → (cell_row t (cells_at s p).next).ok ≡ false) → cells_at s p ≡ cells_at t p
    cells_same stops =
        star_same (λ (c : Cells). (cell_row s c.next).ok) (λ (c : Cells). with_cell c (cell_row s c.next))
        (λ (c : Cells). length c.first) (λ (j : ℕ) (c : Cells). Left j c.next) cell_counts cell_walks
        (λ (c : Cells). (cell_row t c.next).ok) (λ (c : Cells). with_cell c (cell_row t c.next))
        (λ j c r. ap (λ (r : Row). r.ok) (line_same cell_kind (linewise j) s t c.next r))
        (λ j c r. ap (with_cell c) (line_same cell_kind (linewise j) s t c.next r))
        256 j i (record { next = p; first = []; last = []; offset = []; marks = [] }) r (omega arith) stops

  -- ---- right, grant and byte lines

  module _ {w : List ℕ} {n : ℕ} {line : List ℕ → ℕ → Entry} (kind : EntriesOf w n line) where
    entry_counts : (u : Entries) → rises (line s) u ≡ true → (with_next (line s) u).count ≡ suc u.count
    entry_counts u e = omega arith

    entry_walks : (j : ℕ) (u : Entries) → Left (suc j) u.next → rises (line s) u ≡ true → Left j (with_next (line s) u).next
    entry_walks j u r e =
        line_walks kind (linewise j) s t u.next r
        (and_left (line s u.next).ok (leb u.least (line s u.next).key) e)

    module _ (list : List ℕ) (p j i : ℕ) (r : Left j p) where
      abbrev none_yet : Entries
      none_yet = record { count = 0; next = p; least = 0; list = list }

      pub entries_walk : (k : ℕ) → (entries_at (line s) k p list).count + i ≡ j → Left i (entries_at (line s) k p list).next
      entries_walk k e =
          star_walks (rises (line s)) (with_next (line s)) (λ (u : Entries). u.count)
          (λ (j : ℕ) (u : Entries). Left j u.next) entry_counts entry_walks k j i none_yet r (omega arith)

      entries_alike : (k : ℕ) → (entries_at (line s) k p list).count + i ≡ j
          → (i ≡ 0 → Left 0 (entries_at (line s) k p list).next → (line t (entries_at (line s) k p list).next).ok ≡ false)
          → entries_at (line s) k p list ≡ entries_at (line t) k p list
      entries_alike k e stops =
          star_same (rises (line s)) (with_next (line s)) (λ (u : Entries). u.count)
          (λ (j : ℕ) (u : Entries). Left j u.next) entry_counts entry_walks (rises (line t)) (with_next (line t))
          (λ j u r. ap (λ (e : Entry). e.ok && leb u.least e.key) (line_same kind (linewise j) s t u.next r))
          (λ j u r. ap (with_entry u) (line_same kind (linewise j) s t u.next r))
          k j i none_yet r (omega arith) (λ z l. rw (stops z l))

      pub entries_same : (entries_at (line s) (length s) p list).count + i ≡ j
          → (i ≡ 0 → Left 0 (entries_at (line s) (length s) p list).next → (line t (entries_at (line s) (length s) p list).next).ok ≡ false)
          → entries_at (line s) (length s) p list ≡ entries_at (line t) (length t) p list
      entries_same e stops =
          let k = length s + length t in
          let long = entries_enough kind s k none_yet (omega arith) in
          long ∙ entries_alike k (rw long at e) (rw long at stops) ∙ sym (entries_enough kind t k none_yet (omega arith))

  -- ---- do lines

  module _ (p j i : ℕ) (r : Left j p) where
    abbrev undone : Dos
    undone = record { count = 0; next = p; numbers = [] }

    do_walks : (j : ℕ) (d : Dos) → Left (suc j) d.next → (do_row s d.next).ok ≡ true → Left j (do_row s d.next).next
    do_walks j d r e = line_walks do_kind (linewise j) s t d.next r e

    pub dos_walk : (dos_at s p).count + i ≡ j → Left i (dos_at s p).next
    dos_walk e =
        star_walks (λ (d : Dos). (do_row s d.next).ok) (λ (d : Dos). with_do d (do_row s d.next)) (λ (d : Dos). d.count)
        (λ (j : ℕ) (d : Dos). Left j d.next) (λ d e. omega arith) do_walks (length s) j i undone r (omega arith)

    dos_alike : (k : ℕ) → (more_dos s k undone).count + i ≡ j
        → (i ≡ 0 → Left 0 (more_dos s k undone).next → (do_row t (more_dos s k undone).next).ok ≡ false)
        → more_dos s k undone ≡ more_dos t k undone
    dos_alike k e stops =
        star_same (λ (d : Dos). (do_row s d.next).ok) (λ (d : Dos). with_do d (do_row s d.next)) (λ (d : Dos). d.count)
        (λ (j : ℕ) (d : Dos). Left j d.next) (λ d e. omega arith) do_walks
        (λ (d : Dos). (do_row t d.next).ok) (λ (d : Dos). with_do d (do_row t d.next))
        (λ j d r. ap (λ (r : Row). r.ok) (line_same do_kind (linewise j) s t d.next r))
        (λ j d r. ap (with_do d) (line_same do_kind (linewise j) s t d.next r))
        k j i undone r (omega arith) stops

    pub dos_same : (dos_at s p).count + i ≡ j
        → (i ≡ 0 → Left 0 (dos_at s p).next → (do_row t (dos_at s p).next).ok ≡ false)
        → dos_at s p ≡ dos_at t p
    dos_same e stops =
        let k = length s + length t in
        let long = dos_enough s k undone (omega arith) in
        long ∙ dos_alike k (rw long at e) (rw long at stops) ∙ sym (dos_enough t k undone (omega arith))
