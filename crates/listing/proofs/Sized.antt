-- What a listing loads: tables that are always within their bounds and of the right lengths, so that refusal 1 never answers a line
-- of it; rights 0 to 7 and bytes 0 to 255; and no more instructions than the text has bytes. M and L are in bounds by the limits of
-- the size line, N by the number of cell lines that are read, and every list by the list of zeros that it starts from.
-- Assumes nothing.
use Prim.Native.Nat.{ℕ, zero, suc, ◌+◌, ◌*◌, ◌≤◌}
use mathlib.Core.Path.{◌≡◌, refl, ◌∙◌, subst}
use mathlib.Core.List.{List, [], ◌∷◌}
use mathlib.Core.Bool.{true}
use native.Mathlib.Omega.{arith}
use lib.ListN.{length, get_or, length-set, length-append, length-replicate}
use lib.Dec.{leb, eqb}
use borrow.Author.Tests.{le-leb, leb-true, eq-eqb}
use Rattle.text.specs.Star.{star}
use Rattle.text.specs.Line.{Row}
use Rattle.text.proofs.Cases.{by_test}
use Rattle.text.proofs.Stars.{star_keeps}
use Rattle.rules.specs.Numbers.{Tables, State, tables, in_bounds, right_lengths}
use Rattle.rules.specs.Refusals.{well_sized}
use Rattle.rules.proofs.Sizes.{after_put}
use Rattle.rules.proofs.Small.{Small}
use Rattle.listing.specs.Lines.{field, head_row, size_row, cell_row, right_at, grant_at, byte_at, core_row, do_row, Entry}
use Rattle.listing.specs.Listing.{Text, run, wrong, zeros, Cells, with_cell, more_cells, cells_at, Entries, rises, with_next, entries_at, Dos, with_do, more_dos, dos_at, from_dos, from_core, from_rights, from_size, from_head, listing_in}
use Rattle.listing.proofs.Rows.{size_divisions, size_bytes, rights_below, byte_below}

-- ---- cell lines

-- the four lists are equally long
record Alike (c : Cells) : Type 0 where
  lasts : length c.last ≡ length c.first
  offsets : length c.offset ≡ length c.first
  marked : length c.marks ≡ length c.first

alike_more : (c : Cells) (r : Row) → Alike c → Alike (with_cell c r)
alike_more c r h =
    let first = length-append c.first (field r 0 ∷ []) in
    record {
      lasts = omega (arith, first, length-append c.last (field r 1 ∷ []), h.lasts);
      offsets = omega (arith, first, length-append c.offset (field r 2 ∷ []), h.offsets);
      marked = omega (arith, first, length-append c.marks (field r 3 ∷ []), h.marked);
    }

cells_alike : (s : List ℕ) (at : ℕ) → Alike (cells_at s at)
cells_alike s at =
    star_keeps (λ (c : Cells). (cell_row s c.next).ok) (λ (c : Cells). with_cell c (cell_row s c.next)) Alike
    (λ c g h. alike_more c (cell_row s c.next) h) 256 (record { next = at; first = []; last = []; offset = []; marks = [] })
    (record { lasts = refl; offsets = refl; marked = refl })

-- k lines more at most
cells_few : (s : List ℕ) (k : ℕ) (c : Cells) → length (more_cells s k c).first ≤ length c.first + k
unfolding star
cells_few s zero c = omega arith
cells_few s (suc k) c =
    let r = cell_row s c.next in
    by_test r.ok
    (λ e. rw e (omega (arith, cells_few s k (with_cell c r), length-append c.first (field r 0 ∷ []))))
    (λ e. rw e (omega arith))

-- ---- right, grant and byte lines

module _ (line : ℕ → Entry) (k at : ℕ) (list : List ℕ) where
  -- the list stays as long as it was
  entries_long : length (entries_at line k at list).list ≡ length list
  entries_long =
      star_keeps (rises line) (with_next line) (λ (t : Entries). length t.list ≡ length list)
      (λ t g h. length-set t.list (line t.next).key (line t.next).value ∙ h) k
      (record { count = 0; next = at; least = 0; list = list }) refl

  -- its entries stay within a limit that every line keeps
  entries_most : (most : ℕ) → ((at : ℕ) → (line at).value ≤ most) → ((e : ℕ) → get_or list e 0 ≤ most) → (e : ℕ)
      → get_or (entries_at line k at list).list e 0 ≤ most
  entries_most most small none =
      star_keeps (rises line) (with_next line) (λ (t : Entries). (e : ℕ) → get_or t.list e 0 ≤ most)
      (λ t g h e.
      after_put (λ (v : ℕ). v ≤ most) t.list (line t.next).key e (line t.next).value (λ _. small t.next) (h e)) k
      (record { count = 0; next = at; least = 0; list = list }) none

zero_entry : (most n e : ℕ) → get_or (zeros n) e 0 ≤ most
zero_entry most zero e = omega arith
zero_entry most (suc n) zero = omega arith
zero_entry most (suc n) (suc e) = zero_entry most n e

right_value : (n m : ℕ) (s : List ℕ) (at : ℕ) → (right_at n m s at).value ≤ 7
unfolding right_at
right_value n m s at = omega (arith, rights_below n m s at)

byte_value : (l : ℕ) (s : List ℕ) (at : ℕ) → (byte_at l s at).value ≤ 255
unfolding byte_at
byte_value l s at = omega (arith, byte_below l s at)

-- ---- do lines

-- k lines more at most
dos_few : (s : List ℕ) (k : ℕ) (d : Dos) → (more_dos s k d).count ≤ d.count + k
unfolding star
dos_few s zero d = omega arith
dos_few s (suc k) d =
    let r = do_row s d.next in
    by_test r.ok (λ e. rw e (omega (arith, dos_few s k (with_do d r)))) (λ e. rw e (omega arith))

-- ---- the tables

well : (m : ℕ) (f l o k r g b : List ℕ) → 1 ≤ m → m ≤ 32 → length f ≤ 256 → length b ≤ 65536 → length l ≡ length f
    → length o ≡ length f → length k ≡ length f → length r ≡ length f * m → length g ≡ length f * m
    → well_sized (tables m f l o k r g b) ≡ true
unfolding well_sized in_bounds right_lengths
well m f l o k r g b some few cells bytes lasts offsets marked rights grants =
    rw (
      le-leb 1 m some,
      le-leb m 32 few,
      le-leb (length f) 256 cells,
      le-leb (length b) 65536 bytes,
      eq-eqb (length l) (length f) lasts,
      eq-eqb (length o) (length f) offsets,
      eq-eqb (length k) (length f) marked,
      eq-eqb (length r) (length f * m) rights,
      eq-eqb (length g) (length f * m) grants,
    )

-- a run from the tables t of k instructions: check 1 passes
pub record Loaded (t : Tables) (k : ℕ) : Type 0 where
  pub sizes : well_sized t ≡ true
  pub small : Small t
  pub few : k ≤ 65536

-- what a text loads, where it is a run
Loads : Text → Type 0
Loads (run start k l) = Loaded start.lent k
Loads (wrong line) = Unit {0}

-- ---- the stages

module _ (s : List ℕ) (short : length s ≤ 65536) where
  core_loads : (line : ℕ) (t : Tables) (r : Row) → well_sized t ≡ true → Small t → Loads (from_core s line t r)
  unfolding from_core from_dos Loads
  core_loads line t r sizes small =
      let d = dos_at s r.next in
      by_test r.ok
      (λ e.
      by_test (eqb d.next (length s))
      (λ q.
      let few = dos_few s (length s) (record { count = 0; next = r.next; numbers = [] }) in
      rw (e, q) (record { sizes = sizes; small = small; few = omega (arith, few) }))
      (λ q. rw (e, q) tt))
      (λ e. rw e tt)

  rights_load : (m l : ℕ) (c : Cells) → 1 ≤ m → m ≤ 32 → l ≤ 65536 → length c.first ≤ 256 → Alike c → Loads (from_rights s m l c)
  unfolding from_rights
  rights_load m l c some few bytes cells alike =
      let n = length c.first in
      let a = entries_at (right_at n m s) (length s) c.next (zeros (n * m)) in
      let b = entries_at (grant_at n m s) (length s) a.next (zeros (n * m)) in
      let d = entries_at (byte_at l s) (length s) b.next (zeros l) in
      let rights_long : length a.list ≡ n * m =
      entries_long (right_at n m s) (length s) c.next (zeros (n * m)) ∙ length-replicate (n * m) 0 in
      let grants_long : length b.list ≡ n * m =
      entries_long (grant_at n m s) (length s) a.next (zeros (n * m)) ∙ length-replicate (n * m) 0 in
      let bytes_long : length d.list ≡ l = entries_long (byte_at l s) (length s) b.next (zeros l) ∙ length-replicate l 0 in
      core_loads (2 + n + a.count + b.count + d.count)
      (tables m c.first c.last c.offset c.marks a.list b.list d.list) (core_row s d.next)
      (well m c.first c.last c.offset c.marks a.list b.list d.list some few cells (omega (arith, bytes_long))
      alike.lasts alike.offsets alike.marked rights_long grants_long)
      (record {
        rights = entries_most (right_at n m s) (length s) c.next (zeros (n * m)) 7 (right_value n m s) (zero_entry 7 (n * m));
        bytes = entries_most (byte_at l s) (length s) b.next (zeros l) 255 (byte_value l s) (zero_entry 255 l);
      })

  size_loads : (at : ℕ) → Loads (from_size s (size_row s at))
  unfolding from_size Loads
  size_loads at =
      let r = size_row s at in
      by_test r.ok
      (λ e.
      let m = size_divisions s at e in
      let c = cells_few s 256 (record { next = r.next; first = []; last = []; offset = []; marks = [] }) in
      rw e (rights_load (field r 0) (field r 1) (cells_at s r.next) m.0 m.1 (size_bytes s at) (omega (arith, c)) (cells_alike s r.next)))
      (λ e. rw e tt)

  head_loads : (r : Row) → Loads (from_head s r)
  unfolding from_head Loads
  head_loads r = by_test r.ok (λ e. rw e (size_loads r.next)) (λ e. rw e tt)

text_loads : (s : List ℕ) → Loads (listing_in s)
unfolding listing_in Loads
text_loads s =
    by_test (leb (length s) 65536)
    (λ e. rw e (head_loads s (leb-true (length s) 65536 e) (head_row s 0)))
    (λ e. rw e tt)

-- ---- the whole

pub listing_loaded : (text : List ℕ) (start : State) (k : ℕ) (l : List ℕ) → listing_in text ≡ run start k l → Loaded start.lent k
unfolding Loads
listing_loaded text start k l e = subst Loads e (text_loads text)

-- tables that a listing loads pass check 1
pub listing_sized : (text : List ℕ) (start : State) (k : ℕ) (l : List ℕ) → listing_in text ≡ run start k l → well_sized start.lent ≡ true
listing_sized text start k l e = (listing_loaded text start k l e).sizes
