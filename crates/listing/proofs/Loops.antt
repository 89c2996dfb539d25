-- Laws of the loops that read lines of one kind: what holds after so many lines. Assumes nothing.
use Prim.Native.Nat.{ℕ, ◌+◌, ◌-◌, ◌*◌, ◌≤◌, ◌<◌}
use mathlib.Core.Path.{◌≡◌, refl, sym, ap, ◌∙◌}
use mathlib.Core.List.{List, [], ◌∷◌, ◌++◌, map}
use mathlib.Core.Bool.{true, false, ◌&&◌}
use native.Mathlib.Omega.{arith}
use native.Mathlib.Numerals.{add-one}
use lib.ListN.{length, get_or, set, take, drop, length-set, length-drop}
use lib.Seq.{take-suc-set, length-take-le}
use Rattle.std.proofs.lemmas.Slice.{take-put_mid}
use lib.Dec.{leb}
use borrow.Rule.Slice.PartMut.{put_mid, mid_of, same_len_mid}
use Rattle.std.proofs.Common.{Some, None}
use Rattle.text.specs.Line.{Row, option_of_row, row_of}
use Rattle.text.specs.declared.line.Row.{Row as Found}
use Rattle.text.proofs.Lines.{found_row, no_row}
use Rattle.text.proofs.Stars.{star_stop, star_more, star_full}
use Rattle.listing.specs.Lines.{field, cell_row, do_row, Entry}
use Rattle.listing.specs.Listing.{Cells, with_cell, more_cells, cells_at, Entries, with_entry, rises, with_next, more_entries, entries_at, Dos, with_do, more_dos, dos_at}
use Rattle.listing.specs.Reading.{FilledAs}
use Rattle.listing.specs.declared.lines.Passed.{Passed}
use Rattle.std.proofs.lemmas.List.{map-id}
use Rattle.listing.proofs.Rows.{do_advance}

-- one entry more at the front
front_more : (l : List ℕ) (n x : ℕ) → n < length l → take (n + 1) (set l n x) ≡ take n l ++ (x ∷ [])
front_more l n x h = rw add-one (take-suc-set l n x h)

-- ---- cell lines: n of them are read into the fronts of the lists, and i is the place after them

abbrev pub front : (n i : ℕ) (first last offset marks : List ℕ) → Cells
front n i first last offset marks =
    record { next = i; first = take n first; last = take n last; offset = take n offset; marks = take n marks }

pub record CellsRead (s : List ℕ) (at n i : ℕ) (first last offset marks : List ℕ) : Type 0 where
  pub few : n ≤ 256
  pub firsts : length first ≡ 256
  pub lasts : length last ≡ 256
  pub offsets : length offset ≡ 256
  pub marked : length marks ≡ 256
  pub same : more_cells s (256 - n) (front n i first last offset marks) ≡ cells_at s at

module _ {s : List ℕ} {at n i : ℕ} {first last offset marks : List ℕ} (h : CellsRead s at n i first last offset marks) where
  abbrev now_read : Cells
  now_read = front n i first last offset marks

  pub cells_more : n < 256 → {f : Found} → Some f ≡ option_of_row (cell_row s i)
      → CellsRead s at (n + 1) f.next (set first n (get_or f.v 0 0)) (set last n (get_or f.v 1 0)) (set offset n (get_or f.v 2 0)) (set marks n (get_or f.v 3 0))
  cells_more k {f} q =
      let r = row_of f in
      let e : r ≡ cell_row s i = sym (found_row (cell_row s i) q) in
      let go = star_more (λ (c : Cells). (cell_row s c.next).ok) (λ (c : Cells). with_cell c (cell_row s c.next)) now_read 256 n k
      (ap (λ (r : Row). r.ok) (sym e)) in
      record {
        few = omega arith;
        firsts = length-set first n (field r 0) ∙ h.firsts;
        lasts = length-set last n (field r 1) ∙ h.lasts;
        offsets = length-set offset n (field r 2) ∙ h.offsets;
        marked = length-set marks n (field r 3) ∙ h.marked;
        same =
            rw (
              front_more first n (field r 0) (omega (arith, h.firsts)),
              front_more last n (field r 1) (omega (arith, h.lasts)),
              front_more offset n (field r 2) (omega (arith, h.offsets)),
              front_more marks n (field r 3) (omega (arith, h.marked)),
            )
            (ap (λ (r : Row). more_cells s (256 - (n + 1)) (with_cell now_read r)) e ∙ sym go ∙ h.same);
      }

  pub cells_stop : n < 256 → None ≡ option_of_row (cell_row s i) → cells_at s at ≡ now_read
  cells_stop k q =
      sym h.same
      ∙ star_stop (λ (c : Cells). (cell_row s c.next).ok) (λ (c : Cells). with_cell c (cell_row s c.next)) now_read 256 n k
      (no_row (cell_row s i) q)

  pub cells_full : 256 ≤ n → cells_at s at ≡ front 256 i first last offset marks
  cells_full k =
      let all : n ≡ 256 = omega (arith, h.few) in
      sym h.same
      ∙ star_full (λ (c : Cells). (cell_row s c.next).ok) (λ (c : Cells). with_cell c (cell_row s c.next)) now_read 256 n k
      ∙ ap (λ (m : ℕ). front m i first last offset marks) all

-- ---- right, grant and byte lines: n of them are read into the list, i is the place after them, and the next names an entry
-- from least on

pub record EntriesRead (line : ℕ → Entry) (k at : ℕ) (list₀ : List ℕ) (n i least : ℕ) (list : List ℕ) : Type 0 where
  pub few : n ≤ k
  pub long : length list ≡ length list₀
  pub same : more_entries line (k - n) (record { count = n; next = i; least = least; list = list }) ≡ entries_at line k at list₀

module _ {line : ℕ → Entry} {k at : ℕ} {list₀ : List ℕ} {n i least : ℕ} {list : List ℕ} (h : EntriesRead line k at list₀ n i least list) where
  abbrev filled_now : Entries
  filled_now = record { count = n; next = i; least = least; list = list }

  pub entries_more : n < k → (e : Entry) → line i ≡ e → (e.ok && leb least e.key) ≡ true → {m : ℕ} → m ≡ e.key + 1
      → EntriesRead line k at list₀ (n + 1) e.next m (set list e.key e.value)
  entries_more f e q ok r =
      rw r
      (record {
        few = omega arith;
        long = length-set list e.key e.value ∙ h.long;
        same =
            ap (λ (e : Entry). more_entries line (k - (n + 1)) (with_entry filled_now e)) (sym q)
            ∙ sym (star_more (rises line) (with_next line) filled_now k n f (ap (λ (e : Entry). e.ok && leb least e.key) q ∙ ok))
            ∙ h.same;
      })

  filled_as : filled_now ≡ entries_at line k at list₀ → FilledAs (entries_at line k at list₀) (record { count = n; next = i }) list
  filled_as q =
      record {
        counted = ap (λ (t : Entries). t.count) q;
        ended = ap (λ (t : Entries). t.next) q;
        filled = ap (λ (t : Entries). t.list) q;
      }

  pub entries_stop : n < k → rises line filled_now ≡ false → FilledAs (entries_at line k at list₀) (record { count = n; next = i }) list
  entries_stop g f = filled_as (sym (star_stop (rises line) (with_next line) filled_now k n g f) ∙ h.same)

  pub entries_full : k ≤ n → FilledAs (entries_at line k at list₀) (record { count = k; next = i }) list
  entries_full f =
      let q = sym (star_full (rises line) (with_next line) filled_now k n f) ∙ h.same in
      record {
        counted = omega (arith, h.few, ap (λ (t : Entries). t.count) q);
        ended = ap (λ (t : Entries). t.next) q;
        filled = ap (λ (t : Entries). t.list) q;
      }

-- the values are numbers as they are
pub filled_plain : (line : ℕ → Entry) (k at : ℕ) (list₀ list : List ℕ) (p : Passed)
    → FilledAs (entries_at line k at (map (λ (x : ℕ). x) list₀)) p (map (λ (x : ℕ). x) list) → FilledAs (entries_at line k at list₀) p list
filled_plain line k at list₀ list p h = rw (map-id list₀, map-id list) at h

-- ---- do lines: n of them are read into the front of the list, and i is the place after them

abbrev pub listed : (n i : ℕ) (list : List ℕ) → Dos
listed n i list = record { count = n; next = i; numbers = take (4 * n) list }

pub record DosRead (s : List ℕ) (at n i : ℕ) (list : List ℕ) : Type 0 where
  pub few : n ≤ length s
  pub short : n ≤ 5957
  pub ends : 11 * n ≤ i
  pub long : length list ≡ 23828
  pub same : more_dos s (length s - n) (listed n i list) ≡ dos_at s at

-- four numbers more at the front
four_front : (v : List ℕ) → length (take 4 v) ≡ 4 → take 4 v ≡ get_or v 0 0 ∷ get_or v 1 0 ∷ get_or v 2 0 ∷ get_or v 3 0 ∷ []
four_front [] h = absurd (omega arith)
four_front (a ∷ []) h = absurd (omega arith)
four_front (a ∷ b ∷ []) h = absurd (omega arith)
four_front (a ∷ b ∷ c ∷ []) h = absurd (omega arith)
four_front (a ∷ b ∷ c ∷ d ∷ v) h = refl

module _ {s : List ℕ} {at n i : ℕ} {list : List ℕ} (small : length s ≤ 65536) (h : DosRead s at n i list) where
  -- where a line stands, there is room for its numbers
  pub do_room : {f : Found} → Some f ≡ option_of_row (do_row s i) → (n + 1 ≤ 5957) × (11 * (n + 1) ≤ f.next)
  do_room {f} q =
      let e : do_row s i ≡ row_of f = found_row (do_row s i) q in
      let a = do_advance s i (ap (λ (r : Row). r.ok) e) in
      let p : i + 11 ≤ f.next = rw e at a.0 in
      let q : f.next ≤ length s = rw e at a.1 in
      (omega (arith, h.ends), omega (arith, h.ends))

  pub dos_more : n < length s → {f : Found} → Some f ≡ option_of_row (do_row s i)
      → {c : List ℕ} → c ≡ take 4 f.v → length c ≡ length (mid_of (4 * n) (4 * n + 4 - 4 * n) list)
      → DosRead s at (n + 1) f.next (put_mid (4 * n) (4 * n + 4 - 4 * n) list c)
  dos_more k {f} q {c} w l =
      let e : do_row s i ≡ row_of f = found_row (do_row s i) q in
      let room = do_room q in
      let k₀ = 4 * n in
      let new = put_mid k₀ (k₀ + 4 - k₀) list c in
      let four : length c ≡ 4 =
      omega (arith, l, length-take-le (k₀ + 4 - k₀) (drop k₀ list) (omega (arith, length-drop k₀ list, h.long)), length-drop k₀ list, h.long) in
      let four_on : 4 * (n + 1) ≡ k₀ + 4 = omega arith in
      let front : take (4 * (n + 1)) new ≡ take k₀ list ++ (get_or f.v 0 0 ∷ get_or f.v 1 0 ∷ get_or f.v 2 0 ∷ get_or f.v 3 0 ∷ []) =
      ap (λ (m : ℕ). take m new) four_on
      ∙ take-put_mid k₀ (k₀ + 4 - k₀) list c (k₀ + 4) (omega arith) (omega (arith, h.long))
      ∙ ap (λ (u : List ℕ). take k₀ list ++ u) (w ∙ four_front f.v (ap length (sym w) ∙ four)) in
      record {
        few = omega arith;
        short = room.0;
        ends = room.1;
        long = same_len_mid (4 * n) (4 * n + 4 - 4 * n) list c l ∙ h.long;
        same =
            ap (λ (u : List ℕ). more_dos s (length s - (n + 1)) (record { count = n + 1; next = f.next; numbers = u })) front
            ∙ ap (λ (r : Row). more_dos s (length s - (n + 1)) (with_do (listed n i list) r)) (sym e)
            ∙ sym (star_more (λ (d : Dos). (do_row s d.next).ok) (λ (d : Dos). with_do d (do_row s d.next)) (listed n i list) (length s) n k
            (ap (λ (r : Row). r.ok) e))
            ∙ h.same;
      }

  pub dos_stop : n < length s → None ≡ option_of_row (do_row s i) → dos_at s at ≡ listed n i list
  dos_stop k q =
      sym h.same
      ∙ star_stop (λ (d : Dos). (do_row s d.next).ok) (λ (d : Dos). with_do d (do_row s d.next)) (listed n i list) (length s) n k
      (no_row (do_row s i) q)

pub dos_full : {s : List ℕ} {at n i : ℕ} {list : List ℕ} → DosRead s at n i list → length s ≤ n → dos_at s at ≡ listed (length s) i list
dos_full {s} {at} {n} {i} {list} h k =
    let all : n ≡ length s = omega (arith, h.few) in
    sym h.same
    ∙ star_full (λ (d : Dos). (do_row s d.next).ok) (λ (d : Dos). with_do d (do_row s d.next)) (listed n i list) (length s) n k
    ∙ ap (λ (m : ℕ). listed m i list) all
