-- Where the text of a whole list of entries stands, the reader of entries reads the list, and ends behind the text.
-- Assumes nothing.
use Prim.Native.Nat.{ℕ, zero, suc, ◌+◌, ◌-◌, ◌≤◌, ◌<◌}
use mathlib.Core.Path.{◌≡◌, refl, sym, ap, ◌∙◌}
use mathlib.Core.List.{List, [], ◌∷◌, ◌++◌, append_assoc, append-nil}
use mathlib.Core.Bool.{true, false}
use native.Mathlib.Omega.{arith}
use native.Mathlib.Nat.{sub-zero}
use native.Mathlib.Numerals.{add-one}
use lib.ListN.{length, get_or, take, drop, set, length-append, length-drop}
use lib.Seq.{take_all, take-suc, length-take-le, append_snoc, set_at, drop-drop, drop-append_seam}
use lib.Dec.{eqb}
use borrow.Author.Tests.{le-leb, eqb-true, eqb-false}
use Rattle.text.specs.Star.{star}
use Rattle.text.proofs.Cases.{by_test}
use Rattle.text.proofs.Stars.{star_more}
use Rattle.listing.specs.Listing.{zeros, Entries, with_entry, rises, with_next, more_entries, entries_at}
use Rattle.listing.specs.Output.{lines_of}
use Rattle.listing.specs.Lines.{Entry}

-- ---- the first e entries of a list, and then j times 0

abbrev up_to : (list : List ℕ) (e j : ℕ) → List ℕ
up_to list e j = take e list ++ zeros j

-- behind the last entry it is the list
up_all : (list : List ℕ) (e : ℕ) → length list ≤ e → up_to list e 0 ≡ list
up_all list e h = append-nil (take e list) ∙ take_all e list h

module _ (list : List ℕ) (e j : ℕ) (h : e < length list) where
  up_next : take e list ++ (get_or list e 0 ∷ zeros j) ≡ up_to list (e + 1) j
  up_next =
      sym (append_snoc (take e list) (get_or list e 0) (zeros j))
      ∙ rw add-one (ap (λ (l : List ℕ). l ++ zeros j) (sym (take-suc list e 0 h)))

  -- one entry more, which is 0
  up_zero : get_or list e 0 ≡ 0 → up_to list e (suc j) ≡ up_to list (e + 1) j
  up_zero z = rw z at up_next

  -- one entry more, which is stored
  up_set : set (up_to list e (suc j)) e (get_or list e 0) ≡ up_to list (e + 1) j
  up_set = set_at (take e list) 0 (zeros j) (get_or list e 0) e (length-take-le e list (omega arith)) ∙ up_next

-- ---- lines one after the other

-- behind none of them
pub lines_end : (text : ℕ → List ℕ) (e at : ℕ) → at + length (lines_of text e 0) ≡ at
unfolding lines_of
lines_end text e at = omega arith

pub lines_more : (text : ℕ → List ℕ) (e j : ℕ) → lines_of text e (suc j) ≡ text e ++ lines_of text (e + 1) j
unfolding lines_of
lines_more text e j = refl

-- an entry of which nothing is written
pub lines_skip : (text : ℕ → List ℕ) (e j : ℕ) → text e ≡ [] → lines_of text e (suc j) ≡ lines_of text (e + 1) j
lines_skip text e j z = lines_more text e j ∙ rw z

-- behind a text that stands at a place
pub behind : (s : List ℕ) (at : ℕ) (t u : List ℕ) → drop at s ≡ t ++ u → drop (at + length t) s ≡ u
behind s at t u e = sym (drop-drop (length t) at s) ∙ ap (drop (length t)) e ∙ drop-append_seam t u

-- ---- one turn of the reader, and none

module _ (line : ℕ → Entry) (t : Entries) where
  -- where no line stands, nothing more is read
  still : (k : ℕ) → (line t.next).ok ≡ false → more_entries line k t ≡ t
  unfolding star
  still zero f = refl
  still (suc k) f = rw f

  -- where a line stands that names an entry not below the least, it is read
  turn : (k : ℕ) (e : Entry) → 0 < k → line t.next ≡ e → e.ok ≡ true → t.least ≤ e.key
      → more_entries line k t ≡ more_entries line (k - 1) (with_entry t e)
  turn k e h q ok up =
      rw sub-zero at (star_more (rises line) (with_next line) t k 0 h (rw (q, ok, le-leb t.least e.key up)))
      ∙ ap (λ (e : Entry). more_entries line (k - 1) (with_entry t e)) q

-- ---- a list of entries: `text e` is written of entry e, and `line at` is what is read at a place of s

pub record Readable (s list : List ℕ) (text : ℕ → List ℕ) (line : ℕ → Entry) : Type 0 where
  -- an entry that is 0 is not written
  pub none : (e : ℕ) → get_or list e 0 ≡ 0 → text e ≡ []
  -- another takes a byte at least
  pub some : (e : ℕ) → e < length list → (get_or list e 0 ≡ 0 → ⊥) → 0 < length (text e)
  -- and where its text stands, a line names the entry and its value, and ends after the text
  pub reads : (e at : ℕ) (rest : List ℕ) → e < length list → (get_or list e 0 ≡ 0 → ⊥) → drop at s ≡ text e ++ rest
      → line at ≡ record { ok = true; next = at + length (text e); key = e; value = get_or list e 0 }

-- the list that was read, and the place after its lines
abbrev pub ReadAs : (r : Entries) (list : List ℕ) (next : ℕ) → Type 0
ReadAs r list next = (r.list ≡ list) × (r.next ≡ next)

module _ {s list : List ℕ} {text : ℕ → List ℕ} {line : ℕ → Entry} (rest : List ℕ) (h : Readable s list text line) where
  -- the entries below e are read, and the text of the j others stands at the place; no line stands behind it
  entries_from : (j e k at count least : ℕ) → e + j ≡ length list → least ≤ e → length (lines_of text e j) ≤ k
      → drop at s ≡ lines_of text e j ++ rest → (line (at + length (lines_of text e j))).ok ≡ false
      → ReadAs (more_entries line k (record { count = count; next = at; least = least; list = up_to list e j }))
      list (at + length (lines_of text e j))
  entries_from zero e k at count least all low fuel d f =
      let t : Entries = record { count = count; next = at; least = least; list = up_to list e 0 } in
      let place = lines_end text e at in
      let same = still line t k (rw place at f) in
      (ap (λ (t : Entries). t.list) same ∙ up_all list e (omega arith), ap (λ (t : Entries). t.next) same ∙ sym place)
  entries_from (suc j) e k at count least all low fuel d f =
      by_test (eqb (get_or list e 0) 0)
      (λ q.
      let z : get_or list e 0 ≡ 0 = eqb-true (get_or list e 0) 0 q in
      let skip : lines_of text e (suc j) ≡ lines_of text (e + 1) j = lines_skip text e j (h.none e z) in
      rw (skip, up_zero list e j (omega arith) z)
      (entries_from j (e + 1) k at count least (omega arith) (omega arith) (rw skip at fuel) (rw skip at d) (rw skip at f)))
      (λ q.
      let v = get_or list e 0 in
      let z : v ≡ 0 → ⊥ = eqb-false v 0 q in
      let inside : e < length list = omega arith in
      let others = lines_of text (e + 1) j in
      let long : length (lines_of text e (suc j)) ≡ length (text e) + length others =
      rw (lines_more text e j) (length-append (text e) others) in
      let stands : drop at s ≡ text e ++ (others ++ rest) =
      d ∙ rw (lines_more text e j) (append_assoc (text e) others rest) in
      let place : at + length (text e) + length others ≡ at + length (lines_of text e (suc j)) = omega (arith, long) in
      let t : Entries = record { count = count; next = at; least = least; list = up_to list e (suc j) } in
      let one : Entry = record { ok = true; next = at + length (text e); key = e; value = v } in
      let some = h.some e inside z in
      let same = turn line t k one (omega (arith, some, long)) (h.reads e at (others ++ rest) inside z stands) refl low in
      let then = entries_from j (e + 1) (k - 1) (at + length (text e)) (count + 1) (e + 1) (omega arith) (omega arith)
      (omega (arith, some, long)) (behind s at (text e) (others ++ rest) stands) (rw place f) in
      rw (same, up_set list e j inside, ← place) then)

  -- where the text of a whole list stands, the list is read
  pub entries_back : (at : ℕ) → drop at s ≡ lines_of text 0 (length list) ++ rest
      → (line (at + length (lines_of text 0 (length list)))).ok ≡ false
      → ReadAs (entries_at line (length s) at (zeros (length list))) list (at + length (lines_of text 0 (length list)))
  entries_back at d f =
      let t = lines_of text 0 (length list) in
      let long : length s - at ≡ length t + length rest = sym (length-drop at s) ∙ ap length d ∙ length-append t rest in
      entries_from (length list) 0 (length s) at 0 0 (omega arith) (omega arith) (omega (arith, long)) d f
