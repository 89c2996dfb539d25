-- How far a text is right: before its core line, and through to its end; and what the text then is. Assumes nothing.
use Prim.Native.Nat.{ℕ, ◌+◌, ◌*◌}
use mathlib.Core.Path.{◌≡◌, refl, sym, ◌∙◌}
use mathlib.Core.List.{List}
use mathlib.Core.Bool.{true, false}
use native.Mathlib.Omega.{arith}
use lib.ListN.{length}
use lib.Dec.{eqb}
use borrow.Author.Tests.{eqb-true, eqb-false, eq-eqb, ne_eqb}
use Rattle.text.specs.Line.{Row}
use Rattle.text.proofs.Cases.{by_test}
use Rattle.rules.specs.Numbers.{Tables, state, tables}
use Rattle.listing.specs.Lines.{field, head_row, size_row, right_at, grant_at, byte_at, core_row, registers_in}
use Rattle.listing.specs.Listing.{zeros, Cells, cells_at, Entries, entries_at, Dos, dos_at, Text, run, wrong, from_head, from_size, from_rights, from_core, from_dos}
use Rattle.listing.specs.First.{text_in, IsListing}

-- the right lines behind the cells c, of m divisions; the grant lines at a place; and the byte lines, of l bytes
abbrev pub rights_in : (s : List ℕ) (m : ℕ) → Cells → Entries
rights_in s m c = entries_at (right_at (length c.first) m s) (length s) c.next (zeros (length c.first * m))

abbrev pub grants_in : (s : List ℕ) (m : ℕ) → Cells → (at : ℕ) → Entries
grants_in s m c at = entries_at (grant_at (length c.first) m s) (length s) at (zeros (length c.first * m))

abbrev pub bytes_in : (s : List ℕ) (l at : ℕ) → Entries
bytes_in s l at = entries_at (byte_at l s) (length s) at (zeros l)

-- before the core line of s stand a head, the size z, the cells c, the rights r, the grants g and the bytes b
pub record Before (s : List ℕ) (z : Row) (c : Cells) (r g b : Entries) : Type 0 where
  pub head : (head_row s 0).ok ≡ true
  pub size : size_row s (head_row s 0).next ≡ z
  pub sized : z.ok ≡ true
  pub cells : cells_at s z.next ≡ c
  pub rights : rights_in s (field z 0) c ≡ r
  pub grants : grants_in s (field z 0) c r.next ≡ g
  pub bytes : bytes_in s (field z 1) g.next ≡ b

-- and behind them the core q and the instructions d
pub record Through (s : List ℕ) (z : Row) (c : Cells) (r g b : Entries) (q : Row) (d : Dos) : Type 0 where
  pub before : Before s z c r g b
  pub core : core_row s b.next ≡ q
  pub cored : q.ok ≡ true
  pub dos : dos_at s q.next ≡ d

-- how many lines stand before the core line
abbrev pub lines_in : Cells → (r g b : Entries) → ℕ
lines_in c r g b = 2 + length c.first + r.count + g.count + b.count

abbrev pub tables_in : Row → Cells → (r g b : Entries) → Tables
tables_in z c r g b =
    tables (field z 0) c.first c.last c.offset c.marks r.list g.list b.list

-- ---- what the text is

pub text_no_head : (s : List ℕ) → (head_row s 0).ok ≡ false → text_in s ≡ wrong 1
unfolding text_in from_head
text_no_head s e = rw e

pub text_no_size : (s : List ℕ) → (head_row s 0).ok ≡ true → (size_row s (head_row s 0).next).ok ≡ false → text_in s ≡ wrong 2
unfolding text_in from_head from_size
text_no_size s h e = rw (h, e)

module _ {s : List ℕ} {z : Row} {c : Cells} {r g b : Entries} where
  before_text : Before s z c r g b → text_in s ≡ from_core s (lines_in c r g b) (tables_in z c r g b) (core_row s b.next)
  unfolding text_in from_head from_size from_rights
  before_text h = rw (h.head, h.size, h.sized, h.cells, h.rights, h.grants, h.bytes)

  pub text_no_core : Before s z c r g b → (core_row s b.next).ok ≡ false → text_in s ≡ wrong (lines_in c r g b + 1)
  unfolding from_core
  text_no_core h e = before_text h ∙ rw e

  module _ {q : Row} {d : Dos} (h : Through s z c r g b q d) where
    through_text : text_in s ≡ from_dos s (lines_in c r g b + 1) (state (tables_in z c r g b) (registers_in q)) d
    unfolding from_core
    through_text = before_text h.before ∙ rw (h.core, h.cored, h.dos)

    pub text_no_end : (d.next ≡ length s → ⊥) → text_in s ≡ wrong (lines_in c r g b + 1 + d.count + 1)
    unfolding from_dos
    text_no_end e = through_text ∙ rw (ne_eqb d.next (length s) e)

    pub text_right : d.next ≡ length s → IsListing s
    unfolding from_dos
    text_right e =
        record {
          start = state (tables_in z c r g b) (registers_in q);
          count = d.count;
          numbers = d.numbers;
          reads = through_text ∙ rw (eq-eqb d.next (length s) e);
        }

-- a right text is wrong at no line, and a wrong one at one
pub right_not_wrong : {s : List ℕ} {k : ℕ} → IsListing s → text_in s ≡ wrong k → ⊥
right_not_wrong {s} {k} h e =
    let both : run h.start h.count h.numbers ≡ wrong k = sym h.reads ∙ e in
    let z : ◌≡◌ {A = ℕ} 0 1 = cc in omega arith

pub same_line : {t : Text} {k j : ℕ} → t ≡ wrong k → t ≡ wrong j → k ≡ j
same_line {t} {k} {j} e f = let both : wrong k ≡ wrong j = sym e ∙ f in cc

-- ---- how far it is right

pub data Outcome (s : List ℕ) : Type 0 where
  no_head : (head_row s 0).ok ≡ false → Outcome s
  no_size : (head_row s 0).ok ≡ true → (size_row s (head_row s 0).next).ok ≡ false → Outcome s
  no_core : (z : Row) (c : Cells) (r g b : Entries) → Before s z c r g b → (core_row s b.next).ok ≡ false → Outcome s
  no_end : (z : Row) (c : Cells) (r g b : Entries) (q : Row) (d : Dos) → Through s z c r g b q d
      → (d.next ≡ length s → ⊥) → Outcome s
  all_right : (z : Row) (c : Cells) (r g b : Entries) (q : Row) (d : Dos) → Through s z c r g b q d
      → d.next ≡ length s → Outcome s

behind_tables : (s : List ℕ) (z : Row) (c : Cells) (r g b : Entries) → Before s z c r g b → Outcome s
behind_tables s z c r g b h =
    let q = core_row s b.next in
    let d = dos_at s q.next in
    by_test q.ok
    (λ e.
    let through : Through s z c r g b q d = record { before = h; core = refl; cored = e; dos = refl } in
    by_test (eqb d.next (length s))
    (λ f. all_right z c r g b q d through (eqb-true d.next (length s) f))
    (λ f. no_end z c r g b q d through (eqb-false d.next (length s) f)))
    (λ e. no_core z c r g b h e)

pub outcome : (s : List ℕ) → Outcome s
outcome s =
    let z = size_row s (head_row s 0).next in
    let c = cells_at s z.next in
    let r = rights_in s (field z 0) c in
    let g = grants_in s (field z 0) c r.next in
    let b = bytes_in s (field z 1) g.next in
    by_test (head_row s 0).ok
    (λ h.
    by_test z.ok
    (λ e.
    behind_tables s z c r g b
    (record { head = h; size = refl; sized = e; cells = refl; rights = refl; grants = refl; bytes = refl }))
    (λ e. no_size h e))
    (λ h. no_head h)
