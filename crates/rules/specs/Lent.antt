-- How a contract speaks of what a call is lent. A lent list is a reference, whose list `now` reads.
use Rattle.std.specs.Prelude.{ℕ, ◌+◌, ◌≡◌, List}
use Rattle.std.specs.Borrow.{Bor, MutBor}
use Rattle.rules.specs.Numbers.{Tables, tables}
use Rattle.rules.specs.declared.Tables.{Tables as LentTables}
use Rattle.rules.specs.declared.TablesMut.{TablesMut as LentTablesMut}

-- a list that is lent for reading, and one that may be written
abbrev pub Slice : Type 0
Slice = Bor (List ℕ)

abbrev pub MutSlice : Type 0
MutSlice = MutBor (List ℕ)

-- ---- what a reference is to a program: where it points, and the list that stands there. (The name under which a proof
-- tracks that list is no part of it.)

pub record Reference : Type 0 where
  -- a block of memory, and how far into it
  pub place : ℕ × ℕ
  pub list : List ℕ

abbrev pub refers : Slice → Reference
refers s = record { place = s.ref_ptr; list = s.now }

-- the part of a lent list of bytes that begins at its byte a, and in which l stands; a byte takes one place
abbrev pub part_of_lent : Slice → (a : ℕ) → List ℕ → Reference
part_of_lent s a l = record { place = (s.ref_ptr.0, a + s.ref_ptr.1); list = l }

-- ---- the tables as a call takes them, beside the memory: for reading, and where it may write marks, rights and grants

abbrev pub lent : LentTables → (memory : List ℕ) → Tables
lent t memory = tables t.m t.first.now t.last.now t.offset.now t.marks.now t.rights.now t.grants.now memory

abbrev pub lent_mut : LentTablesMut → (memory : List ℕ) → Tables
lent_mut t memory = tables t.m t.first.now t.last.now t.offset.now t.marks.now t.rights.now t.grants.now memory

-- M and the lists that a call leaves are those that it was lent: what is read is the same, and each reference that is written
-- keeps the name under which a proof tracks its list
pub record SameLists (before after : LentTablesMut) : Type 0 where
  pub divisions : after.m ≡ before.m
  pub first : after.first ≡ before.first
  pub last : after.last ≡ before.last
  pub offset : after.offset ≡ before.offset
  pub marks : after.marks.ghost_name ≡ before.marks.ghost_name
  pub rights : after.rights.ghost_name ≡ before.rights.ghost_name
  pub grants : after.grants.ghost_name ≡ before.grants.ghost_name

-- ---- the arguments of a call as one tuple, as the toolchain hands them to a proof

-- M, the lists in the order in which every call takes them, and the rest. The marks, the rights and the grants are lent
-- alike, as an Entries; the memory as a Memory
abbrev pub Passed : (Entries Memory Rest : Type 0) → Type 0
Passed Entries Memory Rest =
    ℕ × (Slice × (Slice × (Slice × (Entries × (Entries × (Entries × (Memory × Rest)))))))

-- the tables among them, where `entries` and `memory` read what is lent
abbrev pub lent_of :
    {Entries Memory Rest : Type 0}
    → (entries : Entries → List ℕ) (memory : Memory → List ℕ) → Passed Entries Memory Rest → Tables
lent_of entries memory d =
    tables d.0 d.1.0.now d.1.1.0.now d.1.1.1.0.now (entries d.1.1.1.1.0) (entries d.1.1.1.1.1.0)
    (entries d.1.1.1.1.1.1.0) (memory d.1.1.1.1.1.1.1.0)

-- of a call that may write all four, of one that may write the memory alone, and of one that may write none
abbrev pub lent_all : {Rest : Type 0} → Passed MutSlice MutSlice Rest → Tables
lent_all d = lent_of (λ l. l.now) (λ l. l.now) d

abbrev pub lent_block : {Rest : Type 0} → Passed Slice MutSlice Rest → Tables
lent_block d = lent_of (λ l. l.now) (λ l. l.now) d

abbrev pub lent_view : {Rest : Type 0} → Passed Slice Slice Rest → Tables
lent_view d = lent_of (λ l. l.now) (λ l. l.now) d

abbrev pub rest_of : {Entries Memory Rest : Type 0} → Passed Entries Memory Rest → Rest
rest_of d = d.1.1.1.1.1.1.1.1
