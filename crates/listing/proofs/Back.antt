-- What is written of tables reads back as the same tables: the core line, the lines of the rights and those of the grants
-- (`tables_back`). Assumes nothing.
use Prim.Native.Nat.{ℕ, zero, suc, ◌+◌, ◌*◌, ◌/◌, ◌%◌, ◌≤◌, ◌<◌}
use mathlib.Core.Path.{◌≡◌, refl, ◌∙◌}
use mathlib.Core.List.{List, [], ◌∷◌, ◌++◌, append_assoc}
use mathlib.Core.Bool.{true, false, not, ◌&&◌}
use native.Mathlib.Omega.{arith}
use native.Mathlib.Nat.{mod-lt, div-lt_iff_lt-mul, div-add-mod'}
use lib.ListN.{length, get_or, drop, length-append, get_or-eq_default}
use lib.Dec.{leb, ltb, eqb}
use borrow.Author.Tests.{leb-true, ltb-true, eqb-true, eqb-false, ne_eqb}
use Rattle.text.proofs.Cases.{by_test, below_or_not, and_left, and_right}
use Rattle.rules.specs.Numbers.{Tables, N}
use Rattle.rules.specs.Refusals.{well_sized}
use Rattle.rules.specs.Sound.{sound_grant, sound_tables}
use Rattle.rules.specs.declared.Registers.{Registers}
use Rattle.rules.proofs.Sizes.{Sized, sized}
use Rattle.rules.proofs.SoundCells.{AllSound, all_sound}
use Rattle.listing.specs.Words.{right_word, grant_word}
use Rattle.listing.specs.Lines.{core_row, right_at, grant_at, registers_in}
use Rattle.listing.specs.Listing.{zeros, Entries, entries_at}
use Rattle.listing.specs.Output.{lines_of, core_line, right_line, grant_line, state_lines}
use Rattle.listing.proofs.Written.{no_right, some_right, without_grant, some_grant}
use Rattle.listing.proofs.EntriesBack.{lines_end, lines_more, lines_skip, behind, Readable, ReadAs, entries_back}
use Rattle.listing.proofs.LinesBack.{row_long, right_line_back, grant_line_back, core_back, right_first, grant_first}

-- ---- rights and grants as entries that read back

-- a grant entry other than 0: some of the rights 1 to 7, to one of m divisions
abbrev pub GrantIn : (m g : ℕ) → Type 0
GrantIn m g = (1 ≤ g / 256) × (g / 256 ≤ 7) × (g % 256 < m)

module _ (n m : ℕ) (some : 1 ≤ m) (few : m ≤ 32) (cells : n ≤ 256) (s list : List ℕ) (long : length list ≡ n * m) where
  rights_readable : ((e : ℕ) → get_or list e 0 ≤ 7) → Readable s list (right_line m list) (right_at n m s)
  rights_readable high =
      record {
        none = λ e z. no_right m list e (get_or list e 0) refl z;
        some = λ e i z.
            let h = get_or list e 0 in
            let text = some_right m list e h refl z in
            rw text (omega (arith, row_long right_word (e / m ∷ e % m ∷ h ∷ 0 ∷ 0 ∷ []) 3 (omega arith)));
        reads = λ e at rest i z d.
            let h = get_or list e 0 in
            let text = some_right m list e h refl z in
            rw text (right_line_back n m e some few cells (omega (arith, long)) s rest at h (omega (arith, z)) (high e) (rw text at d));
      }

  grants_readable : ((e : ℕ) → (get_or list e 0 ≡ 0 → ⊥) → GrantIn m (get_or list e 0))
      → Readable s list (grant_line m list) (grant_at n m s)
  grants_readable right =
      record {
        none = λ e z. without_grant m list e (get_or list e 0) refl z;
        some = λ e i z.
            let g = get_or list e 0 in
            let text = some_grant m list e g refl z in
            rw text (omega (arith, row_long grant_word (e / m ∷ e % m ∷ g % 256 ∷ g / 256 ∷ 0 ∷ []) 4 (omega arith)));
        reads = λ e at rest i z d.
            let g = get_or list e 0 in
            let text = some_grant m list e g refl z in
            let p = right e z in
            rw text (grant_line_back n m e some few cells (omega (arith, long)) s rest at g p.0 p.1 p.2 (rw text at d));
      }

-- ---- the lists

module _ (n m : ℕ) (some : 1 ≤ m) (few : m ≤ 32) (cells : n ≤ 256) (s rest : List ℕ) (at : ℕ) where
  -- the rights that stand written at a place are read there, where no right line follows
  pub rights_back : (rights : List ℕ) → length rights ≡ n * m → ((e : ℕ) → get_or rights e 0 ≤ 7)
      → drop at s ≡ lines_of (right_line m rights) 0 (length rights) ++ rest
      → (right_at n m s (at + length (lines_of (right_line m rights) 0 (length rights)))).ok ≡ false
      → ReadAs (entries_at (right_at n m s) (length s) at (zeros (n * m))) rights
      (at + length (lines_of (right_line m rights) 0 (length rights)))
  rights_back rights long high d f =
      rw (← long) (entries_back rest (rights_readable n m some few cells s rights long high) at d f)

  -- the grants that stand written at a place are read there, where no grant line follows
  pub grants_back : (grants : List ℕ) → length grants ≡ n * m
      → ((e : ℕ) → (get_or grants e 0 ≡ 0 → ⊥) → GrantIn m (get_or grants e 0))
      → drop at s ≡ lines_of (grant_line m grants) 0 (length grants) ++ rest
      → (grant_at n m s (at + length (lines_of (grant_line m grants) 0 (length grants)))).ok ≡ false
      → ReadAs (entries_at (grant_at n m s) (length s) at (zeros (n * m))) grants
      (at + length (lines_of (grant_line m grants) 0 (length grants)))
  grants_back grants long right d f =
      rw (← long) (entries_back rest (grants_readable n m some few cells s grants long right) at d f)

-- ---- no right line stands where the lines of grants do

-- where none stands behind them
pub grants_no_right : (n m : ℕ) (s rest grants : List ℕ) (j e at : ℕ) → drop at s ≡ lines_of (grant_line m grants) e j ++ rest
    → (right_at n m s (at + length (lines_of (grant_line m grants) e j))).ok ≡ false → (right_at n m s at).ok ≡ false
grants_no_right n m s rest grants zero e at d f = rw (lines_end (grant_line m grants) e at) at f
grants_no_right n m s rest grants (suc j) e at d f =
    let g = get_or grants e 0 in
    by_test (eqb g 0)
    (λ q.
    let skip = lines_skip (grant_line m grants) e j (without_grant m grants e g refl (eqb-true g 0 q)) in
    grants_no_right n m s rest grants j (e + 1) at (rw skip at d) (rw skip at f))
    (λ q.
    by_test (right_at n m s at).ok
    (λ ok.
    let line = some_grant m grants e g refl (eqb-false g 0 q) in
    let others = lines_of (grant_line m grants) (e + 1) j in
    let stands : drop at s ≡ grant_line m grants e ++ (others ++ rest) =
    d ∙ rw (lines_more (grant_line m grants) e j) (append_assoc (grant_line m grants e) others rest) in
    let first = grant_first s (others ++ rest) at (e / m) (e % m) (g % 256) (g / 256) (rw line at stands) in
    absurd (omega (arith, first, right_first n m s at ok)))
    (λ ok. ok))

-- ---- the entries of sound tables

sound_entry : (m d g : ℕ) → (g ≡ 0 → ⊥) → sound_grant m d g ≡ true → GrantIn m g
unfolding sound_grant
sound_entry m d g z e =
    let low = leb 1 (g / 256) in
    let high = leb (g / 256) 7 in
    let target = ltb (g % 256) m in
    let all : (low && high && target && not (eqb (g % 256) d)) ≡ true = rw (ne_eqb g 0 z) at e in
    let three = and_left (low && high && target) (not (eqb (g % 256) d)) all in
    let two = and_left (low && high) target three in (
      leb-true 1 (g / 256) (and_left low high two),
      leb-true (g / 256) 7 (and_right low high two),
      ltb-true (g % 256) m (and_right (low && high) target three),
    )

module _ (t : Tables) (sizes : Sized t) (sound : AllSound t) (e : ℕ) where
  abbrev cell : ℕ
  cell = e / t.M

  abbrev division : ℕ
  division = e % t.M

  sound_right : get_or t.rights e 0 ≤ 7
  sound_right =
      below_or_not e (N t * t.M)
      (λ h.
      let some = sizes.within.some in
      rw (div-add-mod' e t.M) at
      ((sound cell ((div-lt_iff_lt-mul some).1 h)).rights division (mod-lt e some)))
      (λ h. rw (get_or-eq_default t.rights 0 {n = e} (omega (arith, sizes.rights_long))) (omega arith))

  grant_sound : (get_or t.grants e 0 ≡ 0 → ⊥) → GrantIn t.M (get_or t.grants e 0)
  grant_sound z =
      below_or_not e (N t * t.M)
      (λ h.
      let some = sizes.within.some in
      sound_entry t.M division (get_or t.grants e 0) z
      (rw (div-add-mod' e t.M) at
      ((sound cell ((div-lt_iff_lt-mul some).1 h)).grants division (mod-lt e some))))
      (λ h. absurd (z (get_or-eq_default t.grants 0 {n = e} (omega (arith, sizes.grants_long)))))

-- ---- the whole

-- the right lines at a place of s, and the grant lines, of as many cells and divisions as t has
abbrev pub rights_at : Tables → (s : List ℕ) (at : ℕ) → Entries
rights_at t s at = entries_at (right_at (N t) t.M s) (length s) at (zeros (N t * t.M))

abbrev pub grants_at : Tables → (s : List ℕ) (at : ℕ) → Entries
grants_at t s at = entries_at (grant_at (N t) t.M s) (length s) at (zeros (N t * t.M))

-- at a place of s are read the registers r, then the rights of t, then its grants; `end` is the place after them
pub record ReadBack (t : Tables) (r : Registers) (s : List ℕ) (at end : ℕ) : Type 0 where
  pub core : (core_row s at).ok ≡ true
  pub registers : registers_in (core_row s at) ≡ r
  pub rights : (rights_at t s (core_row s at).next).list ≡ t.rights
  pub grants : (grants_at t s (rights_at t s (core_row s at).next).next).list ≡ t.grants
  pub place : (grants_at t s (rights_at t s (core_row s at).next).next).next ≡ end

-- what is written of registers and sound tables reads back as the same, where no right line and no grant line follows
pub tables_back : (t : Tables) (r : Registers) (s rest : List ℕ) (at : ℕ) → well_sized t ≡ true → sound_tables t ≡ true
    → r.current ≤ 4294967295 → r.caller ≤ 4294967295 → r.place ≤ 4294967295
    → drop at s ≡ state_lines r t.M t.rights t.grants ++ rest
    → (right_at (N t) t.M s (at + length (state_lines r t.M t.rights t.grants))).ok ≡ false
    → (grant_at (N t) t.M s (at + length (state_lines r t.M t.rights t.grants))).ok ≡ false
    → ReadBack t r s at (at + length (state_lines r t.M t.rights t.grants))
unfolding state_lines
tables_back t r s rest at well sound f g h d no-right-line no-grant-line =
    let sizes = sized t well in
    let b = sizes.within in
    let m = t.M in
    let c = core_line r in
    let x = lines_of (right_line m t.rights) 0 (length t.rights) in
    let y = lines_of (grant_line m t.grants) 0 (length t.grants) in
    let end : at + length c + length x + length y ≡ at + length (c ++ x ++ y) =
    omega (arith, length-append (c ++ x) y, length-append c x) in
    let d₀ : drop at s ≡ c ++ (x ++ (y ++ rest)) =
    d ∙ append_assoc (c ++ x) y rest ∙ append_assoc c x (y ++ rest) in
    let d₁ = behind s at c (x ++ (y ++ rest)) d₀ in
    let d₂ = behind s (at + length c) x (y ++ rest) d₁ in
    let core = core_back r s (x ++ (y ++ rest)) at f g h d₀ in
    let no_right_here =
    grants_no_right (N t) m s rest t.grants (length t.grants) 0 (at + length c + length x) d₂ (rw end no-right-line) in
    let rights =
    rights_back (N t) m b.some b.divisions b.cells s (y ++ rest) (at + length c) t.rights sizes.rights_long
    (λ e. sound_right t sizes (all_sound t sound) e) d₁ no_right_here in
    let grants =
    grants_back (N t) m b.some b.divisions b.cells s rest (at + length c + length x) t.grants sizes.grants_long
    (λ e. grant_sound t sizes (all_sound t sound) e) d₂ (rw end no-grant-line) in
    record {
      core = core.0;
      registers = core.1;
      rights = rw core.2 rights.0;
      grants = rw (core.2, rights.1) grants.0;
      place = rw (core.2, rights.1) (grants.1 ∙ end);
    }
