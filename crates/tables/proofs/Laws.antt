-- Laws of the table check: a row of entries and the numbers below its length, a cell's row, the cell before, the lowest
-- cell that passes a test, and what the check answers. Assumes nothing.
use Prim.Native.Nat.{ℕ, zero, suc, ◌+◌, ◌-◌, ◌*◌, ◌/◌, ◌≤◌, ◌<◌}
use mathlib.Core.Path.{◌≡◌, refl, sym, ap, ◌∙◌}
use mathlib.Core.Bool.{Bool, true, false, not, ◌&&◌, and-false}
use mathlib.Core.List.{List, [], ◌∷◌}
use native.Mathlib.Omega.{arith}
use native.Mathlib.Numerals.{add-one}
use native.Mathlib.Nat.{mul-div_cancel, div-mul-le_self}
use lib.ListN.{length, take, drop, get_or, length-take, length-drop}
use lib.Seq.{get_or-take, get_or-drop, take-length}
use lib.Dec.{leb, ltb}
use borrow.Author.Tests.{ltb-true, ltb-false, lt-ltb, le-ltb, not-true, not-false}
use denote.Ref.{Bor}
use Rattle.std.specs.Prelude.{Option, Some, None, MatchOption, IfSome, IsSomeAnd, IsTrue, unwrap_or, count_by, slice_index_or}
use Rattle.std.specs.Option.{option_map}
use Rattle.std.specs.Iterator.Runs.{Run, ItemsMapToExactChunks, AllItemsGive, IsFirstToGive}
use denote.Param.Members.{Mut}
use Rattle.std.specs.Fn.{Called}
use Rattle.std.specs.Iterator.{Drains}
use Rattle.std.specs.List.{fold, list_all, FoldsTo, IsSubsliceAt}
use Rattle.std.proofs.lemmas.Iterator.{YieldsList}
use Rattle.std.proofs.lemmas.Iterator.Consumers.{fold_from_yields_List}
use Rattle.std.proofs.lemmas.List.Folds.{fold_stays, list_all_more}
use Rattle.std.proofs.lemmas.List.Sums.{count_by_more_yes, count_by_more_no}
use Rattle.rules.specs.Below.{every, count, lowest}
use Rattle.rules.specs.Numbers.{Tables, N, held, grant_of}
use Rattle.rules.specs.Sound.{sound_grant, holders, after_cell_before, sound_cell, sound_tables, lowest_unsound}
use Rattle.rules.specs.Refusals.{out_of_bounds, unsound, well_sized, first_failing}
use Rattle.rules.proofs.Below.{by_test, every_at, every_all, every_same, count_same}
use Rattle.rules.proofs.Below.{lowest_le, lowest_passes, lowest_before, lowest_none, lowest_is}
use Rattle.rules.proofs.Sizes.{sized, row_below, entry_below}
use Rattle.rules.proofs.SoundCells.{lowest_sound, sound_lowest}
use Rattle.tables.specs.Check.{Within, excess, cell_below, tables_checked}

-- ---- a list's entries, and the numbers below its length

all_by_fold : {X : Type 0} (p : X → Bool) (xs : List X) → fold (λ ok x. ok && p x) true xs ≡ list_all p xs
all_by_fold p [] = refl
all_by_fold p (x ∷ xs) = go (p x) (all_by_fold p xs)
  where
    go : (b : Bool) → fold (λ ok y. ok && p y) true xs ≡ list_all p xs → fold (λ ok y. ok && p y) b xs ≡ (b && list_all p xs)
    go true e = e
    go false e = fold_stays (λ ok y. ok && p y) false (λ y. refl) xs

-- whether each item of a chain passes, where `fold` joins the tests by `&`
pub all_from_fold :
    {S A B F : Type 0} {steps : S → Option A → S → Type 0} {v : A → B} {s : S} {all : List B}
    → (g : Mut F (Bool × (A × Unit {0})) Bool) (p : B → Bool) {f : F} (r : Bool)
    → ((xs : List A) × (q : F) × Drains steps s xs × FoldsTo {P = F × Bool} (λ a x b. Called g a.0 (a.1, (x, tt)) b.1 b.0) (f, true) xs (q, r))
    → YieldsList steps v s all
    → ((ok : Bool) (x : A) (b : Bool) (q : F) → Called g f (ok, (x, tt)) b q → (q ≡ f) × (b ≡ (ok && p (v x))))
    → r ≡ list_all p all
all_from_fold {all = all} g p r ran road call =
    fold_from_yields_List g (λ ok x. ok && p x) true r ran road call ∙ all_by_fold p all

module _ {X : Type 0} (p : X → Bool) (xs : List X) (z : X) where
  all_below : (i : ℕ) → i ≤ length xs → list_all p (take i xs) ≡ every (λ d. p (get_or xs d z)) i
  unfolding every
  all_below zero h = refl
  all_below (suc i) h =
      let l : i < length xs = omega arith in
      let e : list_all p (take i xs) ≡ every (λ d. p (get_or xs d z)) i = all_below i (omega arith) in
      (rw (add-one i) at (list_all_more p xs i z l)) ∙ rw e

  counted_below : (i : ℕ) → i ≤ length xs → count_by p (take i xs) ≡ count (λ d. p (get_or xs d z)) i
  unfolding count
  counted_below zero h = refl
  counted_below (suc i) h =
      let l : i < length xs = omega arith in
      let e : count_by p (take i xs) ≡ count (λ d. p (get_or xs d z)) i = counted_below i (omega arith) in
      by_test (p (get_or xs i z))
      (λ b. (rw (add-one i) at (count_by_more_yes p xs i z l b)) ∙ rw (e, b))
      (λ b. (rw (add-one i) at (count_by_more_no p xs i z l b)) ∙ rw (e, b) (omega arith))

  all_every : list_all p xs ≡ every (λ d. p (get_or xs d z)) (length xs)
  all_every = rw take-length at (all_below (length xs) (omega arith))

  counted : count_by p xs ≡ count (λ d. p (get_or xs d z)) (length xs)
  counted = rw take-length at (counted_below (length xs) (omega arith))

-- ---- a cell's row

-- where every list has its length, each cell lies within them
pub cell_within : (t : Tables) (c : ℕ) → well_sized t ≡ true → c < N t → Within t c
cell_within t c e h =
    let s = sized t e in
    let w : c * t.M + t.M ≤ N t * t.M = row_below c (N t) t.M h in
    record {
      in_first = h;
      in_last = omega arith;
      in_offset = omega arith;
      in_marks = omega arith;
      in_rights = omega arith;
      in_grants = omega arith;
      divisions = s.within.divisions;
      bytes = s.within.bytes;
    }

-- the m entries of a list from a place on
abbrev pub row : List ℕ → (place m : ℕ) → List ℕ
row l place m = take m (drop place l)

module _ (l : List ℕ) (place m : ℕ) (h : place + m ≤ length l) where
  row_length : length (row l place m) ≡ m
  row_length = simp (length-take, length-drop) (omega arith)

  entry_of : (d : ℕ) → d < m → get_or (row l place m) d 0 ≡ get_or l (place + d) 0
  entry_of d k = rw (get_or-take, get_or-drop)

  pub row_every : (p : ℕ → ℕ → Bool)
      → every (λ d. p d (get_or (row l place m) d 0)) (length (row l place m)) ≡ every (λ d. p d (get_or l (place + d) 0)) m
  row_every p = rw row_length (every_same _ _ m (λ d k. ap (p d) (entry_of d k)))

  pub row_all : (p : ℕ → Bool) → list_all p (row l place m) ≡ every (λ d. p (get_or l (place + d) 0)) m
  row_all p = all_every p (row l place m) 0 ∙ row_every (λ d v. p v)

  row_counted : (p : ℕ → Bool) → count_by p (row l place m) ≡ count (λ d. p (get_or l (place + d) 0)) m
  row_counted p = counted p (row l place m) 0 ∙ rw row_length (count_same _ _ m (λ d k. ap p (entry_of d k)))

-- what is said of the entries of a cell's row is said of the tables'
module _ {t : Tables} {c : ℕ} (w : Within t c) where
  pub row_grants : every (λ d. sound_grant (length (row t.grants (c * t.M) t.M)) d (get_or (row t.grants (c * t.M) t.M) d 0)) (length (row t.grants (c * t.M) t.M))
      ≡ every (λ d. sound_grant t.M d (grant_of t c d)) t.M
  row_grants =
      ap (λ (m : ℕ). every (λ d. sound_grant m d (get_or (row t.grants (c * t.M) t.M) d 0)) (length (row t.grants (c * t.M) t.M))) (row_length _ _ _ w.in_grants)
      ∙ row_every _ _ _ w.in_grants (sound_grant t.M)

  pub row_holders : count_by (λ right. ltb 0 right) (row t.rights (c * t.M) t.M) ≡ holders t c
  unfolding holders
  row_holders = row_counted _ _ _ w.in_rights (ltb 0)

-- ---- the cell before, in the code's terms

module _ (first last offset : List ℕ) where
  pub first_cell : (c : ℕ) → c ≡ 0 → after_cell_before first last offset c ≡ true
  unfolding after_cell_before
  first_cell c e = rw e

  pub later_cell : (c : ℕ) → (c ≡ 0 → ⊥)
      → after_cell_before first last offset c ≡ (ltb (get_or last (c - 1) 0) (get_or first c 0)
      && leb (get_or offset (c - 1) 0 + get_or last (c - 1) 0 + 1) (get_or offset c 0 + get_or first (c - 1) 0))
  unfolding after_cell_before
  later_cell zero h = absurd (h refl)
  later_cell (suc b) h = let e : suc b - 1 ≡ b = omega arith in rw e

-- ---- the lowest cell that passes a test

cell_is : (n c : ℕ) → c < n → cell_below n c ≡ Some c
cell_is n c h = rw (lt-ltb _ _ h)

no_cell : (n c : ℕ) → n ≤ c → cell_below n c ≡ None
no_cell n c h = rw (le-ltb _ _ h)

cell_or_all : (n c : ℕ) → c ≤ n → unwrap_or (cell_below n c) n ≡ c
cell_or_all n c h =
    by_test (ltb c n) (λ b. rw b) (λ b. rw b (omega (arith, ltb-false _ _ b)))

module _ (p : ℕ → Bool) (n : ℕ) where
  -- r is what a search from 0 on finds first
  abbrev pub First : (r : Option ℕ) → Type 0
  First r =
      MatchOption r ((k : ℕ) → k < n → p k ≡ false)
      (λ i. (i < n) × (p i ≡ true) × ((k : ℕ) → k < i → p k ≡ false))

  pub first_below : (r : Option ℕ) → First r → r ≡ cell_below n (lowest p n)
  first_below None f = rw (lowest_none p n f) (sym (no_cell n n (omega arith)))
  first_below (Some i) f = rw (lowest_is p n i f.0 f.1 f.2) (sym (cell_is n i f.0))

  -- the lowest that passes is k where none below k does, and k does unless it is n
  lowest_at : (k : ℕ) → k ≤ n → (k < n → p k ≡ true) → ((j : ℕ) → j < k → p j ≡ false) → lowest p n ≡ k
  lowest_at k h f none =
      by_test (ltb k n)
      (λ a. lowest_is p n k (ltb-true _ _ a) (f (ltb-true _ _ a)) none)
      (λ a. let q : k ≡ n = omega (arith, ltb-false _ _ a) in rw (← q) (lowest_none p k none))

-- ---- a search over the rows of a list, as `chunks_exact` gives them

-- a run has an item at each place below its length
module _ {A : Type 0} where
  is_there : (items : List A) (o : Option A) (P : A → Type 0) (k : ℕ) → k < length items
      → ((d : A) → option_map (λ y. y) o ≡ Some (slice_index_or items k d)) → IfSome o P → IsSomeAnd o P
  is_there items (Some x) P k h r e = e
  is_there [] None P k h r e = absurd (omega arith)
  is_there (d ∷ ds) None P k h r e = absurd (cc (r d))

module _ {S F : Type 0} {steps : S → Option (Bor (List ℕ)) → S → Type 0} (u : Run steps)
    (g : Mut F (Bor (List ℕ) × Unit {0}) Bool) (f : F) (p : List ℕ → Bool) (m : ℕ) (xs : List ℕ)
    (chunks : ItemsMapToExactChunks u (λ x. x.now) m xs)
    (call : (a : Bor (List ℕ) × Unit {0}) (b : Bool) (q : F) → Called g f a b q → (q ≡ f) × (b ≡ p a.0.now))
    (test : ℕ → Bool) (same : (k : ℕ) → k * m + m ≤ length xs → p (row xs (k * m) m) ≡ test k) where
  at_row : (o : Option (Bor (List ℕ))) (k : ℕ) (b : Bool)
      → IfSome o (λ x. (length x.now ≡ m) × (k * m + m ≤ length xs) × IsSubsliceAt m xs (k * m) x.now)
      → IsSomeAnd o (λ x. Called g f (x, tt) b f) → test k ≡ b
  at_row None k b s e = absurd e
  at_row (Some x) k b s e = sym ((call (x, tt) b f e).1 ∙ ap p s.2.0 ∙ same k s.1)

  -- `position` finds the first row that passes
  pub first_row : (r : Option ℕ) → IfSome r (λ i. i < length xs / m)
      → MatchOption r (IsTrue u.whole × AllItemsGive u g f false) (λ i. (u.len ≡ i + 1) × IsFirstToGive u g f true false i)
      → First test (length xs / m) r
  first_row None b e =
      λ k h. at_row (u.at k) k false (chunks.2 k)
      (is_there u.items (u.at k) _ k (omega (arith, chunks.1 e.0, u.long)) (λ d. u.reads k d (omega (arith, chunks.1 e.0)))
      (e.1 (λ a b q w. (call a b q w).0) k))
  first_row (Some i) b e =
      let w = e.1 (λ a b q w. (call a b q w).0) in
      (b, at_row (u.at i) i true (chunks.2 i) w.0, λ k h. at_row (u.at k) k false (chunks.2 k) (w.1 k h))

-- ---- the lowest cell on which a right is above 7, and the lowest unsound one

-- where no entry of the list is above 7, there is none
pub no_excess : (m : ℕ) (rights : List ℕ) → list_all (λ right. leb right 7) rights ≡ true
    → None ≡ cell_below (length rights / m) (lowest (excess m rights) (length rights / m))
no_excess m rights e =
    first_below (excess m rights) (length rights / m) None
    (λ c h. ap not (every_all _ m (λ d k.
    every_at _ _ _ (sym (all_every (λ right. leb right 7) rights 0) ∙ e) (omega (arith, entry_below c (length rights / m) d m h k, div-mul-le_self (length rights) m)))))

module _ (t : Tables) (c : ℕ) where
  pub at_most_seven : excess t.M t.rights c ≡ false → every (λ d. leb (held t c d) 7) t.M ≡ true
  at_most_seven e = not-false _ e

  excess_unsound : excess t.M t.rights c ≡ true → sound_cell t c ≡ false
  unfolding sound_cell
  excess_unsound e =
      let q : every (λ d. leb (held t c d) 7) t.M ≡ false = not-true _ e in
      rw (q, and-false)

-- the rights have a row for each cell
cells_in_rights : (t : Tables) → well_sized t ≡ true → length t.rights / t.M ≡ N t
cells_in_rights t e =
    let s = sized t e in
    let h : 0 < t.M = s.within.some in
    rw s.rights_long (mul-div_cancel (N t) h)

-- where a search of the rows found it
pub rows_as_cells : (t : Tables) (r : Option ℕ) → well_sized t ≡ true
    → r ≡ cell_below (length t.rights / t.M) (lowest (excess t.M t.rights) (length t.rights / t.M))
    → r ≡ cell_below (N t) (lowest (excess t.M t.rights) (N t))
rows_as_cells t r w e = rw (cells_in_rights t w) at e

module _ (t : Tables) (r : Option ℕ) (e : r ≡ cell_below (N t) (lowest (excess t.M t.rights) (N t))) where
  its_place : unwrap_or r (N t) ≡ lowest (excess t.M t.rights) (N t)
  its_place = ap (λ o. unwrap_or o (N t)) e ∙ cell_or_all (N t) _ (lowest_le _ (N t))

  -- no right is above 7 on a cell before it
  pub before_excess : (c : ℕ) → c < unwrap_or r (N t) → (c < N t) × (excess t.M t.rights c ≡ false)
  before_excess c h =
      let q = its_place in
      (omega (arith, lowest_le (excess t.M t.rights) (N t)), lowest_before (excess t.M t.rights) (N t) c (omega arith))

  -- where those cells are sound, it is the lowest unsound one
  pub excess_unsound_first : ((c : ℕ) → c < unwrap_or r (N t) → sound_cell t c ≡ true) → r ≡ cell_below (N t) (lowest_unsound t)
  unfolding lowest_unsound
  excess_unsound_first f =
      let q = its_place in
      let u : lowest (λ c. not (sound_cell t c)) (N t) ≡ lowest (excess t.M t.rights) (N t)
      = lowest_at _ (N t) _ (lowest_le _ (N t))
      (λ h. ap not (excess_unsound t _ (lowest_passes (excess t.M t.rights) (N t) h)))
      (λ c h. ap not (f c (omega arith))) in
      rw u e

-- an unsound cell below which each is sound
pub unsound_first : (t : Tables) (c : ℕ) → c < N t → ((k : ℕ) → k < c → sound_cell t k ≡ true) → sound_cell t c ≡ false
    → Some c ≡ cell_below (N t) (lowest_unsound t)
unfolding lowest_unsound
unsound_first t c h f e = first_below _ (N t) (Some c) (h, ap not e, λ k l. ap not (f k l))

module _ (t : Tables) where
  pub unsound_le : lowest_unsound t ≤ N t
  unfolding lowest_unsound
  unsound_le = lowest_le _ (N t)

  pub unsound_before_end : (lowest_unsound t ≡ N t → ⊥) → sound_tables t ≡ false
  unsound_before_end n = by_test (sound_tables t) (λ e. absurd (n (sound_lowest t e))) (λ e. e)

-- ---- what the check answers

module _ (t : Tables) where
  pub checked_outside : well_sized t ≡ false → record { number = out_of_bounds; value = 0 } ≡ tables_checked t
  unfolding tables_checked first_failing
  checked_outside e = rw e

  pub checked_sound : well_sized t ≡ true → None ≡ cell_below (N t) (lowest_unsound t)
      → record { number = 0; value = 0 } ≡ tables_checked t
  unfolding tables_checked first_failing
  checked_sound e u =
      let n : lowest_unsound t ≡ N t
      = by_test (ltb (lowest_unsound t) (N t)) (λ b. absurd (cc (u, cell_is _ _ (ltb-true _ _ b))))
      (λ b. omega (arith, ltb-false _ _ b, unsound_le t)) in
      rw (e, lowest_sound t n)

  -- the cell that was found is a cell, and the lowest unsound one
  found_cell : (c : ℕ) → Some c ≡ cell_below (N t) (lowest_unsound t) → (c < N t) × (c ≡ lowest_unsound t)
  found_cell c u =
      by_test (ltb (lowest_unsound t) (N t))
      (λ b. let l : lowest_unsound t < N t = ltb-true _ _ b in
      let s : Some c ≡ Some (lowest_unsound t) = u ∙ cell_is _ _ l in
      let q : c ≡ lowest_unsound t = cc s in (omega arith, q))
      (λ b. absurd (cc (u, no_cell (N t) (lowest_unsound t) (ltb-false _ _ b))))

  pub found_small : (c : ℕ) → well_sized t ≡ true → Some c ≡ cell_below (N t) (lowest_unsound t) → c ≤ 256
  found_small c e u = let s = sized t e in omega (arith, s.within.cells, (found_cell c u).0)

  pub checked_unsound : (c : ℕ) → well_sized t ≡ true → Some c ≡ cell_below (N t) (lowest_unsound t)
      → record { number = unsound; value = c } ≡ tables_checked t
  unfolding tables_checked first_failing
  checked_unsound c e u =
      let k = found_cell c u in
      rw (e, unsound_before_end t (λ q. omega (arith, k.0, k.1, q)), k.1)
