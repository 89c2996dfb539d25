-- What the two searches answer: the covering cell, and the lowest other holder. Assumes nothing.
use Rattle.std.specs.Prelude.{count_by, take}
use native.Mathlib.Numerals.{add-one}
use lib.Seq.{take_all}
use Rattle.std.proofs.lemmas.List.Sums.{count_by_more_no, count_by_more_yes}
use Rattle.std.specs.Prelude.{Option, Some, None, is_some, Err}
use Rattle.std.specs.Option.{ok_or}
use Rattle.rules.specs.declared.Refusal.{Refusal}
use Prim.Native.Nat.{ℕ, zero, suc, ◌+◌, ◌*◌, ◌≤◌, ◌<◌}
use mathlib.Core.Path.{◌≡◌, refl, sym, subst}
use mathlib.Core.List.{List}
use mathlib.Core.Bool.{Bool, true, false, cond, not, ◌&&◌, and-false, true≢false}
use native.Mathlib.Omega.{arith}
use lib.ListN.{length, get_or}
use lib.Dec.{ltb, eqb}
use borrow.Author.Tests.{lt-ltb, le-ltb, lt-leb, le-leb, ltb-true, ltb-false, eq-eqb, ne_eqb}
use Rattle.rules.specs.Below.{lowest}
use Rattle.rules.specs.Numbers.{Tables}
use Rattle.rules.specs.Instructions.{covers, covering_cell, cell_at, covered, other_holder}
use Rattle.rules.proofs.Below.{by_test, below_suc, Searched, searched_here, searched_all}
use Rattle.rules.proofs.Below.{lowest_le, lowest_is, lowest_none}
use Rattle.rules.proofs.Kept.{Covering, covering}
use Rattle.monitor.specs.Leaves.{CellsRise, found_in, other_in}

-- ---- the covering cell

-- in what has been looked at, the cells before i, just the n lowest end below x
pub record Ended (last : List ℕ) (x i n : ℕ) : Type 0 where
  pub within : n ≤ i
  pub below : (k : ℕ) → k < n → get_or last k 0 < x
  pub others : (k : ℕ) → n ≤ k → k < i → x ≤ get_or last k 0

pub ended_none : (last : List ℕ) (x : ℕ) → Ended last x 0 0
ended_none last x =
    record {
      within = omega arith;
      below = λ k l. absurd (omega arith);
      others = λ k l m. absurd (omega arith);
    }

module _ (first last : List ℕ) (rise : CellsRise first last) where
  -- a later cell lies above an earlier one
  later_above : (k c : ℕ) → k < c → c < length first → get_or last k 0 < get_or first c 0
  later_above k zero h l = absurd (omega arith)
  later_above k (suc c) h l =
      below_suc k c h
      (λ b. let v : get_or last k 0 < get_or first c 0 = later_above k c b (omega arith) in
      omega (arith, rise.rising c (omega arith), rise.apart c l))
      (λ e. rw e (rise.apart c l))

  -- so its addresses are at least its number
  number_le : (c : ℕ) → c < length first → c ≤ get_or last c 0
  number_le zero l = omega arith
  number_le (suc c) l =
      let v : c ≤ get_or last c 0 = number_le c (omega arith) in
      omega (arith, rise.apart c l, rise.rising (suc c) l)

  module _ (x i n : ℕ) (e : Ended last x i n) (h : i < length first) where
    -- where a cell ends below x, all before it do
    all_ended : get_or last i 0 < x → n ≡ i
    all_ended b =
        by_test (ltb n i)
        (λ q. let l : n < i = ltb-true n i q in
        omega (arith, e.others n (omega arith) l, later_above n i l h, rise.rising i h))
        (λ q. omega (arith, e.within, ltb-false n i q))

    pub ended_more : get_or last i 0 < x → Ended last x (i + 1) (n + 1)
    ended_more b =
        let a : n ≡ i = all_ended b in
        record {
          within = omega arith;
          below = λ k l. by_test (ltb k n)
              (λ q. e.below k (ltb-true k n q))
              (λ q. let s : k ≡ i = omega (arith, ltb-false k n q) in rw s b);
          others = λ k l m. absurd (omega arith);
        }

    pub ended_same : x ≤ get_or last i 0 → Ended last x (i + 1) n
    ended_same b =
        record {
          within = omega (arith, e.within);
          below = e.below;
          others = λ k l m. by_test (ltb k i)
              (λ q. e.others k l (ltb-true k i q))
              (λ q. let s : k ≡ i = omega (arith, ltb-false k i q) in rw s b);
        }

  -- those that end below x are counted
  pub ended_counted : (x i : ℕ) → i ≤ length first → Ended last x i (count_by (λ e. ltb e x) (take i last))
  ended_counted x zero h = ended_none last x
  ended_counted x (suc i) h =
      let before = ended_counted x i (omega arith) in
      by_test (ltb (get_or last i 0) x)
      (λ q. rw (← add-one i, count_by_more_yes (λ e. ltb e x) last i 0 (omega (arith, rise.lasts)) q)
      (ended_more x i _ before (omega arith) (ltb-true _ _ q)))
      (λ q. rw (← add-one i, count_by_more_no (λ e. ltb e x) last i 0 (omega (arith, rise.lasts)) q)
      (ended_same x i _ before (omega arith) (ltb-false _ _ q)))

  pub ended_all : (x : ℕ) → Ended last x (length first) (count_by (λ e. ltb e x) last)
  ended_all x =
      subst (λ (l : List ℕ). Ended last x (length first) (count_by (λ e. ltb e x) l)) (take_all (length first) last (omega (arith, rise.lasts)))
      (ended_counted x (length first) (omega arith))

  -- no more end below x than there are addresses below it
  pub ended_few : (x : ℕ) → count_by (λ e. ltb e x) last ≤ x
  ended_few x = go (count_by (λ e. ltb e x) last) (ended_all x)
    where
      go : (n : ℕ) → Ended last x (length first) n → n ≤ x
      go zero e = omega arith
      go (suc n) e = omega (arith, e.within, e.below n (omega arith), number_le n (omega (arith, e.within)))

  -- once all have been looked at, only the cell after them can cover x
  module _ (x c : ℕ) (e : Ended last x (length first) c) where
    not_below : (k : ℕ) → k < c → covers first last x k ≡ false
    unfolding covers
    not_below k l = rw (lt-leb _ _ (e.below k l), and-false)

    covers_x : c < length first → get_or first c 0 ≤ x → covers first last x c ≡ true
    unfolding covers
    covers_x h l = rw (le-leb _ _ l, le-leb _ _ (e.others c (omega arith) h))

    not_above : (c < length first → x < get_or first c 0) → (k : ℕ) → c ≤ k → k < length first
        → covers first last x k ≡ false
    unfolding covers
    not_above f k l h = rw (lt-leb _ _ above)
      where
        above : x < get_or first k 0
        above =
            by_test (ltb c k)
            (λ q. omega (arith, f (omega arith), rise.rising c (omega arith), later_above c k (ltb-true c k q) h))
            (λ q. let s : k ≡ c = omega (arith, ltb-false c k q) in rw s (f (omega arith)))

    pub found_here : c < length first → get_or first c 0 ≤ x → Some c ≡ found_in first last x
    unfolding found_in covering_cell
    found_here h l =
        let q : lowest (covers first last x) (length first) ≡ c = lowest_is _ _ c h (covers_x h l) not_below in
        rw (q, lt-ltb c (length first) h)

    pub found_nowhere : (c < length first → x < get_or first c 0) → None ≡ found_in first last x
    unfolding found_in covering_cell
    found_nowhere f =
        let q : lowest (covers first last x) (length first) ≡ length first
        = lowest_none _ _
        (λ k h. by_test (ltb k c) (λ b. not_below k (ltb-true k c b)) (λ b. not_above f k (ltb-false k c b) h)) in
        rw (q, le-ltb (length first) (length first) (omega arith))

-- what the answer says

-- c is the covering cell
pub record FoundAt (t : Tables) (x c : ℕ) : Type 0 where
  pub covers : covered t x ≡ true
  pub same : cell_at t x ≡ c
  pub cell : Covering t x c

-- r is what the search answered
module _ (t : Tables) (x : ℕ) (r : Option ℕ) (e : r ≡ found_in t.first t.last x) where
  pub found_at : (c : ℕ) → r ≡ Some c → FoundAt t x c
  unfolding found_in covered
  found_at c f =
      by_test (covered t x)
      (λ p. let g : r ≡ Some (cell_at t x) = rw p at e in
      let q : cell_at t x ≡ c = cc in
      record { covers = p; same = q; cell = rw q at (covering t x p) })
      (λ p. let g : r ≡ None = rw p at e in
      let z : ◌≡◌ {A = ℕ} 0 1 = cc in
      absurd (omega arith))

  pub nowhere_uncovered : r ≡ None → covered t x ≡ false
  unfolding found_in covered
  nowhere_uncovered f =
      by_test (covered t x)
      (λ p. let g : r ≡ Some (cell_at t x) = rw p at e in
      let z : ◌≡◌ {A = ℕ} 0 1 = cc in
      absurd (omega arith))
      (λ p. p)

-- ---- the lowest other holder

-- k is not d, and holds a right on c
abbrev pub other_holds : (m : ℕ) (rights : List ℕ) (c d k : ℕ) → Bool
other_holds m rights c d k = not (eqb k d) && ltb 0 (get_or rights (c * m + k) 0)

module _ (m : ℕ) (rights : List ℕ) (c d k : ℕ) (s : Searched (other_holds m rights c d) m k) where
  pub other_here : k < m → other_holds m rights c d k ≡ true → Some k ≡ other_in m rights c d
  unfolding other_in other_holder
  other_here h e =
      let q : k ≡ lowest (other_holds m rights c d) m = searched_here _ _ _ s h e in
      rw (← q, lt-ltb k m h)

  pub other_nobody : m ≤ k → None ≡ other_in m rights c d
  unfolding other_in other_holder
  other_nobody h =
      let q : k ≡ lowest (other_holds m rights c d) m = searched_all _ _ _ s h in
      rw (← q, le-ltb k m h)

-- ---- a search that found nothing is refused

pub lost : (f r : Refusal) (o : Option ℕ) → Err f ≡ ok_or o r → f ≡ r
lost f r (Some k) e = let z : ◌≡◌ {A = ℕ} 0 1 = cc e in absurd (omega arith)
lost f r None e = cc e

-- ---- in a test's words

-- it is told whether there is another holder
pub nobody_else_is : (m : ℕ) (rights : List ℕ) (c d : ℕ) (r : Bool) → is_some (other_in m rights c d) ≡ not r
    → r ≡ eqb (other_holder m rights c d) m
unfolding other_in other_holder
nobody_else_is m rights c d r e = go (ltb (lowest (other_holds m rights c d) m) m) refl r e
  where
    l : lowest (other_holds m rights c d) m ≤ m
    l = lowest_le _ m

    go : (b : Bool) → ltb (lowest (other_holds m rights c d) m) m ≡ b → (r : Bool)
        → is_some (cond b (Some (lowest (other_holds m rights c d) m)) None) ≡ not r
        → r ≡ eqb (lowest (other_holds m rights c d) m) m
    go true t true f = absurd (true≢false f)
    go true t false f = sym (ne_eqb _ m (λ q. omega (arith, ltb-true _ m t)))
    go false t true f = sym (eq-eqb _ m (omega (arith, l, ltb-false _ m t)))
    go false t false f = absurd (true≢false (sym f))
