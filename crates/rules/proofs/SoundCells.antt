-- Laws of soundness: what it says of a cell, and that each put with the right number keeps it. Assumes nothing.
use Prim.Native.Nat.{ℕ, ◌+◌, ◌*◌, ◌/◌, ◌%◌, ◌≤◌, ◌<◌}
use mathlib.Core.Path.{◌≡◌, refl, sym, ap, subst}
use mathlib.Core.List.{List}
use mathlib.Core.Bool.{Bool, true, false, not, ◌&&◌, ◌||◌}
use native.Mathlib.Omega.{arith}
use lib.ListN.{length}
use lib.Seq.{get_or-set_other}
use lib.Dec.{leb, ltb, eqb}
use borrow.Author.Tests.{leb-true, ltb-true, eqb-true, le-leb, lt-ltb, eq-eqb, ne_eqb, not-false}
use Rattle.rules.specs.Below.{every, count}
use Rattle.rules.specs.Numbers.{Tables, N, L, first_of, last_of, offset_of, mark_of, entry, held, grant_of, grant_entry}
use Rattle.rules.specs.Sound.{sound_grant, holders, after_cell_before, sound_cell, sound_tables, lowest_unsound}
use Rattle.rules.specs.Instructions.{with_memory, put_mark, put_rights, put_grant, other_holder, nobody_else}
use Rattle.rules.proofs.Below.{and_left, and_right, clash, every_at, every_all, count_same, count_one, lowest_all, lowest_none}
use Rattle.rules.proofs.Sizes.{same_cell, same_division, after_put}

-- ---- what soundness says of a cell

pub record SoundCell (t : Tables) (c : ℕ) : Type 0 where
  pub rising : first_of t c ≤ last_of t c
  pub inside : offset_of t c + last_of t c < L t + first_of t c
  pub marked : mark_of t c ≤ 1
  pub rights : (d : ℕ) → d < t.M → held t c d ≤ 7
  pub grants : (d : ℕ) → d < t.M → sound_grant t.M d (grant_of t c d) ≡ true
  pub lone : mark_of t c ≡ 0 → holders t c ≤ 1
  pub after : after_cell_before t.first t.last t.offset c ≡ true

or_not : (a b : Bool) → (not a || b) ≡ true → a ≡ true → b ≡ true
or_not true b e f = e
or_not false b e f = absurd (clash false f refl)

or_made : (a b : Bool) → (a ≡ true → b ≡ true) → (not a || b) ≡ true
or_made true b f = f refl
or_made false b f = refl

pub sound_means : (t : Tables) (c : ℕ) → sound_cell t c ≡ true → SoundCell t c
unfolding sound_cell
sound_means t c e =
    let a = leb (first_of t c) (last_of t c) in
    let b = ltb (offset_of t c + last_of t c) (L t + first_of t c) in
    let k = leb (mark_of t c) 1 in
    let r = every (λ d. leb (held t c d) 7) t.M in
    let g = every (λ d. sound_grant t.M d (grant_of t c d)) t.M in
    let h = not (eqb (mark_of t c) 0) || leb (holders t c) 1 in
    let e6 = and_left (a && b && k && r && g && h) _ e in
    let e5 = and_left (a && b && k && r && g) _ e6 in
    let e4 = and_left (a && b && k && r) _ e5 in
    let e3 = and_left (a && b && k) _ e4 in
    let e2 = and_left (a && b) _ e3 in
    let few = and_right (a && b && k && r && g) h e6 in
    record {
      rising = leb-true _ _ (and_left a b e2);
      inside = ltb-true _ _ (and_right a b e2);
      marked = leb-true _ _ (and_right (a && b) k e3);
      rights = λ d l. leb-true _ _ (every_at (λ d. leb (held t c d) 7) t.M d (and_right (a && b && k) r e4) l);
      grants = λ d l. every_at (λ d. sound_grant t.M d (grant_of t c d)) t.M d (and_right (a && b && k && r) g e5) l;
      lone = λ z. leb-true _ _ (or_not (eqb (mark_of t c) 0) (leb (holders t c) 1) few (eq-eqb _ _ z));
      after = and_right (a && b && k && r && g && h) _ e;
    }

pub sound_made : (t : Tables) (c : ℕ) → SoundCell t c → sound_cell t c ≡ true
unfolding sound_cell
sound_made t c s =
    let r : every (λ d. leb (held t c d) 7) t.M ≡ true
    = every_all (λ d. leb (held t c d) 7) t.M (λ d l. le-leb _ _ (s.rights d l)) in
    let g : every (λ d. sound_grant t.M d (grant_of t c d)) t.M ≡ true
    = every_all (λ d. sound_grant t.M d (grant_of t c d)) t.M s.grants in
    let h : (not (eqb (mark_of t c) 0) || leb (holders t c) 1) ≡ true
    = or_made (eqb (mark_of t c) 0) _ (λ z. le-leb _ _ (s.lone (eqb-true _ _ z))) in
    rw (le-leb _ _ s.rising, lt-ltb _ _ s.inside, le-leb _ _ s.marked, r, g, h) s.after

-- ---- every cell, and the lowest that is not sound

abbrev pub AllSound : Tables → Type 0
AllSound t = (c : ℕ) → c < N t → SoundCell t c

pub all_sound : (t : Tables) → sound_tables t ≡ true → AllSound t
unfolding sound_tables
all_sound t e c h = sound_means t c (every_at (sound_cell t) (N t) c e h)

pub sound_all : (t : Tables) → AllSound t → sound_tables t ≡ true
unfolding sound_tables
sound_all t f = every_all (sound_cell t) (N t) (λ c h. sound_made t c (f c h))

pub lowest_sound : (t : Tables) → lowest_unsound t ≡ N t → sound_tables t ≡ true
unfolding lowest_unsound sound_tables
lowest_sound t e =
    every_all (sound_cell t) (N t)
    (λ c h. not-false (sound_cell t c) (lowest_all (λ c. not (sound_cell t c)) (N t) e c h))

pub sound_lowest : (t : Tables) → sound_tables t ≡ true → lowest_unsound t ≡ N t
unfolding lowest_unsound sound_tables
sound_lowest t e =
    lowest_none (λ c. not (sound_cell t c)) (N t)
    (λ c h. ap not (every_at (sound_cell t) (N t) c e h))

-- ---- a put keeps every cell sound

module _ (t : Tables) (s : AllSound t) (c d : ℕ) (h : d < t.M) where
  -- rights of at most 7, on a cell whose mark is not 0
  pub rights_put : (p : ℕ) → p ≤ 7 → (mark_of t c ≡ 0 → ⊥) → AllSound (put_rights t c d p)
  unfolding holders
  rights_put p l v k b =
      let old = s k b in
      record {
        rising = old.rising;
        inside = old.inside;
        marked = old.marked;
        rights = λ e q. after_put (λ v. v ≤ 7) t.rights (entry t c d) (entry t k e) p (λ _. l) (old.rights e q);
        grants = old.grants;
        lone = λ z. subst (λ n. n ≤ 1) (sym (same z)) (old.lone z);
        after = old.after;
      }
    where
      same : mark_of t k ≡ 0 → count (λ e. ltb 0 (held (put_rights t c d p) k e)) t.M ≡ count (λ e. ltb 0 (held t k e)) t.M
      same z =
          count_same (λ e. ltb 0 (held (put_rights t c d p) k e)) (λ e. ltb 0 (held t k e)) t.M
          (λ e q. ap (λ r. ltb 0 r) (get_or-set_other t.rights (entry t c d) (entry t k e) p 0
          (λ w. v (subst (λ i. mark_of t i ≡ 0) (same_cell t.M k e c d q h w) z))))

  -- a sound entry
  pub grant_put : (g : ℕ) → sound_grant t.M d g ≡ true → AllSound (put_grant t c d g)
  unfolding holders
  grant_put g l k b =
      let old = s k b in
      record {
        rising = old.rising;
        inside = old.inside;
        marked = old.marked;
        rights = old.rights;
        grants = λ e q.
            after_put (λ v. sound_grant t.M e v ≡ true) t.grants (entry t c d) (entry t k e) g
            (λ w. subst (λ i. sound_grant t.M i g ≡ true) (sym (same_division t.M k e c d q h w)) l)
            (old.grants e q);
        lone = old.lone;
        after = old.after;
      }

-- a mark of 1, or of 0 where at most one division holds a right
pub mark_put : (t : Tables) → AllSound t → (c v : ℕ) → v ≤ 1 → (v ≡ 0 → holders t c ≤ 1) → AllSound (put_mark t c v)
unfolding holders
mark_put t s c v l f k b =
    let old = s k b in
    record {
      rising = old.rising;
      inside = old.inside;
      marked = after_put (λ n. n ≤ 1) t.marks c k v (λ _. l) old.marked;
      rights = old.rights;
      grants = old.grants;
      lone = after_put (λ n. n ≡ 0 → holders t k ≤ 1) t.marks c k v (λ w z. subst (λ i. holders t i ≤ 1) (sym w) (f z)) old.lone;
      after = old.after;
    }

-- a memory of the same length
pub memory_put : (t : Tables) → AllSound t → (b : List ℕ) → length b ≡ L t → AllSound (with_memory t b)
unfolding holders
memory_put t s b e k h =
    let old = s k h in
    record {
      rising = old.rising;
      inside = rw e old.inside;
      marked = old.marked;
      rights = old.rights;
      grants = old.grants;
      lone = old.lone;
      after = old.after;
    }

-- ---- what is put is sound

-- no grant
pub none_sound : (m d : ℕ) → sound_grant m d 0 ≡ true
unfolding sound_grant
none_sound m d = refl

pub offer_sound : (m d y z : ℕ) → m ≤ 32 → y < m → (y ≡ d → ⊥) → 1 ≤ z → z ≤ 7 → sound_grant m d (grant_entry y z) ≡ true
unfolding sound_grant
offer_sound m d y z w h n l k =
    let target : (y + 256 * z) % 256 ≡ y = omega arith in
    let rights : (y + 256 * z) / 256 ≡ z = omega arith in
    let some : (y + 256 * z ≡ 0) → ⊥ = λ e. omega arith in
    rw (ne_eqb _ _ some, target, rights, le-leb 1 z l, le-leb z 7 k, lt-ltb y m h, ne_eqb y d n)

-- nobody else holds a right: at most one division does
pub nobody_lone : (t : Tables) (c d : ℕ) → nobody_else t c d ≡ true → holders t c ≤ 1
unfolding nobody_else other_holder holders
nobody_lone t c d e =
    count_one (λ k. ltb 0 (held t c k)) t.M d
    (λ k l n. second (not (eqb k d)) (ltb 0 (held t c k)) (ap not (ne_eqb k d n))
    (lowest_all (λ k. not (eqb k d) && ltb 0 (held t c k)) t.M (eqb-true _ _ e) k l))
  where
    second : (a b : Bool) → a ≡ true → a && b ≡ false → b ≡ false
    second true b p q = q
    second false b p q = absurd (clash false p refl)
