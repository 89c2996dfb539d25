-- Laws of instructions one after the other: a turn of the loop, and a list that is refused as a whole. Assumes nothing.
use Rattle.std.specs.Prelude.{◌++◌, replicate, take, drop}
use Rattle.std.proofs.Common.{length-take-le}
use Rattle.std.proofs.lemmas.List.Edits.{fill_none, fill_more}
use Prim.Native.Nat.{ℕ, zero, suc, ◌+◌, ◌-◌, ◌*◌, ◌≤◌}
use mathlib.Core.Path.{◌≡◌, refl, sym, ap, ◌∙◌, subst}
use mathlib.Core.List.{List, [], ◌∷◌}
use native.Mathlib.Omega.{arith}
use native.Mathlib.Numerals.{add-one}
use lib.ListN.{length, get_or, set, length-set}
use Rattle.rules.specs.Lent.{SameLists}
use Rattle.rules.specs.declared.TablesMut.{TablesMut as LentTablesMut}
use Rattle.rules.specs.Numbers.{Tables, State, state}
use Rattle.rules.specs.Refusals.{Answer, Outcome}
use Rattle.rules.specs.Instructions.{Formed, well_formed, ill_formed}
use Rattle.rules.specs.Calls.{instruction, formed_in, instruction_done, done_at, done, performed}
use Rattle.rules.specs.declared.Registers.{Registers}
use Rattle.rules.proofs.Kept.{Begun, SameShape, shape_same, shape_then}
use Rattle.rules.proofs.Laws.{by_outcome, begun_kept, shape_kept}
use Rattle.monitor.specs.Answers.{came}
use Rattle.monitor.specs.Ready.{first_answer}
use Rattle.monitor.specs.Runs.{instruction_at, room_for, Listed, listed, Ran, ran, run_first, run_all, after_first, answers_in}
use Rattle.monitor.specs.Leaves.{filled}
use Rattle.monitor.proofs.Beginning.{refused_by, first_refuse}

-- ---- room

pub room_whole : (i n v : ℕ) → 4 * room_for i n v ≤ i
unfolding room_for
room_whole i n v = omega arith

pub room_numbers : (i n v : ℕ) → room_for i n v ≤ n
unfolding room_for
room_numbers i n v = omega arith

pub room_values : (i n v : ℕ) → room_for i n v ≤ v
unfolding room_for
room_values i n v = omega arith

-- ---- the lists stay those that were lent

pub same_lists : {t : LentTablesMut} → SameLists t t
same_lists = record { divisions = refl; first = refl; last = refl; offset = refl; marks = refl; rights = refl; grants = refl }

pub same_then : {t u v : LentTablesMut} → SameLists t u → SameLists u v → SameLists t v
same_then a b =
    record {
      divisions = b.divisions ∙ a.divisions;
      first = b.first ∙ a.first;
      last = b.last ∙ a.last;
      offset = b.offset ∙ a.offset;
      marks = b.marks ∙ a.marks;
      rights = b.rights ∙ a.rights;
      grants = b.grants ∙ a.grants;
    }

-- ---- a turn

-- after k instructions from s the state is u, and the answers stand in the two lists
pub record Turn (s : State) (l numbers values : List ℕ) (k : ℕ) (u : State) (ns vs : List ℕ) : Type 0 where
  pub at : u ≡ after_first s l k
  pub begun : Begun u
  pub shape : SameShape s.lent u.lent
  pub numbered : ns ≡ answers_in (λ o. o.number) s l k numbers
  pub valued : vs ≡ answers_in (λ o. o.value) s l k values
  pub long : length ns ≡ length numbers
  pub wide : length vs ≡ length values

pub turn_first : (s : State) (l numbers values : List ℕ) → Begun s → Turn s l numbers values 0 s numbers values
unfolding after_first answers_in
turn_first s l numbers values b = record { at = refl; begun = b; shape = shape_same s.lent; numbered = refl; valued = refl; long = refl; wide = refl }

-- an answer stands beside the position that was told
pub position_told : {p j : ℕ} {o q : Outcome} → listed p o ≡ listed j q → p ≡ j
position_told e = ap (λ (a : Listed). a.position) e

-- the answer goes to the entry that its position names
pub turn_next : {s : State} {l numbers values : List ℕ} {k j p : ℕ} {u : State} {ns vs : List ℕ} (o : Outcome) → Turn s l numbers values k u ns vs
    → listed p o ≡ listed j (performed u (instruction_at l k)) → p - 1 ≡ k
    → Turn s l numbers values (k + 1) o.after (set ns (p - 1) o.number) (set vs (p - 1) o.value)
unfolding after_first answers_in
turn_next {s} {l} {numbers} {values} {k} {j} {p} {u} {ns} {vs} o t h at =
    let e : o ≡ performed u (instruction_at l k) = ap (λ (a : Listed). a.outcome) h in
    let q : o ≡ performed (after_first s l k) (instruction_at l k) = e ∙ ap (λ (w : State). performed w (instruction_at l k)) t.at in
    record {
      at = rw add-one (ap (λ (p : Outcome). p.after) q);
      begun = subst (λ (p : Outcome). Begun p.after) (sym e) (begun_kept u (instruction_at l k) t.begun);
      shape = shape_then t.shape (subst (λ (p : Outcome). SameShape u.lent p.after.lent) (sym e) (shape_kept u (instruction_at l k)));
      numbered = rw (at, add-one, ← q, t.numbered);
      valued = rw (at, add-one, ← q, t.valued);
      long = simp length-set t.long;
      wide = simp length-set t.wide;
    }

-- so many turns, however the count is said
pub turns_ran : {s : State} {l numbers values : List ℕ} {k n : ℕ} {u : State} {ns vs : List ℕ} → Turn s l numbers values k u ns vs → k ≡ n
    → ran u ns vs ≡ run_first s l n numbers values
turns_ran {s} {l} {numbers} {values} {u = u} {ns = ns} {vs = vs} t e =
    subst (λ (j : ℕ). ran u ns vs ≡ run_first s l j numbers values) e (λ i. ran (t.at i) (t.numbered i) (t.valued i))

-- the same list, however its count is said
pub ran_as : (s : State) (l numbers values : List ℕ) {k n : ℕ} {r : Ran} → k ≡ n
    → r ≡ run_first s l k numbers values → r ≡ run_first s l n numbers values
ran_as s l numbers values {r = r} e = subst (λ (j : ℕ). r ≡ run_first s l j numbers values) e

-- ---- the shape of the tables

-- M, first, last and offset stay, and every list keeps its length
pub first_shape : (s : State) (l : List ℕ) (k : ℕ) → SameShape s.lent (after_first s l k).lent
unfolding after_first
first_shape s l zero = shape_same s.lent
first_shape s l (suc k) = shape_then (first_shape s l k) (shape_kept (after_first s l k) (instruction_at l k))

-- ---- where check 1, 2 or 3 fails

module _ (s : State) (a : Answer) (e : a ≡ first_answer s) (h : a.number ≡ 0 → ⊥) (l : List ℕ) where
  refused_each : (k : ℕ) → performed s (instruction_at l k) ≡ refused_by s a
  refused_each k = sym (first_refuse s a e (instruction_at l k) h)

  refused_state : (k : ℕ) → s ≡ after_first s l k
  unfolding after_first
  refused_state zero = refl
  refused_state (suc k) =
      sym (ap (λ (p : Outcome). p.after) (refused_each k))
      ∙ ap (λ (u : State). (performed u (instruction_at l k)).after) (refused_state k)

  refused_answers : (part : Outcome → ℕ) (k : ℕ) (out : List ℕ) → filled (part (refused_by s a)) k out ≡ answers_in part s l k out
  unfolding filled answers_in
  refused_answers part zero out = refl
  refused_answers part (suc k) out = rw (← refused_state k, refused_each k, refused_answers part k out)

  pub refused_ran : (k : ℕ) (numbers values : List ℕ) {ns vs : List ℕ} → ns ≡ filled a.number k numbers → vs ≡ filled a.value k values
      → ran s ns vs ≡ run_first s l k numbers values
  refused_ran k numbers values ns vs =
      λ i. ran (refused_state k i) ((ns ∙ refused_answers (λ o. o.number) k numbers) i) ((vs ∙ refused_answers (λ o. o.value) k values) i)

-- ---- filling

filled_front : (v k : ℕ) (out : List ℕ) → k ≤ length out → replicate k v ++ drop k out ≡ filled v k out
unfolding filled
filled_front v zero out h = sym (fill_none out v)
filled_front v (suc k) out h =
    rw (← filled_front v k out (omega arith))
    (subst (λ n. replicate n v ++ drop n out ≡ set (replicate k v ++ drop k out) k v) (add-one k) (sym (fill_more k v out (omega arith))))

-- the part of a list up to k was filled
pub filled_part : (v k : ℕ) (out part : List ℕ) → k ≤ length out → part ≡ replicate (length (take k out)) v → part ++ drop k out ≡ filled v k out
filled_part v k out part h e = rw (e, length-take-le k out h) (filled_front v k out h)

-- ---- a list of one

-- an instruction hands back no part
formed_no_part : (s : State) (f : Formed) → (instruction_done s f).part ≡ []
unfolding done_at
formed_no_part s (well_formed i) = refl
formed_no_part s (ill_formed n) = refl

pub no_part : (s : State) (number x y z : ℕ) → (performed s (instruction number x y z)).part ≡ []
unfolding done
no_part s number x y z =
    by_outcome (λ o. o.part ≡ []) s (instruction number x y z) (λ n k. refl) (λ h. formed_no_part s (formed_in s number x y z))

-- a list of one instruction was run: what it leaves is what the instruction answers
pub ran_one : (s : State) (number x y z : ℕ) (t : Tables) (r : Registers) (ns vs : List ℕ)
    → ran (state t r) ns vs ≡ run_all s (number ∷ x ∷ y ∷ z ∷ []) (0 ∷ []) (0 ∷ [])
    → came (record { number = get_or ns 0 0; value = get_or vs 0 0; registers = r }) t ≡ performed s (instruction number x y z)
unfolding room_for after_first answers_in
ran_one s number x y z t r ns vs e =
    λ i. record { number = get_or (e i).numbers 0 0; value = get_or (e i).values 0 0; part = sym (no_part s number x y z) i; after = (e i).after }
