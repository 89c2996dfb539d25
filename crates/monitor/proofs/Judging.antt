-- Laws of what the judges answer and look up. Assumes nothing.
use Prim.Native.Nat.{ℕ, ◌+◌, ◌-◌, ◌≤◌}
use mathlib.Core.Path.{◌≡◌, refl, sym, ◌∙◌}
use mathlib.Core.List.{List, [], ◌∷◌, ◌++◌}
use mathlib.Core.Bool.{Bool, true, false, cond, not, ◌&&◌}
use native.Mathlib.Omega.{arith}
use lib.Dec.{leb, eqb}
use borrow.Author.Tests.{leb-true, leb-false, le-leb, lt-leb}
use Rattle.rules.specs.Numbers.{Tables, state, part_of, read, write, execute, first_of, last_of, offset_of, mark_of, held, grant_of}
use Rattle.rules.specs.Refusals.{not_valid, not_whole, right_missing, no_grant, other_holds, not_entry, same_rights, Check, ◌unless◌, first_failing}
use Rattle.rules.specs.Instructions.{valid, place, word_in, whole_word, entry_word, grant_names, other_holder, nobody_else, needs}
use Rattle.rules.specs.declared.Registers.{Registers}
use Rattle.rules.specs.declared.Instruction.{Instruction}
use Rattle.rules.specs.declared.Instruction.TheVariants.{Load, Store, Fetch, Switch, Protect, Grant, Receive, Transfer, Invalidate, Revalidate, Exclusive}
use Rattle.rules.proofs.Below.{by_test}
use Rattle.rules.proofs.Checks.{Numbered, accept_all}
use Rattle.rules.proofs.Performing.{first_part, second_part}
use Rattle.monitor.specs.Ready.{Ready}

-- ---- one more check k, after the checks l, of which n is the answer

module _ {n : ℕ} (l : List Check) (k : Check) (answer : n ≡ first_failing l) where
  -- one of l failed
  pub refused_before : (n ≡ 0 → ⊥) → n ≡ first_failing (l ++ k ∷ [])
  refused_before h = sym (first_part l (k ∷ []) n answer h)

  -- all of l hold, so k decides
  pub last_decides : {b : Bool} → Numbered l → n ≡ 0 → k.passes ≡ b → cond b 0 k.refusal ≡ first_failing (l ++ k ∷ [])
  unfolding first_failing
  last_decides u z e = rw (second_part l (k ∷ []) (accept_all l u (sym answer ∙ z)), e)

-- ---- whole words

-- a difference, which cannot wrap, for a sum, which could
pub leb_moved : (n x last : ℕ) → x ≤ last → leb n (last - x) ≡ leb (x + n) last
leb_moved n x last h =
    by_test (leb (x + n) last) (λ e. rw (e, le-leb n (last - x) (omega (arith, leb-true (x + n) last e))))
    (λ e. rw (e, lt-leb n (last - x) (omega (arith, leb-false (x + n) last e))))

-- an entry that is looked at only in a whole word is judged as any entry: what is not whole fails before
entry_once : (v w p e : Bool)
    → first_failing (not_valid unless v ∷ not_whole unless w ∷ right_missing unless p ∷ not_entry unless (w && e) ∷ [])
    ≡ first_failing (not_valid unless v ∷ not_whole unless w ∷ right_missing unless p ∷ not_entry unless e ∷ [])
unfolding first_failing
entry_once v true p e = refl
entry_once v false p e = refl

-- ---- what each kind is answered: where what was looked up is as said, it is the first of its needs to fail

module _ {t : Tables} {r : Registers} {i : Instruction} {c : ℕ} (p : Ready (state t r) i c) where
  abbrev Judged : ℕ → Type 0
  Judged n = n ≡ first_failing (needs t r.current c i)

  abbrev Valid : Bool
  Valid = eqb (mark_of t c) 1

  module _ {n h : ℕ} (holds : h ≡ held t c r.current) where
    pub load_judged : {x : ℕ} → i ≡ Load x → n ≡ first_failing (not_valid unless Valid ∷ right_missing unless part_of read h ∷ []) → Judged n
    unfolding needs valid
    load_judged e answer = rw (e, answer, holds)

    pub store_judged : {x y : ℕ} → i ≡ Store x y → n ≡ first_failing (not_valid unless Valid ∷ right_missing unless part_of write h ∷ []) → Judged n
    unfolding needs valid
    store_judged e answer = rw (e, answer, holds)

    pub fetch_judged : {x : ℕ} {w : Bool} → i ≡ Fetch x → w ≡ whole_word (last_of t c) x
        → n ≡ first_failing (not_valid unless Valid ∷ not_whole unless w ∷ right_missing unless part_of execute h ∷ []) → Judged n
    unfolding needs valid
    fetch_judged e whole answer = rw (e, answer, whole, holds)

    pub protect_judged : {x y : ℕ} → i ≡ Protect x y
        → n ≡ first_failing (not_valid unless Valid ∷ right_missing unless part_of y h ∷ same_rights unless not (eqb y h) ∷ []) → Judged n
    unfolding needs valid
    protect_judged e answer = rw (e, answer, holds)

    pub grant_judged : {x y z : ℕ} → i ≡ Grant x y z → n ≡ first_failing (not_valid unless Valid ∷ right_missing unless part_of z h ∷ []) → Judged n
    unfolding needs valid
    grant_judged e answer = rw (e, answer, holds)

    pub transfer_judged : {x y z : ℕ} → i ≡ Transfer x y z
        → n ≡ first_failing (not_valid unless Valid ∷ right_missing unless part_of z h ∷ []) → Judged n
    unfolding needs valid
    transfer_judged e answer = rw (e, answer, holds)

    pub invalidate_judged : {x : ℕ} {b : Bool} → i ≡ Invalidate x → b ≡ eqb (other_holder t.M t.rights c r.current) t.M
        → n ≡ first_failing (not_valid unless Valid ∷ right_missing unless not (eqb h 0) ∷ other_holds unless b ∷ []) → Judged n
    unfolding needs valid nobody_else
    invalidate_judged e alone answer = rw (e, answer, alone, holds)

    pub revalidate_judged : {x : ℕ} → i ≡ Revalidate x
        → n ≡ first_failing (not_valid unless not Valid ∷ right_missing unless not (eqb h 0) ∷ []) → Judged n
    unfolding needs valid
    revalidate_judged e answer = rw (e, answer, holds)

    pub exclusive_judged : {x : ℕ} → i ≡ Exclusive x
        → n ≡ first_failing (not_valid unless Valid ∷ right_missing unless not (eqb h 0) ∷ []) → Judged n
    unfolding needs valid
    exclusive_judged e answer = rw (e, answer, holds)

  -- these two ask for no right of the current division
  pub switch_judged : {n x y g : ℕ} {w b : Bool} → i ≡ Switch x y → g ≡ held t c y → w ≡ whole_word (last_of t c) x
      → b ≡ (w && eqb (word_in t.memory (offset_of t c + x - first_of t c)) entry_word)
      → n ≡ first_failing (not_valid unless Valid ∷ not_whole unless w ∷ right_missing unless part_of execute g ∷ not_entry unless b ∷ []) → Judged n
  unfolding needs valid place
  switch_judged e target whole entered answer = rw (e, answer, entered, whole, target) (entry_once _ _ _ _)

  pub receive_judged : {n x y g : ℕ} {b : Bool} → i ≡ Receive x y → g ≡ grant_of t c y → b ≡ grant_names g r.current
      → n ≡ first_failing (not_valid unless Valid ∷ no_grant unless b ∷ []) → Judged n
  unfolding needs valid
  receive_judged e given named answer = rw (e, answer, named, given)
