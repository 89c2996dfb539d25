-- A refusal is known by its number and its value. Assumes nothing.
use Prim.Native.Nat.{ℕ}
use mathlib.Core.Path.{◌≡◌, refl, sym, ap, subst, ◌∙◌}
use mathlib.Core.Logic.{⊎_elim}
use mathlib.Core.List.{[], ◌∷◌}
use native.Mathlib.Omega.{arith}
use lib.ListN.{get_or}
use Rattle.std.specs.Prelude.{Result, Ok, Err}
use Rattle.rules.specs.Refusals.{number_of, value_with, answer_of}
use Rattle.rules.specs.Instructions.{Kind, Refused, ill_formed, formed, kept, decoded}
use Rattle.rules.proofs.Decoding.{Sensible, formed_sensible, refused_formed}
use Rattle.rules.specs.declared.Placed.{Placed}
use Rattle.rules.specs.declared.Refusal.{Refusal}
use Rattle.rules.specs.declared.Refusal.TheVariants.{OutOfBounds, Unsound, NoSuchDivision, NoSuchInstruction, BadOperand, NotCovered, NotValid, NotWhole, RightMissing, NoGrant, OtherHolds, NotEntry, SameRights}

-- the refusals in the order of their numbers, of which the second has the value v
abbrev numbered : (n v : ℕ) → Refusal
numbered n v =
    get_or
    (OutOfBounds
    ∷ OutOfBounds
    ∷ Unsound v
    ∷ NoSuchDivision
    ∷ NoSuchInstruction
    ∷ BadOperand
    ∷ NotCovered
    ∷ NotValid
    ∷ NotWhole
    ∷ RightMissing
    ∷ NoGrant
    ∷ OtherHolds
    ∷ NotEntry
    ∷ SameRights
    ∷ [])
    n
    OutOfBounds

numbered_back : (r : Refusal) → numbered (number_of r) (value_with r) ≡ r
numbered_back OutOfBounds = refl
numbered_back (Unsound c) = refl
numbered_back NoSuchDivision = refl
numbered_back NoSuchInstruction = refl
numbered_back BadOperand = refl
numbered_back NotCovered = refl
numbered_back NotValid = refl
numbered_back NotWhole = refl
numbered_back RightMissing = refl
numbered_back NoGrant = refl
numbered_back OtherHolds = refl
numbered_back NotEntry = refl
numbered_back SameRights = refl

pub one_refusal : (r q : Refusal) → number_of r ≡ number_of q → value_with r ≡ value_with q → r ≡ q
one_refusal r q n v = sym (numbered_back r) ∙ rw (n, v) (numbered_back q)

-- what lets pass has number 0, and every refusal another
pub some_number : (r : Refusal) → number_of r ≡ 0 → ⊥
some_number OutOfBounds e = omega (arith, e)
some_number (Unsound c) e = omega (arith, e)
some_number NoSuchDivision e = omega (arith, e)
some_number NoSuchInstruction e = omega (arith, e)
some_number BadOperand e = omega (arith, e)
some_number NotCovered e = omega (arith, e)
some_number NotValid e = omega (arith, e)
some_number NotWhole e = omega (arith, e)
some_number RightMissing e = omega (arith, e)
some_number NoGrant e = omega (arith, e)
some_number OtherHolds e = omega (arith, e)
some_number NotEntry e = omega (arith, e)
some_number SameRights e = omega (arith, e)

-- only the second has a value
pub no_value : (r : Refusal) → (number_of r ≡ 2 → ⊥) → value_with r ≡ 0
no_value OutOfBounds h = refl
no_value (Unsound c) h = absurd (h refl)
no_value NoSuchDivision h = refl
no_value NoSuchInstruction h = refl
no_value BadOperand h = refl
no_value NotCovered h = refl
no_value NotValid h = refl
no_value NotWhole h = refl
no_value RightMissing h = refl
no_value NoGrant h = refl
no_value OtherHolds h = refl
no_value NotEntry h = refl
no_value SameRights h = refl

-- ---- what `decode` hands back is one value

formed_small : (m d number x y z n : ℕ) → formed m d number x y z ≡ ill_formed n → n ≡ 2 → ⊥
formed_small m d number x y z n e t =
    ⊎_elim (λ k. omega (arith, k, t)) (λ k. omega (arith, k, t)) (subst (Sensible m d) e (formed_sensible m d number x y z))

pub one_kept : (m d at number x y z : ℕ) (r q : Result Placed Refusal)
    → kept r ≡ decoded m d at number x y z → kept q ≡ decoded m d at number x y z → r ≡ q
one_kept m d at number x y z (Ok p) (Ok s) e f =
    let k : Kind p ≡ Kind s = e ∙ sym f in
    let l : p ≡ s = cc k in
    ap Ok l
one_kept m d at number x y z (Ok p) (Err b) e f =
    let z : ◌≡◌ {A = ℕ} 0 1 = cc (e ∙ sym f) in absurd (omega arith)
one_kept m d at number x y z (Err a) (Ok s) e f =
    let z : ◌≡◌ {A = ℕ} 0 1 = cc (e ∙ sym f) in absurd (omega arith)
one_kept m d at number x y z (Err a) (Err b) e f =
    let v : (r : Refusal) → kept (Err r) ≡ decoded m d at number x y z → value_with r ≡ 0 =
    λ r g. no_value r (formed_small m d number x y z _ (refused_formed at _ _ (sym g))) in
    let n : Refused (number_of a) ≡ Refused (number_of b) = e ∙ sym f in
    let k : number_of a ≡ number_of b = cc n in
    ap Err (one_refusal a b k (v a e ∙ sym (v b f)))

-- ---- what checks answer is one value

pub one_answer : (r q : Result Unit Refusal) → answer_of r ≡ answer_of q → r ≡ q
one_answer (Ok a) (Ok b) e = refl
one_answer (Ok a) (Err r) e = absurd (some_number r (sym (ap (λ x. x.number) e)))
one_answer (Err r) (Ok b) e = absurd (some_number r (ap (λ x. x.number) e))
one_answer (Err r) (Err q) e = ap Err (one_refusal r q (ap (λ x. x.number) e) (ap (λ x. x.value) e))
