-- Laws of a whole listing: its stages one after the other, and what is written of them. Assumes nothing.
use Prim.Native.Nat.{ℕ, zero, suc, ◌+◌, ◌*◌, ◌≤◌, ◌<◌}
use mathlib.Core.Path.{◌≡◌, refl, sym, ap, subst, ◌∙◌}
use mathlib.Core.List.{List, [], ◌∷◌, ◌++◌}
use mathlib.Core.Bool.{true, false}
use native.Mathlib.Omega.{arith}
use lib.ListN.{length, get_or, take, replicate, length-set, length-replicate}
use lib.Seq.{get_or-set_same, get_or-set_other, length-take-le}
use Rattle.std.proofs.lemmas.List.{get_or-take}
use lib.Dec.{eqb}
use borrow.Author.Tests.{eqb-true, eqb-false, eq-eqb, ne_eqb, le-leb, lt-leb}
use Rattle.text.specs.Text.{Put}
use Rattle.text.specs.Line.{Row}
use Rattle.text.proofs.Cases.{by_test}
use Rattle.text.proofs.Writing.{put_then}
use Rattle.rules.specs.Numbers.{Tables, State, state, tables}
use Rattle.rules.specs.Refusals.{Outcome}
use Rattle.rules.proofs.Kept.{SameShape}
use Rattle.monitor.proofs.Running.{first_shape}
use Rattle.monitor.specs.Runs.{room_for, room_in, after_first, answer_at, answers_in, Ran, ran, run_all}
use Rattle.listing.specs.Words.{bad_word, cells_word}
use Rattle.listing.specs.Lines.{field, head_row, size_row, right_at, grant_at, byte_at, core_row, registers_in}
use Rattle.listing.specs.Listing.{run, zeros, Cells, entries_at, Dos, dos_at, cells_at, from_dos, from_core, from_rights, from_size, from_head, listing_in}
use Rattle.listing.specs.Output.{line1, lines_of, answer_line, lines_after, body_of, output_of}
use Rattle.listing.specs.Reading.{FilledAs, answer_of, output_room, written_in}
use Rattle.listing.specs.declared.lines.Passed.{Passed}

-- ---- parts of lists of zeros

pub zeros_part : (k n : ℕ) → k ≤ n → take k (replicate n 0) ≡ zeros k
zeros_part zero n h = refl
zeros_part (suc k) zero h = absurd (omega arith)
zeros_part (suc k) (suc n) h = ap (λ (l : List ℕ). 0 ∷ l) (zeros_part k n (omega arith))

pub part_long : (k n : ℕ) → k ≤ n → k ≡ length {A = ℕ} (take k (replicate n 0))
part_long k n h = sym (ap (length {A = ℕ}) (zeros_part k n h) ∙ length-replicate k 0)

-- ---- the answers in the two lists

module _ (s : State) (l out : List ℕ) where
  answers_long : (part : Outcome → ℕ) (k : ℕ) → length (answers_in part s l k out) ≡ length out
  unfolding answers_in
  answers_long part zero = refl
  answers_long part (suc k) = length-set (answers_in part s l k out) k (part (answer_at s l k).outcome) ∙ answers_long part k

  answers_at : (part : Outcome → ℕ) (k i : ℕ) → i < k → k ≤ length out → get_or (answers_in part s l k out) i 0 ≡ part (answer_at s l i).outcome
  unfolding answers_in
  answers_at part zero i h f = absurd (omega arith)
  answers_at part (suc k) i h f =
      by_test (eqb i k)
      (λ e. let q : i ≡ k = eqb-true i k e in
      rw q (get_or-set_same (answers_in part s l k out) k (part (answer_at s l k).outcome) 0 (omega (arith, answers_long part k))))
      (λ e. let q : i ≡ k → ⊥ = eqb-false i k e in
      get_or-set_other (answers_in part s l k out) k i (part (answer_at s l k).outcome) 0 q ∙ answers_at part k i (omega arith) (omega arith))

-- the same lines, where each is the same
lines_same : (f g : ℕ → List ℕ) (i k : ℕ) → ((j : ℕ) → i ≤ j → j < i + k → f j ≡ g j) → lines_of f i k ≡ lines_of g i k
unfolding lines_of
lines_same f g i zero h = refl
lines_same f g i (suc k) h =
    rw (h i (omega arith) (omega arith), lines_same f g (i + 1) k (λ j a b. h j (omega arith) (omega arith)))

-- a list at its largest
pub filled_long : {l : List ℕ} (n : ℕ) → l ≡ zeros n → length l ≡ n
filled_long n e = ap (length {A = ℕ}) e ∙ length-replicate n 0

-- ---- the shape of the tables through a run

pub ran_shape : (s u : State) (l ns₀ vs₀ : List ℕ) {ns vs : List ℕ} → ran u ns vs ≡ run_all s l ns₀ vs₀ → SameShape s.lent u.lent
ran_shape s u l ns₀ vs₀ e =
    subst (λ (w : State). SameShape s.lent w.lent) (sym (ap (λ (r : Ran). r.after) e)) (first_shape s l (room_in l ns₀ vs₀))

-- ---- the run: all instructions have room for their answers, which are written, and then the state u

room_all : (i k : ℕ) → i ≡ 4 * k → k ≤ 5957 → room_for i 5957 5957 ≡ k
unfolding room_for
room_all i k e h = omega arith

module _ (s : State) (l : List ℕ) (k : ℕ) (long : length l ≡ 4 * k) (few : k ≤ 5957) (ns vs ns₀ vs₀ : List ℕ) (u : State)
    (a : length ns₀ ≡ 5957) (b : length vs₀ ≡ 5957) where
  abbrev room : ℕ
  room = room_in l ns₀ vs₀

  room_is : room ≡ k
  room_is = rw (a, b) (room_all (length l) k long few)

  module _ (e : ran u ns vs ≡ run_all s l ns₀ vs₀) where
    answers_same : lines_of (answer_of (take k ns) (take k vs)) 0 (length (take k ns)) ≡ lines_of (answer_line s l) 0 k
    unfolding answer_of answer_line
    answers_same =
        let long : length ns ≡ 5957 = ap (λ (r : Ran). length r.numbers) e ∙ answers_long s l ns₀ (λ o. o.number) room ∙ a in
        rw (length-take-le k ns (omega arith))
        (lines_same (answer_of (take k ns) (take k vs)) (answer_line s l) 0 k
        (λ j _ h.
        rw (get_or-take k ns j 0 (omega arith), get_or-take k vs j 0 (omega arith), ap (λ (r : Ran). r.numbers) e, ap (λ (r : Ran). r.values) e, room_is, answers_at s l ns₀ (λ o. o.number) k j (omega arith) (omega (arith, a)), answers_at s l vs₀ (λ o. o.value) k j (omega arith) (omega (arith, b)))))

    pub run_body : {o o₁ o₂ : List ℕ} {at m r : ℕ} → Put o at (lines_of (answer_of (take k ns) (take k vs)) 0 (length (take k ns))) m o₁ → Put o₁ m (lines_after u) r o₂
        → Put o at (body_of (run s k l)) r o₂
    unfolding body_of
    run_body p q =
        let same : u ≡ after_first s l k = rw (← room_is) (ap (λ (r : Ran). r.after) e) in
        rw (← same, ← answers_same) (put_then p q)

-- ---- the stages

module _ (s : List ℕ) (line : ℕ) (t : Tables) (r : Row) where
  pub core_wrong : r.ok ≡ false → line1 bad_word (line + 1) ≡ body_of (from_core s line t r)
  unfolding from_core body_of
  core_wrong e = rw e

  pub dos_wrong : r.ok ≡ true → (d : Dos) → dos_at s r.next ≡ d → (d.next ≡ length s → ⊥)
      → line1 bad_word (line + 1 + d.count + 1) ≡ body_of (from_core s line t r)
  unfolding from_core from_dos body_of
  dos_wrong e d q h = rw (e, q, ne_eqb d.next (length s) h)

  pub dos_right : r.ok ≡ true → (d : Dos) → dos_at s r.next ≡ d → d.next ≡ length s
      → run (state t (registers_in r)) d.count d.numbers ≡ from_core s line t r
  unfolding from_core from_dos
  dos_right e d q h = rw (e, q, eq-eqb d.next (length s) h)

module _ (s : List ℕ) (m l : ℕ) (C : Cells) where
  abbrev n : ℕ
  n = length C.first

  pub rights_read : (R G A : Passed) (r₀ r g₀ g b₀ b : List ℕ) → r₀ ≡ zeros (n * m) → g₀ ≡ zeros (n * m) → b₀ ≡ zeros l
      → FilledAs (entries_at (right_at n m s) (length s) C.next r₀) R r
      → FilledAs (entries_at (grant_at n m s) (length s) R.next g₀) G g
      → FilledAs (entries_at (byte_at l s) (length s) G.next b₀) A b
      → from_core s (2 + n + R.count + G.count + A.count) (tables m C.first C.last C.offset C.marks r g b) (core_row s A.next)
      ≡ from_rights s m l C
  unfolding from_rights
  rights_read R G A r₀ r g₀ g b₀ b e f h p₀ q₀ w₀ =
      let p = rw e at p₀ in
      let q = rw f at q₀ in
      let w = rw h at w₀ in
      rw (← p.counted, ← p.ended, ← p.filled, ← q.counted, ← q.ended, ← q.filled, ← w.counted, ← w.ended, ← w.filled)

-- ---- the whole text

pub nothing_written : (out s : List ℕ) → length out < output_room → [] ≡ written_in out s
unfolding written_in
nothing_written out s h = rw (lt-leb output_room (length out) h)

module _ (out s : List ℕ) (room : output_room ≤ length out) where
  pub written : line1 cells_word 1 ++ body_of (listing_in s) ≡ written_in out s
  unfolding written_in output_of
  written = rw (le-leb output_room (length out) room)

  abbrev Follows : (t : List ℕ) → Type 0
  Follows t = line1 cells_word 1 ++ t ≡ written_in out s

  pub text_long : 65536 < length s → Follows (line1 bad_word 0)
  unfolding listing_in body_of
  text_long h = rw (lt-leb (length s) 65536 h) at written

  module _ (short : length s ≤ 65536) (r : Row) (e : r ≡ head_row s 0) where
    pub head_wrong : r.ok ≡ false → Follows (line1 bad_word 1)
    unfolding listing_in from_head body_of
    head_wrong h = rw (le-leb (length s) 65536 short, ← e, h) at written

    module _ (right : r.ok ≡ true) (z : Row) (f : z ≡ size_row s r.next) where
      pub size_wrong : z.ok ≡ false → Follows (line1 bad_word 2)
      unfolding listing_in from_head from_size body_of
      size_wrong h = rw (le-leb (length s) 65536 short, ← e, right, ← f, h) at written

      pub size_right : z.ok ≡ true → Follows (body_of (from_rights s (field z 0) (field z 1) (cells_at s z.next)))
      unfolding listing_in from_head from_size
      size_right h = rw (le-leb (length s) 65536 short, ← e, right, ← f, h) at written
