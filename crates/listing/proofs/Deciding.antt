-- The first lines of a text decide: another with the same lines, up to the one at which this text is wrong, is wrong there too.
-- Assumes nothing.
use Prim.Native.Nat.{ℕ, suc, ◌+◌, ◌≤◌}
use mathlib.Core.Path.{◌≡◌, refl, sym, ap, ◌∙◌}
use mathlib.Core.List.{List}
use mathlib.Core.Bool.{true, false}
use native.Mathlib.Omega.{arith}
use lib.ListN.{length, drop, drop_of_length-le}
use Rattle.text.specs.Line.{Row}
use Rattle.text.specs.FirstLines.{first_lines}
use Rattle.text.proofs.SameLines.{Alike, after_lines, alike_linewise, alike_ended}
use Rattle.listing.specs.Lines.{head_row, size_row, core_row}
use Rattle.listing.specs.Listing.{Cells, Entries, Dos, wrong}
use Rattle.listing.specs.First.{text_in}
use Rattle.listing.proofs.LineKinds.{head_kind, size_kind, core_kind, moves_on, line_same, line_walks}
use Rattle.listing.proofs.SideBySide.{dos_inside}
use Rattle.listing.proofs.Stages.{Before, Through, lines_in, text_no_head, text_no_size, text_no_core, text_no_end, text_right, right_not_wrong, same_line, Outcome, no_head, no_size, no_core, no_end, all_right, outcome}
use Rattle.listing.proofs.Alongside.{before_walks, before_same, through_walks, through_same}
use Rattle.listing.proofs.Completions.{nothing_left}

-- the place after the do lines lies in the text
pub through_inside : {s : List ℕ} {z : Row} {c : Cells} {r g b : Entries} {q : Row} {d : Dos} → Through s z c r g b q d
    → d.next ≤ length s
through_inside {s} {b = b} {q = q} h =
    let core : q.next ≤ length s =
    rw h.core at (moves_on core_kind s b.next (ap (λ (r : Row). r.ok) h.core ∙ h.cored)).1 in
    rw h.dos at (dos_inside s q.next core)

module _ (s t x : List ℕ) where
  head_decides : (head_row s 0).ok ≡ false → Alike x 1 s t → text_in t ≡ wrong 1
  head_decides e a =
      text_no_head t (ap (λ (r : Row). r.ok) (sym (line_same head_kind (alike_linewise x 0) s t 0 a)) ∙ e)

  size_decides : (head_row s 0).ok ≡ true → (size_row s (head_row s 0).next).ok ≡ false → Alike x 2 s t → text_in t ≡ wrong 2
  size_decides h e a =
      let head = line_same head_kind (alike_linewise x 1) s t 0 a in
      let p = (head_row s 0).next in
      let size = line_same size_kind (alike_linewise x 0) s t p (line_walks head_kind (alike_linewise x 1) s t 0 a h) in
      text_no_size t (ap (λ (r : Row). r.ok) (sym head) ∙ h) (rw (← head) (ap (λ (r : Row). r.ok) (sym size) ∙ e))

  module _ {z : Row} {c : Cells} {r g b : Entries} where
    core_decides : Before s z c r g b → (core_row s b.next).ok ≡ false → Alike x (lines_in c r g b + 1) s t
        → text_in t ≡ wrong (lines_in c r g b + 1)
    core_decides h e a =
        let core = line_same core_kind (alike_linewise x 0) s t b.next (before_walks (Alike x) (alike_linewise x) s t h 1 a) in
        text_no_core (before_same (Alike x) (alike_linewise x) s t h 1 a (λ e. absurd (omega arith)))
        (ap (λ (r : Row). r.ok) (sym core) ∙ e)

    end_decides : {q : Row} {d : Dos} → Through s z c r g b q d → (d.next ≡ length s → ⊥)
        → Alike x (lines_in c r g b + 1 + d.count + 1) s t → text_in t ≡ wrong (lines_in c r g b + 1 + d.count + 1)
    end_decides {q} {d} h e a =
        let p = d.next in
        let all : lines_in c r g b + 1 + d.count + 1 ≡ lines_in c r g b + suc (d.count + 1) = omega arith in
        let one = through_walks (Alike x) (alike_linewise x) s t h 1 (rw all at a) in
        text_no_end (through_same (Alike x) (alike_linewise x) s t h 1 (rw all at a) (λ e. absurd (omega arith)))
        (λ f.
        let ended : length t ≤ p = omega arith in
        let both = alike_ended 0 (drop p s) (rw (drop_of_length-le t ended) at one) in
        e (omega (arith, nothing_left s p both, through_inside h)))

module _ (s t x : List ℕ) {k : ℕ} (e : text_in s ≡ wrong k) (a : Alike x k s t) where
  decides : Outcome s → text_in t ≡ wrong k
  decides (no_head h) =
      let line = same_line e (text_no_head s h) in
      rw line (head_decides s t x h (rw line at a))
  decides (no_size h z) =
      let line = same_line e (text_no_size s h z) in
      rw line (size_decides s t x h z (rw line at a))
  decides (no_core z c r g b h q) =
      let line = same_line e (text_no_core h q) in
      rw line (core_decides s t x h q (rw line at a))
  decides (no_end z c r g b q d h f) =
      let line = same_line e (text_no_end h f) in
      rw line (end_decides s t x h f (rw line at a))
  decides (all_right z c r g b q d h f) = absurd (right_not_wrong (text_right h f) e)

pub first_lines_decide : (s t : List ℕ) {k : ℕ} → text_in s ≡ wrong k → first_lines k t ≡ first_lines k s → text_in t ≡ wrong k
first_lines_decide s t {k} e f =
    decides s t (after_lines k t) e (record { first = sym f; rest = refl }) (outcome s)
