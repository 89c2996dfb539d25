-- What `cellrun` writes of a listing's run, read back: the answer lines as the answers, and the right lines as the rights of the state
-- after the run. Nothing is asked of the tables: sound or not, rights stay 0 to 7 and every answer fits in 32 bits. Assumes nothing.
use Prim.Native.Nat.{ℕ, zero, suc, ◌+◌, ◌-◌, ◌*◌, ◌≤◌, ◌<◌}
use mathlib.Core.Path.{◌≡◌, sym, ap, ◌∙◌}
use mathlib.Core.List.{List, [], ◌++◌, append_assoc, append-nil}
use mathlib.Core.Bool.{false}
use native.Mathlib.Omega.{arith}
use lib.ListN.{length, get_or, take, drop, length-append, get_or-eq_default}
use lib.Seq.{drop-append_seam}
use Rattle.text.specs.Number.{peek_at}
use Rattle.text.specs.Line.{row_at}
use Rattle.text.specs.Text.{Put, Ends}
use Rattle.text.proofs.Cases.{by_test}
use Rattle.text.proofs.Room.{put_long, put_front}
use Rattle.rules.specs.Numbers.{State, N}
use Rattle.rules.proofs.Sizes.{sized}
use Rattle.rules.proofs.Small.{Small, small_kept, number_most, value_most}
use Rattle.monitor.specs.Runs.{instruction_at, after_first, answer_at}
use Rattle.listing.specs.Words.{cells_word, answer_word}
use Rattle.listing.specs.Lines.{right_at}
use Rattle.listing.specs.Listing.{run, zeros, entries_at, listing_in}
use Rattle.listing.specs.Output.{line1, lines_of, answer_line, core_line, right_line, grant_line, state_lines, lines_after, body_of}
use Rattle.listing.specs.Reading.{output_room, written_in}
use Rattle.listing.proofs.Written.{lines_next}
use Rattle.listing.proofs.EntriesBack.{behind}
use Rattle.listing.proofs.LinesBack.{row3, line3_back, right_first}
use Rattle.listing.proofs.Back.{rights_back, grants_no_right, rights_at}
use Rattle.listing.proofs.Whole.{written}
use Rattle.monitor.proofs.Running.{first_shape}
use Rattle.listing.proofs.Sized.{listing_loaded}

-- ---- the state after the first k instructions

module _ (s : State) (l : List ℕ) where
  -- rights stay 0 to 7, and bytes 0 to 255
  first_small : Small s.lent → (k : ℕ) → Small (after_first s l k).lent
  unfolding after_first
  first_small h zero = h
  first_small h (suc k) =
      small_kept (after_first s l k) (get_or l (4 * k) 0) (get_or l (4 * k + 1) 0) (get_or l (4 * k + 2) 0) (get_or l (4 * k + 3) 0) (first_small h k)

-- ---- right lines, and grant lines behind them, at the end of a text

-- no right line stands behind the last byte
no_right_behind : (n m : ℕ) (s : List ℕ) → (right_at n m s (length s)).ok ≡ false
no_right_behind n m s =
    by_test (right_at n m s (length s)).ok
    (λ ok.
    let past : peek_at s (length s) ≡ 256 = get_or-eq_default s 256 {n = length s} (omega arith) in
    absurd (omega (arith, past, right_first n m s (length s) ok)))
    (λ ok. ok)

-- the rights that they tell are read
rights_last : (n m : ℕ) → 1 ≤ m → m ≤ 32 → n ≤ 256 → (rights grants front s : List ℕ) → length rights ≡ n * m
    → ((e : ℕ) → get_or rights e 0 ≤ 7)
    → s ≡ front ++ (lines_of (right_line m rights) 0 (length rights) ++ lines_of (grant_line m grants) 0 (length grants))
    → (entries_at (right_at n m s) (length s) (length front) (zeros (n * m))).list ≡ rights
rights_last n m some few cells rights grants front s long high e =
    let x = lines_of (right_line m rights) 0 (length rights) in
    let y = lines_of (grant_line m grants) 0 (length grants) in
    let d₁ : drop (length front) s ≡ x ++ y = ap (drop (length front)) e ∙ drop-append_seam front (x ++ y) in
    let d₂ : drop (length front + length x) s ≡ y ++ [] = behind s (length front) x y d₁ ∙ sym (append-nil y) in
    let whole : length s ≡ length (front ++ (x ++ y)) = ap length e in
    let end : length front + length x + length y ≡ length s =
    omega (arith, whole, length-append front (x ++ y), length-append x y) in
    let none = grants_no_right n m s [] grants (length grants) 0 (length front + length x) d₂ (rw end (no_right_behind n m s)) in
    (rights_back n m some few cells s y (length front) rights long high d₁ none).0

-- ---- lines and their parts

-- one line of many: those before it, it, and those behind it
lines_part : (line : ℕ → List ℕ) (e i j : ℕ)
    → lines_of line e (i + suc j) ≡ lines_of line e i ++ (line (e + i) ++ lines_of line (e + i + 1) j)
unfolding lines_of
lines_part line e zero j =
    let p : 0 + suc j ≡ suc j = omega arith in
    let q : e + 0 ≡ e = omega arith in
    rw (p, q)
lines_part line e (suc i) j =
    let p : suc i + suc j ≡ suc (i + suc j) = omega arith in
    let q : e + 1 + i ≡ e + suc i = omega arith in
    rw p
    (ap (λ (t : List ℕ). line e ++ t) (lines_part line (e + 1) i j)
    ∙ rw q (sym (append_assoc (line e) (lines_of line (e + 1) i) (line (e + suc i) ++ lines_of line (e + suc i + 1) j))))

one_of : (line : ℕ → List ℕ) (i k : ℕ) → i < k
    → lines_of line 0 k ≡ lines_of line 0 i ++ (line i ++ lines_of line (i + 1) (k - (i + 1)))
one_of line i k h =
    let p : i + suc (k - (i + 1)) ≡ k = omega arith in
    let q : 0 + i ≡ i = omega arith in
    rw (p, q) at (lines_part line 0 i (k - (i + 1)))

four_parts : (h a b c z : List ℕ) → h ++ ((a ++ (b ++ c)) ++ z) ≡ (h ++ a) ++ (b ++ (c ++ z))
four_parts h a b c z =
    ap (λ (t : List ℕ). h ++ t) (append_assoc a (b ++ c) z ∙ ap (λ (t : List ℕ). a ++ t) (append_assoc b c z))
    ∙ sym (append_assoc h a (b ++ (c ++ z)))

five_parts : (h a c x y : List ℕ) → h ++ (a ++ (c ++ x ++ y)) ≡ (h ++ a ++ c) ++ (x ++ y)
five_parts h a c x y =
    sym (append_assoc h a (c ++ x ++ y))
    ∙ ap (λ (t : List ℕ). (h ++ a) ++ t) (append_assoc c x y)
    ∙ sym (append_assoc (h ++ a) c (x ++ y))

-- ---- what is written of a run

-- `cells 1`, the answers, and the state after the instructions
abbrev pub run_text : State → (k : ℕ) (numbers : List ℕ) → List ℕ
run_text start k l = line1 cells_word 1 ++ (lines_of (answer_line start l) 0 k ++ lines_after (after_first start l k))

-- its part before the answer of the instruction numbered i from 0
abbrev pub before_answer : State → (numbers : List ℕ) (i : ℕ) → List ℕ
before_answer start l i = line1 cells_word 1 ++ lines_of (answer_line start l) 0 i

-- its part before the right lines
abbrev pub before_rights : State → (k : ℕ) (numbers : List ℕ) → List ℕ
before_rights start k l = line1 cells_word 1 ++ lines_of (answer_line start l) 0 k ++ core_line (after_first start l k).registers

-- the answer of the instruction numbered i from 0 stands behind those before it
pub answer_stands : (start : State) (k : ℕ) (l : List ℕ) (i : ℕ) → i < k
    → drop (length (before_answer start l i)) (run_text start k l)
    ≡ answer_line start l i ++ (lines_of (answer_line start l) (i + 1) (k - (i + 1)) ++ lines_after (after_first start l k))
answer_stands start k l i h =
    let line = answer_line start l in
    let behind = lines_of line (i + 1) (k - (i + 1)) in
    let end = lines_after (after_first start l k) in
    let parts : run_text start k l ≡ before_answer start l i ++ (line i ++ (behind ++ end)) =
    ap (λ (t : List ℕ). line1 cells_word 1 ++ (t ++ end)) (one_of line i k h)
    ∙ four_parts (line1 cells_word 1) (lines_of line 0 i) (line i) behind end in
    ap (drop (length (before_answer start l i))) parts ∙ drop-append_seam (before_answer start l i) (line i ++ (behind ++ end))

-- and the next answer behind it
answer_next : (start : State) (l : List ℕ) (i : ℕ)
    → length (before_answer start l i) + length (answer_line start l i) ≡ length (before_answer start l (i + 1))
answer_next start l i =
    let h = line1 cells_word 1 in
    let line = answer_line start l in
    let before = lines_of line 0 i in
    rw (lines_next line i)
    (omega (arith, length-append h (before ++ line i), length-append before (line i), length-append h before))

module _ (text : List ℕ) (start : State) (k : ℕ) (l : List ℕ) (e : listing_in text ≡ run start k l) (s : List ℕ) (q : s ≡ run_text start k l) where
  -- what is read of that answer: its listing position, number and value; the next stands where it ends
  pub answer_back : (i : ℕ) → i < k
      → row_at s (length (before_answer start l i)) answer_word 3
      ≡ row3 (length (before_answer start l (i + 1))) (i + 1) (answer_at start l i).outcome.number (answer_at start l i).outcome.value
  unfolding answer_line
  answer_back i h =
      let t = after_first start l i in
      let loaded = listing_loaded text start k l e in
      let cells : N t.lent ≤ 256 = rw (first_shape start l i).firsts (sized start.lent loaded.sizes).within.cells in
      let a = (answer_at start l i).outcome in
      let rest = lines_of (answer_line start l) (i + 1) (k - (i + 1)) ++ lines_after (after_first start l k) in
      let number : a.number ≤ 13 = number_most t (instruction_at l i) in
      let value : a.value ≤ 4294967295 =
      value_most t (get_or l (4 * i) 0) (get_or l (4 * i + 1) 0) (get_or l (4 * i + 2) 0) (get_or l (4 * i + 3) 0) cells (first_small start l loaded.small i) in
      line3_back s rest (length (before_answer start l i)) answer_word (i + 1) a.number a.value (omega (arith, loaded.few)) (omega arith) value
      (ap (drop (length (before_answer start l i))) q ∙ answer_stands start k l i h)
      ∙ ap (λ (n : ℕ). row3 n (i + 1) a.number a.value) (answer_next start l i)

  -- the right lines tell the rights of the state after the run
  pub rights_written_back : (rights_at start.lent s (length (before_rights start k l))).list ≡ (after_first start l k).lent.rights
  unfolding state_lines
  rights_written_back =
      let t = (after_first start l k).lent in
      let loaded = listing_loaded text start k l e in
      let sizes = sized start.lent loaded.sizes in
      let b = sizes.within in
      let shape = first_shape start l k in
      let x = lines_of (right_line t.M t.rights) 0 (length t.rights) in
      let y = lines_of (grant_line t.M t.grants) 0 (length t.grants) in
      let parts : s ≡ before_rights start k l ++ (x ++ y) =
      q ∙ five_parts (line1 cells_word 1) (lines_of (answer_line start l) 0 k) (core_line (after_first start l k).registers) x y in
      rights_last (N start.lent) start.lent.M b.some b.divisions b.cells t.rights t.grants (before_rights start k l) s
      (shape.rights ∙ sizes.rights_long) (first_small start l loaded.small k).rights (rw shape.divisions at parts)

-- ---- what stands in the buffer

-- the text of the run, where the buffer has room
pub run_written : (out s after : List ℕ) (r : ℕ) (start : State) (k : ℕ) (l : List ℕ) → output_room ≤ length out
    → Put out 0 (written_in out s) r after → Ends 0 r after → listing_in s ≡ run start k l → take r after ≡ run_text start k l
unfolding body_of
run_written out s after r start k l room put ends e =
    let fits : 0 + length (written_in out s) ≤ length out = omega (arith, put.place, ends.0, put_long put) in
    put_front fits put ∙ sym (written out s room) ∙ ap (λ t. line1 cells_word 1 ++ body_of t) e
