-- Texts with the same first lines, and the lines that a text has: each is kept from line to line. Assumes nothing.
use Prim.Native.Nat.{ℕ, zero, suc, ◌≤◌}
use mathlib.Core.Path.{◌≡◌, refl, sym, ap, ◌∙◌}
use mathlib.Core.List.{List, [], ◌∷◌, ◌++◌}
use mathlib.Core.Bool.{cond}
use native.Mathlib.Omega.{arith}
use lib.ListN.{length, drop}
use lib.Dec.{eqb}
use borrow.Author.Tests.{eq-eqb, ne_eqb}
use Rattle.text.specs.Number.{peek_at}
use Rattle.text.specs.Line.{line_feed}
use Rattle.text.specs.FirstLines.{first_lines, line_count}
use Rattle.text.proofs.Cases.{by_test}
use Rattle.text.proofs.OneLine.{Linewise}

-- what stands behind the first k lines
unfoldable pub after_lines : (k : ℕ) (s : List ℕ) → List ℕ
after_lines zero s = s
after_lines (suc k) [] = []
after_lines (suc k) (c ∷ s) = cond (eqb c line_feed) (after_lines k s) (after_lines (suc k) s)

-- ---- a byte further: within a line, and behind its LF

first_byte : (k : ℕ) (l : List ℕ) → peek_at (first_lines (suc k) l) 0 ≡ peek_at l 0
unfolding first_lines
first_byte k [] = refl
first_byte k (c ∷ l) = refl

module _ (k : ℕ) where
  first_step : (l : List ℕ) → (peek_at l 0 ≡ line_feed → ⊥) → drop 1 (first_lines (suc k) l) ≡ first_lines (suc k) (drop 1 l)
  unfolding first_lines
  first_step [] h = refl
  first_step (c ∷ l) h = rw (ne_eqb c line_feed h)

  first_feed : (l : List ℕ) → peek_at l 0 ≡ line_feed → drop 1 (first_lines (suc k) l) ≡ first_lines k (drop 1 l)
  unfolding first_lines
  first_feed [] e = absurd (omega arith)
  first_feed (c ∷ l) e = rw (eq-eqb c line_feed e)

  after_step : (l : List ℕ) → (peek_at l 0 ≡ line_feed → ⊥) → after_lines (suc k) l ≡ after_lines (suc k) (drop 1 l)
  unfolding after_lines
  after_step [] h = refl
  after_step (c ∷ l) h = rw (ne_eqb c line_feed h)

  after_feed : (l : List ℕ) → peek_at l 0 ≡ line_feed → after_lines (suc k) l ≡ after_lines k (drop 1 l)
  unfolding after_lines
  after_feed [] e = absurd (omega arith)
  after_feed (c ∷ l) e = rw (eq-eqb c line_feed e)

  whole_step : (l : List ℕ) → (peek_at l 0 ≡ line_feed → ⊥) → first_lines (suc k) (drop 1 l) ≡ drop 1 l → first_lines (suc k) l ≡ l
  unfolding first_lines
  whole_step [] h e = refl
  whole_step (c ∷ l) h e = rw (ne_eqb c line_feed h) (ap (λ (l : List ℕ). c ∷ l) e)

  whole_feed : (l : List ℕ) → peek_at l 0 ≡ line_feed → first_lines k (drop 1 l) ≡ drop 1 l → first_lines (suc k) l ≡ l
  unfolding first_lines
  whole_feed [] h e = refl
  whole_feed (c ∷ l) h e = rw (eq-eqb c line_feed h) (ap (λ (l : List ℕ). c ∷ l) e)

count_step : (l : List ℕ) → (peek_at l 0 ≡ line_feed → ⊥) → line_count (drop 1 l) ≡ line_count l
unfolding line_count
count_step [] h = refl
count_step (c ∷ l) h = rw (ne_eqb c line_feed h)

count_feed : (l : List ℕ) → peek_at l 0 ≡ line_feed → suc (line_count (drop 1 l)) ≡ line_count l
unfolding line_count
count_feed [] e = absurd (omega arith)
count_feed (c ∷ l) e = rw (eq-eqb c line_feed e)

-- ---- two texts have the same first k lines, and x stands behind those of the second

pub record Alike (x : List ℕ) (k : ℕ) (l m : List ℕ) : Type 0 where
  pub first : first_lines k l ≡ first_lines k m
  pub rest : after_lines k m ≡ x

pub alike_linewise : (x : List ℕ) (k : ℕ) → Linewise (Alike x (suc k)) (Alike x k)
alike_linewise x k = record { byte = byte; step = step; feed = feed }
  where
    byte : (l m : List ℕ) → Alike x (suc k) l m → peek_at l 0 ≡ peek_at m 0
    byte l m a = sym (first_byte k l) ∙ ap (λ (l : List ℕ). peek_at l 0) a.first ∙ first_byte k m

    step : (l m : List ℕ) → Alike x (suc k) l m → (peek_at l 0 ≡ line_feed → ⊥) → Alike x (suc k) (drop 1 l) (drop 1 m)
    step l m a h =
        let g : peek_at m 0 ≡ line_feed → ⊥ = λ e. h (byte l m a ∙ e) in
        record {
          first = sym (first_step k l h) ∙ ap (drop 1) a.first ∙ first_step k m g;
          rest = sym (after_step k m g) ∙ a.rest;
        }

    feed : (l m : List ℕ) → Alike x (suc k) l m → peek_at l 0 ≡ line_feed → Alike x k (drop 1 l) (drop 1 m)
    feed l m a h =
        let g : peek_at m 0 ≡ line_feed = sym (byte l m a) ∙ h in
        record {
          first = sym (first_feed k l h) ∙ ap (drop 1) a.first ∙ first_feed k m g;
          rest = sym (after_feed k m g) ∙ a.rest;
        }

-- behind no line more the second text is x
pub alike_none : {x l m : List ℕ} → Alike x 0 l m → m ≡ x
unfolding after_lines
alike_none a = a.rest

-- where the second text has ended, so has the first
pub alike_ended : {x : List ℕ} (k : ℕ) (l : List ℕ) → Alike x (suc k) l [] → l ≡ []
unfolding first_lines
alike_ended k [] a = refl
alike_ended k (c ∷ l) a = absurd (omega (arith, ap length a.first))

-- the first k lines of a text, with x behind them
pub first_then : (k : ℕ) (s x : List ℕ) → k ≤ line_count s → Alike x k s (first_lines k s ++ x)
unfolding first_lines after_lines line_count
first_then zero s x h = record { first = refl; rest = refl }
first_then (suc k) [] x h = absurd (omega arith)
first_then (suc k) (c ∷ s) x h =
    by_test (eqb c line_feed)
    (λ e.
    let a = first_then k s x (omega (arith, rw e at h)) in
    record { first = rw e (ap (λ (l : List ℕ). c ∷ l) a.first); rest = rw e a.rest })
    (λ e.
    let a = first_then (suc k) s x (rw e at h) in
    record { first = rw e (ap (λ (l : List ℕ). c ∷ l) a.first); rest = rw e a.rest })

-- ---- the lines of one text: l is what is left of s when j of k lines are left

pub record Counted (s : List ℕ) (k j : ℕ) (l m : List ℕ) : Type 0 where
  pub same : l ≡ m
  pub enough : j ≤ line_count l → k ≤ line_count s
  pub whole : first_lines j l ≡ l → first_lines k s ≡ s

pub counted_start : (s : List ℕ) (k : ℕ) → Counted s k k s s
counted_start s k = record { same = refl; enough = λ h. h; whole = λ e. e }

pub counted_linewise : (s : List ℕ) (k j : ℕ) → Linewise (Counted s k (suc j)) (Counted s k j)
counted_linewise s k j =
    record {
      byte = λ l m a. ap (λ (l : List ℕ). peek_at l 0) a.same;
      step = λ l m a h.
          record {
            same = ap (drop 1) a.same;
            enough = λ g. a.enough (rw (count_step l h) at g);
            whole = λ e. a.whole (whole_step j l h e);
          };
      feed = λ l m a h.
          record {
            same = ap (drop 1) a.same;
            enough = λ g. a.enough (omega (arith, count_feed l h));
            whole = λ e. a.whole (whole_feed j l h e);
          };
    }

-- with no line left: s has k lines, and where nothing is left it has no byte behind them
pub counted_enough : {s l m : List ℕ} {k : ℕ} → Counted s k 0 l m → k ≤ line_count s
counted_enough a = a.enough (omega arith)

pub counted_whole : {s m : List ℕ} {k : ℕ} → Counted s k 0 [] m → first_lines k s ≡ s
unfolding first_lines
counted_whole a = a.whole refl

-- ---- a text that is its first k lines is its first n, for more

first_nil : (n : ℕ) → first_lines n [] ≡ []
unfolding first_lines
first_nil zero = refl
first_nil (suc n) = refl

pub first_more : (k n : ℕ) (s : List ℕ) → k ≤ n → first_lines k s ≡ s → first_lines n s ≡ s
unfolding first_lines
first_more k n [] h e = first_nil n
first_more zero n (c ∷ s) h e = absurd (omega (arith, ap length e))
first_more (suc k) zero (c ∷ s) h e = absurd (omega arith)
first_more (suc k) (suc n) (c ∷ s) h e =
    by_test (eqb c line_feed)
    (λ f. rw f (ap (λ (l : List ℕ). c ∷ l) (first_more k n s (omega arith) (ap (drop 1) (rw f at e)))))
    (λ f. rw f (ap (λ (l : List ℕ). c ∷ l) (first_more (suc k) (suc n) s h (ap (drop 1) (rw f at e)))))

-- ---- texts that have the same first n lines have the same first k, for fewer

first_first : (k n : ℕ) (s : List ℕ) → k ≤ n → first_lines k (first_lines n s) ≡ first_lines k s
unfolding first_lines
first_first zero n s h = refl
first_first (suc k) zero s h = absurd (omega arith)
first_first (suc k) (suc n) [] h = refl
first_first (suc k) (suc n) (c ∷ s) h =
    by_test (eqb c line_feed)
    (λ e. rw e (ap (λ (l : List ℕ). c ∷ l) (first_first k n s (omega arith))))
    (λ e. rw e (ap (λ (l : List ℕ). c ∷ l) (first_first (suc k) (suc n) s h)))

pub first_fewer : (k n : ℕ) (s t : List ℕ) → k ≤ n → first_lines n s ≡ first_lines n t → first_lines k s ≡ first_lines k t
first_fewer k n s t h e = sym (first_first k n s h) ∙ ap (first_lines k) e ∙ first_first k n t h
