-- The local law of bytes: a call that changes a byte is an accepted store or block write, from a division then current and
-- holding write on the valid cell covering it. Assumes nothing.
use Prim.Native.Nat.{ℕ, zero, suc, ◌+◌, ◌-◌, ◌≤◌, ◌<◌}
use mathlib.Core.Path.{◌≡◌, refl, sym, ap, ◌∙◌}
use mathlib.Core.Logic.{◌≢◌}
use mathlib.Core.List.{List, ◌++◌}
use mathlib.Core.Bool.{true, false, ◌&&◌}
use native.Mathlib.Omega.{arith}
use native.Mathlib.Decide.{dec_le}
use lib.ListN.{length, get_or, set, take, drop, length-append, get_or-append}
use lib.Seq.{get_or-set_other, get_or-take, get_or-drop, length-take-le, get_or-append-add}
use lib.Dec.{leb, ltb, eqb}
use borrow.Author.Tests.{leb-true, ltb-true, ltb-false, eqb-true, eqb-false, le-leb, lt-ltb}
use Rattle.rules.specs.Numbers.{Tables, State, N, L, write, part_of, held, last_of, mark_of}
use Rattle.rules.specs.Refusals.{first_checks}
use Rattle.rules.specs.Instructions.{Formed, well_formed, ill_formed, address_of, cell_at, place, valid, needs, effect}
use Rattle.rules.specs.Blocks.{within_cell, block_needs, block_written}
use Rattle.rules.specs.Calls.{Action, instruction, block_write, read_view, formed_in, done_at, instruction_checks, instruction_done, block_checks, checks, done, performed}
use Rattle.rules.specs.declared.Instruction.{Instruction}
use Rattle.rules.specs.declared.Instruction.TheVariants.{Load, Store, Fetch, Switch, Protect, Grant, Receive, Transfer, Invalidate, Revalidate, Exclusive}
use Rattle.rules.proofs.Below.{and_left, and_right, and_both, by_test, clash, below_suc}
use Rattle.rules.proofs.Checks.{AllHold}
use Rattle.rules.proofs.Decoding.{Sensible, formed_sensible}
use Rattle.rules.proofs.Kept.{Begun, begun, Covering, covering, block_inside}
use Rattle.rules.proofs.Needed.{store_held, block_held}
use Rattle.rules.proofs.Laws.{refusal_same, accepted_exactly, accepted_done}
use Rattle.history.specs.History.{to_write}
use Rattle.history.specs.Shown.{has, holds_in, Writes, by_store, by_block, CoversPlace, Writer, state_at, byte_at, LastWritten}
use Rattle.history.proofs.Bits.{has_part}
use Rattle.history.proofs.Entries.{holds_made}
use Rattle.history.proofs.Accepted.{Accepted}
use Rattle.history.proofs.Local.{accepted_kind}

-- ---- lists

-- a byte outside a block is as it was
outside_block : (m b : List ℕ) (a p : ℕ) → a + length b ≤ length m
    → (a ≤ p → p < a + length b → ⊥) → get_or (take a m ++ b ++ drop (a + length b) m) p 0 ≡ get_or m p 0
outside_block m b a p h n =
    by_test (ltb p a)
    (λ e. let l : p < a = ltb-true p a e in
    let w : p < length (take a m) = rw (length-take-le a m (omega arith)) l in
    let v : p < length (take a m ++ b) = rw (length-append) (omega arith) in
    get_or-append (take a m ++ b) (drop (a + length b) m) 0 p v
    ∙ get_or-append (take a m) b 0 p w ∙ get_or-take a m p 0 l)
    (λ e. let l : a ≤ p = ltb-false p a e in
    by_test (ltb p (a + length b)) (λ f. absurd (n l (ltb-true _ _ f)))
    (λ f. let k : a + length b ≤ p = ltb-false _ _ f in
    let q : length (take a m ++ b) ≡ a + length b = length-append (take a m) b ∙ ap (λ (j : ℕ). j + length b) (length-take-le a m (omega arith)) in
    let j : length (take a m ++ b) + (p - (a + length b)) ≡ p = rw q (omega arith) in
    let i : a + length b + (p - (a + length b)) ≡ p = omega arith in
    ap (λ (x : ℕ). get_or (take a m ++ b ++ drop (a + length b) m) x 0) (sym j)
    ∙ get_or-append-add (take a m ++ b) (drop (a + length b) m) (p - (a + length b)) 0
    ∙ get_or-drop (a + length b) m (p - (a + length b)) 0
    ∙ ap (λ (x : ℕ). get_or m x 0) i))

-- ---- what is done

write_has : (p : ℕ) → part_of write p ≡ true → has to_write p ≡ true
unfolding has
write_has p e = has_part to_write write p e refl

-- two tests that both pass
both_false {ℓ} : {X : Type ℓ} (o p q : ℕ) → o ≤ p → p < q → leb o p && ltb p q ≡ false → X
both_false o p q h l e = clash (leb o p && ltb p q) (and_both _ _ (le-leb o p h) (lt-ltb p q l)) e

-- a writer, but for the acceptance
record Wrote (s : State) (a : Action) (p : ℕ) : Type 0 where
  cell : ℕ
  writes : Writes s p a cell
  covers : CoversPlace s.lent cell p
  marked : valid (mark_of s.lent cell) ≡ true
  right : holds_in s.lent cell s.registers.current to_write ≡ true

holding : (s : State) (c : ℕ) → Begun s → c < N s.lent → part_of write (held s.lent c s.registers.current) ≡ true
    → holds_in s.lent c s.registers.current to_write ≡ true
holding s c b h e =
    holds_made s.lent c s.registers.current to_write
    (record { cell = h; division = b.current; right = write_has _ e })

-- a place of the covering cell
place_covered : (t : Tables) (c x p n : ℕ) → Covering t x c → place t c x ≤ p → p < place t c x + n → x + n ≤ last_of t c + 1
    → CoversPlace t c p
unfolding place
place_covered t c x p n v h l w =
    record { cell = v.cell; from = omega (arith, v.from); to = omega (arith, v.from) }

-- a store
store_wrote : (s : State) (number x y z : ℕ) (at v p : ℕ) → formed_in s number x y z ≡ well_formed (Store at v)
    → Accepted s (Store at v) → get_or (set s.lent.memory (place s.lent (cell_at s.lent at) at) v) p 0 ≢ get_or s.lent.memory p 0
    → Wrote s (instruction number x y z) p
unfolding needs
store_wrote s number x y z at v p e a n =
    let t = s.lent in
    let c = cell_at t at in
    let here : p ≡ place t c at
    = by_test (eqb p (place t c at)) (λ b. eqb-true _ _ b) (λ b. absurd (n (get_or-set_other t.memory (place t c at) p v 0 (eqb-false _ _ b)))) in
    record {
      cell = c;
      writes = by_store at v e here;
      covers = place_covered t c at p 1 a.covers (omega arith) (omega arith) (omega (arith, a.covers.to));
      marked = a.needed.0;
      right = holding s c a.begun a.cell (store_held t s.registers.current c at v a.needed);
    }

-- of the instructions only a store
kind_wrote : (s : State) (number x y z : ℕ) (i : Instruction) (p : ℕ) → formed_in s number x y z ≡ well_formed i
    → Accepted s i
    → get_or (effect s.lent s.registers.current (cell_at s.lent (address_of i)) i).memory p 0 ≢ get_or s.lent.memory p 0
    → Wrote s (instruction number x y z) p
unfolding effect
kind_wrote s number x y z (Load u) p e a n = absurd (n refl)
kind_wrote s number x y z (Store u v) p e a n = store_wrote s number x y z u v p e a n
kind_wrote s number x y z (Fetch u) p e a n = absurd (n refl)
kind_wrote s number x y z (Switch u v) p e a n = absurd (n refl)
kind_wrote s number x y z (Protect u v) p e a n = absurd (n refl)
kind_wrote s number x y z (Grant u v w) p e a n = absurd (n refl)
kind_wrote s number x y z (Receive u v) p e a n = absurd (n refl)
kind_wrote s number x y z (Transfer u v w) p e a n = absurd (n refl)
kind_wrote s number x y z (Invalidate u) p e a n = absurd (n refl)
kind_wrote s number x y z (Revalidate u) p e a n = absurd (n refl)
kind_wrote s number x y z (Exclusive u) p e a n = absurd (n refl)

formed_wrote : (s : State) (number x y z : ℕ) (d : Formed) (p : ℕ) → formed_in s number x y z ≡ d
    → Sensible s.lent.M s.registers.current d → AllHold (first_checks s ++ instruction_checks s d)
    → get_or (instruction_done s d).after.lent.memory p 0 ≢ get_or s.lent.memory p 0 → Wrote s (instruction number x y z) p
unfolding done_at
formed_wrote s number x y z (well_formed i) p e v a n = kind_wrote s number x y z i p e (accepted_kind s i v a) n
formed_wrote s number x y z (ill_formed j) p e v a n = absurd (n refl)

-- a block
block_wrote : (s : State) (x : ℕ) (bytes : List ℕ) (p : ℕ) → AllHold (first_checks s ++ block_checks write s x (length bytes))
    → get_or (block_written s.lent (cell_at s.lent x) x bytes).memory p 0 ≢ get_or s.lent.memory p 0
    → Wrote s (block_write x bytes) p
unfolding block_needs block_written within_cell
block_wrote s x bytes p a n =
    let t = s.lent in
    let c = cell_at t x in
    let o = place t c x in
    let b = begun s (block_checks write s x (length bytes)) a in
    let r = a.1.1.1 in
    let v = covering t x r.0 in
    let fits : o + length bytes ≤ L t = block_inside t c x (length bytes) (b.sound _ v.cell) v r.1.1.0 in
    let within : x + length bytes ≤ last_of t c + 1 = leb-true _ _ r.1.1.0 in
    let inside : (o ≤ p) × (p < o + length bytes)
    = by_test (leb o p && ltb p (o + length bytes))
    (λ e. (leb-true _ _ (and_left (leb o p) _ e), ltb-true _ _ (and_right (leb o p) _ e)))
    (λ e. absurd (n (outside_block t.memory bytes o p fits (λ h l. both_false o p (o + length bytes) h l e)))) in
    record {
      cell = c;
      writes = by_block inside.0 inside.1;
      covers = place_covered t c x p (length bytes) v inside.0 inside.1 within;
      marked = r.1.0;
      right = holding s c b v.cell (block_held t s.registers.current c write x (length bytes) r.1);
    }

done_wrote : (s : State) (a : Action) (p : ℕ) → AllHold (checks s a) → get_or (done s a).after.lent.memory p 0 ≢ get_or s.lent.memory p 0
    → Wrote s a p
unfolding checks done
done_wrote s (instruction number x y z) p v n =
    formed_wrote s number x y z (formed_in s number x y z) p refl
    (formed_sensible s.lent.M s.registers.current number x y z) v n
done_wrote s (block_write x bytes) p v n = block_wrote s x bytes p v n
done_wrote s (read_view x j) p v n = absurd (n refl)

-- ---- any call

pub call_wrote : (s : State) (a : Action) (p : ℕ) → get_or (performed s a).after.lent.memory p 0 ≢ get_or s.lent.memory p 0 → Writer s a p
call_wrote s a p n =
    by_test (eqb (performed s a).number 0) (λ e. accepting (eqb-true _ _ e))
    (λ e. absurd (n (ap (λ o. get_or o.after.lent.memory p 0) (refusal_same s a (eqb-false _ _ e)))))
  where
    accepting : (performed s a).number ≡ 0 → Writer s a p
    accepting z =
        let w : Wrote s a p
        = done_wrote s a p ((accepted_exactly s a).0 z) (λ e. n (ap (λ o. get_or o.after.lent.memory p 0) (accepted_done s a z) ∙ e)) in
        record { accepted = z; cell = w.cell; writes = w.writes; covers = w.covers; marked = w.marked; right = w.right }

-- ---- any sequence

module _ (calls : ℕ → Action) (start : State) where
  -- a step that leaves the byte as it is
  later : (t u p : ℕ) → byte_at calls start (suc t) p ≡ byte_at calls start t p → LastWritten calls start u t p → LastWritten calls start u (suc t) p
  later t u p e w =
      record {
        n = w.n;
        after = w.after;
        before = omega (arith, w.before);
        writer = w.writer;
        since = λ i l j. below_suc i (suc t) (omega arith) (λ k. w.since i l (omega arith) ∙ sym e) (λ k. ap (λ (v : ℕ). byte_at calls start v p) k);
      }

  -- a byte that differs at two times was last changed, between them, by a writer
  pub last_written : (t u p : ℕ) → u ≤ t → byte_at calls start t p ≢ byte_at calls start u p → LastWritten calls start u t p
  last_written zero u p h n = let q : 0 ≡ u = omega arith in absurd (n (ap (λ (i : ℕ). byte_at calls start i p) q))
  last_written (suc t) u p h n =
      elim (dec_le u t) [
        | no k ↦ (let q : suc t ≡ u = omega arith in absurd (n (ap (λ (i : ℕ). byte_at calls start i p) q)))
        | yes k ↦
            by_test (eqb (byte_at calls start (suc t) p) (byte_at calls start t p))
            (λ e. later t u p (eqb-true _ _ e) (last_written t u p k (λ f. n (eqb-true _ _ e ∙ f))))
            (λ e. record {
              n = t;
              after = k;
              before = omega arith;
              writer = call_wrote (state_at calls start t) (calls t) p (eqb-false _ _ e);
              since = λ i l j. let q : i ≡ suc t = omega arith in ap (λ (v : ℕ). byte_at calls start v p) q;
            })
      ]
