-- Two outcomes that one contract allows are equal: for each public function, over its contract as the source states it
-- (`Post` is what its `ensures` says of the arguments, the result and the parameters at exit). A list that is lent with `&`
-- cannot be written through and comes back as it was passed, so the theorems about the views, which take nothing else, speak
-- of the result alone. Assumes nothing.
use Prim.Native.Nat.{ℕ}
use mathlib.Core.Path.{◌≡◌, ap}
use mathlib.Core.List.{List}
use Rattle.rules.specs.Numbers.{Tables}
use Rattle.std.specs.Borrow.{MutBor}
use Rattle.rules.specs.Lent.{Slice, MutSlice, refers, lent, lent_mut}
use Rattle.rules.specs.declared.TablesMut.{TablesMut as LentTablesMut}
use Rattle.rules.proofs.Refusing.{one_answer}
use Rattle.rules.specs.declared.Registers.{Registers}
use Rattle.rules.proofs.Laws.{one_outcome}
use Rattle.monitor.specs.Answers.{came}
use Rattle.monitor.specs.declared.reply.Reply.{Reply}
use Rattle.monitor.proofs.execute.Reads as execute-reads
use Rattle.monitor.proofs.execute_all.Reads as execute-all-reads
use Rattle.monitor.proofs.write_block.Reads as write-block-reads
use Rattle.monitor.proofs.view_answer.Reads as view-answer-reads
use Rattle.monitor.proofs.view_place.Reads as view-place-reads
use Rattle.monitor.proofs.view.Reads as view-reads

-- the lists at exit of a call that may write the marks, the rights, the grants and the memory
abbrev pub lists : {Rest : Type 0} → MutBor LentTablesMut × (MutSlice × Rest) → Tables
lists s = lent_mut s.0.now s.1.0.now

-- of `execute_all`: both lists of answers at exit
abbrev pub answers : MutBor LentTablesMut × (MutSlice × (Registers × (Slice × (MutSlice × (MutSlice × Unit {0}))))) → List ℕ × List ℕ
answers s = (s.1.1.1.1.0.now, s.1.1.1.1.1.0.now)

-- ---- one outcome

-- equal outcomes have equal replies
pub same_reply : {r q : Reply} {t u : Tables} → came r t ≡ came q u → r ≡ q
same_reply e = λ i. record { number = (e i).number; value = (e i).value; registers = (e i).after.registers }

pub view_answer_unique : (κs : _) (a : _) (r q : _) (s u : _) → view-answer-reads.Post κs a r s → view-answer-reads.Post κs a q u → r ≡ q
view_answer_unique κs a r q s u e f = one_answer r q (one_outcome e f)

-- the same reference: it points to the same place, and the same bytes stand there
pub view_unique : (κs : _) (a : _) (r q : _) (s u : _) → view-reads.Post κs a r s → view-reads.Post κs a q u → refers r ≡ refers q
view_unique κs a r q s u = one_outcome

-- the reply and every lent list at exit
pub execute_unique : (κs : _) (a : _) (r q : _) (s u : _) → execute-reads.Post κs a r s → execute-reads.Post κs a q u
    → (r ≡ q) × (lists s ≡ lists u)
execute_unique κs a r q s u e f = (same_reply (one_outcome e.0 f.0), ap (λ o. o.after.lent) (one_outcome e.0 f.0))

pub write_block_unique : (κs : _) (a : _) (r q : _) (s u : _) → write-block-reads.Post κs a r s → write-block-reads.Post κs a q u
    → (r ≡ q) × (lent s.0 s.1.0.now ≡ lent u.0 u.1.0.now)
write_block_unique κs a r q s u e f = (same_reply (one_outcome e f), ap (λ o. o.after.lent) (one_outcome e f))

-- the registers, every lent list, and both lists of answers
pub execute_all_unique : (κs : _) (a : _) (r q : _) (s u : _) → execute-all-reads.Post κs a r s → execute-all-reads.Post κs a q u
    → (r ≡ q) × (lists s ≡ lists u) × (answers s ≡ answers u)
execute_all_unique κs a r q s u e f =
    let o = one_outcome e.0 f.0 in
    (ap (λ p. p.after.registers) o, ap (λ p. p.after.lent) o, λ i. ((o i).numbers, (o i).values))

pub view_place_unique : (κs : _) (a : _) (r q : _) (s u : _) → view-place-reads.Post κs a r s → view-place-reads.Post κs a q u → r ≡ q
view_place_unique κs a r q s u = one_outcome
