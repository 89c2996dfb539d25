-- Two outcomes that one contract allows are equal: for each public function, over its contract as the source states it
-- (`Post` is what its `ensures` says of the arguments, the result and the parameters at exit). Assumes nothing.
use mathlib.Core.Path.{◌≡◌}
use Rattle.rules.specs.Lent.{lent}
use Rattle.rules.proofs.Laws.{one_outcome}
use Rattle.rules.proofs.Refusing.{one_kept}
use Rattle.rules.proofs.Refusal.number.Reads as number-reads
use Rattle.rules.proofs.Refusal.value.Reads as value-reads
use Rattle.rules.proofs.Instruction.address.Reads as address-reads
use Rattle.rules.proofs.TablesMut.tables.Reads as tables-reads
use Rattle.rules.proofs.Registers.after_switch.Reads as after-switch-reads
use Rattle.rules.proofs.part_of.Reads as part-of-reads
use Rattle.rules.proofs.join_of.Reads as join-of-reads
use Rattle.rules.proofs.decode.Reads as decode-reads

pub number_unique : (a : _) (r q : _) (s : _) → number-reads.Post tt a r s → number-reads.Post tt a q s → r ≡ q
number_unique a r q s = one_outcome

pub value_unique : (a : _) (r q : _) (s : _) → value-reads.Post tt a r s → value-reads.Post tt a q s → r ≡ q
value_unique a r q s = one_outcome

-- the same tables, whatever the memory
pub tables_unique : (κs : _) (a : _) (r q : _) (s u : _) → tables-reads.Post κs a r s → tables-reads.Post κs a q u → lent r ≡ lent q
tables_unique κs a r q s u = one_outcome

pub address_unique : (a : _) (r q : _) (s : _) → address-reads.Post tt a r s → address-reads.Post tt a q s → r ≡ q
address_unique a r q s = one_outcome

pub after_switch_unique : (a : _) (r q : _) (s : _) → after-switch-reads.Post tt a r s → after-switch-reads.Post tt a q s → r ≡ q
after_switch_unique a r q s = one_outcome

pub part_of_unique : (a : _) (r q : _) (s : _) → part-of-reads.Post tt a r s → part-of-reads.Post tt a q s → r ≡ q
part_of_unique a r q s = one_outcome

pub join_of_unique : (a : _) (r q : _) (s : _) → join-of-reads.Post tt a r s → join-of-reads.Post tt a q s → r ≡ q
join_of_unique a r q s = one_outcome

pub decode_unique : (a : _) (r q : _) (s : _) → decode-reads.Post tt a r s → decode-reads.Post tt a q s → r ≡ q
decode_unique a r q s = one_kept _ _ _ _ _ _ _ r q
