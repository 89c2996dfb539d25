use Rattle.rules.specs.Instructions.{byte_operand, rights_operand, grant_operands, formed}
use Rattle.rules.specs.declared.Instruction.TheVariants.{Store, Protect, Grant, Transfer}
use Rattle.rules.proofs.Operands.{byte_small, rights_small, grant_small, cut_kept, past_table, above}
use native.Mathlib.Omega.{arith}
use Rattle.rules.proofs.decode.Goals as goal

pub returns-in-1 : goal.returns-in-1
unfolding formed
returns-in-1 c =
    let a = c.args in
    rw (c.in-1.is, c.keep-in-1.ensures, c.low_byte.ensures, c.byte_operand.ensures)
    (cut_kept a.at (byte_operand a.y a.z) (λ v. Store a.x v) a.y (λ e. omega (arith, byte_small a.y a.z e)))

pub returns-in-4 : goal.returns-in-4
unfolding formed
returns-in-4 c =
    let a = c.args in
    rw (c.in-4.is, c.keep-in-4.ensures, c.low_byte-in-4.ensures, c.rights_operand.ensures)
    (cut_kept a.at (rights_operand a.y a.z) (λ v. Protect a.x v) a.y (λ e. omega (arith, rights_small a.y a.z e)))

pub returns-in-5 : goal.returns-in-5
unfolding formed
returns-in-5 c =
    let a = c.args in
    rw (c.in-5.is, c.keep-in-5.ensures, c.low_byte-in-5.ensures, c.grant_operands.ensures)
    (cut_kept a.at (grant_operands a.m a.d a.y a.z) (λ v. Grant a.x a.y v) a.z (λ e. omega (arith, grant_small a.m a.d a.y a.z e)))

pub returns-in-7 : goal.returns-in-7
unfolding formed
returns-in-7 c =
    let a = c.args in
    rw (c.in-7.is, c.keep-in-7.ensures, c.low_byte-in-7.ensures, c.grant_operands-in-7.ensures)
    (cut_kept a.at (grant_operands a.m a.d a.y a.z) (λ v. Transfer a.x a.y v) a.z (λ e. omega (arith, grant_small a.m a.d a.y a.z e)))

pub returns-in_default : goal.returns-in_default
unfolding formed
returns-in_default c =
    let a = c.args in
    let n = a.number in
    past_table a.m a.d a.at n a.x a.y a.z
    (above 10 n (above 9 n (above 8 n (above 7 n (above 6 n (above 5 n (above 4 n (above 3 n (above 2 n (above 1 n (above 0 n (omega arith) (search)) (search)) (search)) (search)) (search)) (search)) (search)) (search)) (search)) (search)) (search))
