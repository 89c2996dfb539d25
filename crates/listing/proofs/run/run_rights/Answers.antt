use Rattle.listing.specs.Reading.{cells_in}
use Rattle.std.proofs.Common.{rules}
use Rattle.listing.specs.Lines.{right_at, grant_at, byte_at}
use native.Mathlib.Omega.{arith}
use lib.ListN.{length}
use Rattle.listing.proofs.Rows.{told, right_key, grant_key, byte_key}
use Rattle.listing.proofs.Loops.{filled_plain}
use Rattle.listing.proofs.Whole.{filled_long, rights_read}
use Rattle.listing.proofs.run.run_rights.Goals as goal

pub fill-a-requires-clause-inside : goal.fill-a-requires-clause-inside
fill-a-requires-clause-inside c = λ at e post.
    let a = c.args.loaded.now in
    omega (arith, filled_long _ c.requires.blank.rights, right_key (length a.tables.first.now) a.size.m c.args.s.bytes.now at {e = e} (search rules))

pub fill-b-requires-clause-inside : goal.fill-b-requires-clause-inside
fill-b-requires-clause-inside c = λ at e post.
    let a = c.args.loaded.now in
    omega (arith, filled_long _ c.requires.blank.grants, grant_key (length a.tables.first.now) a.size.m c.args.s.bytes.now at {e = e} (search rules))

pub fill-c-requires-clause-inside : goal.fill-c-requires-clause-inside
fill-c-requires-clause-inside c = λ at e post.
    let a = c.args.loaded.now in
    omega (arith, filled_long _ c.requires.blank.bytes, byte_key a.size.l c.args.s.bytes.now at {e = e} (search rules))

pub returns-clause-puts : goal.returns-clause-puts
returns-clause-puts c =
    let t = c.args.loaded.now.tables in
    let n = length t.first.now in
    let m = c.args.loaded.now.size.m in
    let l = c.args.loaded.now.size.l in
    let s = c.args.s.bytes.now in
    let rights =
    filled_plain _ _ _ _ _ _ (c.fill-a.ensures.filled (λ x. x) (right_at n m s) (λ at r post. told (right_at n m s at) r (search rules))) in
    let grants =
    filled_plain _ _ _ _ _ _ (c.fill-b.ensures.filled (λ x. x) (grant_at n m s) (λ at r post. told (grant_at n m s at) r (search rules))) in
    let bytes =
    filled_plain _ _ _ _ _ _ (c.fill-c.ensures.filled (λ x. x) (byte_at l s) (λ at r post. told (byte_at l s at) r (search rules))) in
    let same =
    rights_read s m l (cells_in c.args.next t) c.fill-a.result c.fill-b.result c.fill-c.result t.rights.now c.fill-a.new.list
    t.grants.now c.fill-b.new.list c.args.loaded.now.memory.now c.fill-c.new.list c.requires.blank.rights c.requires.blank.grants
    c.requires.blank.bytes rights grants bytes in
    rw (← same, ← c.args.loaded.now.of_size) c.run_core.ensures.puts
