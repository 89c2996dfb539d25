-- The arms of `apply`: what a callee requires follows from what the public call tested and from the operands of the arm's kind; at
-- an arm's end the law of its kind turns what its callees ensure into the rules' outcome. First the arms that read or write memory,
-- then those that write rights and grants, then the others.
use mathlib.Core.Path.{◌≡◌, refl, ◌∙◌}
use Rattle.rules.specs.Lent.{lent_mut}
use Rattle.rules.specs.Numbers.{state, held}
use Rattle.monitor.specs.Ready.{Ready}
use Rattle.monitor.proofs.Readiness.{row_there, own_rights, place_there, byte_there, source_grant, seen_ready, seen_held, seen_place, seen_alone}
use Rattle.monitor.proofs.Applying.{switch_done, invalidate_done, revalidate_done, exclusive_done, fetch_there, load_done, store_done, fetch_done, grant_fits, transfer_fits, protect_done, grant_done, receive_done, transfer_done}
use Rattle.monitor.proofs.apply.apply.Goals as goal
use Rattle.monitor.proofs.apply.apply.Goals.{After-held_at-held}

ready : (c : After-held_at-held) → Ready (state (lent_mut c.args.tables.now c.args.memory.now) c.args.registers) c.args.i c.args.c
ready c = c.requires.ready

held_is : (c : After-held_at-held) → c.held_at-held.result ≡ held (lent_mut c.args.tables.now c.args.memory.now) c.args.c c.args.registers.current
held_is c = c.held_at-held.ensures ∙ seen_held _ _ c.tables-now.ensures _ _

pub held_at-held-requires : goal.held_at-held-requires
held_at-held-requires c = own_rights (seen_ready _ _ c.tables-now.ensures c.requires.ready)

-- ---- memory

pub place_of-place-requires : goal.place_of-place-requires
place_of-place-requires c = place_there (seen_ready _ _ c.tables-now.ensures c.requires.ready) c.in-Load.is

pub bounds-memory-place : goal.bounds-memory-place
bounds-memory-place c =
    rw (c.place_of-place.ensures ∙ seen_place _ _ c.tables-now.ensures _ _) (byte_there (ready (goal.at.bounds-memory-place c).After-held_at-held) c.in-Load.is)

pub returns-in-Load-clause-done : goal.returns-in-Load-clause-done
returns-in-Load-clause-done c =
    let here = (goal.at.returns-in-Load-clause-done c).After-held_at-held in
    load_done (ready here) c.in-Load.is (c.place_of-place.ensures ∙ seen_place _ _ c.tables-now.ensures _ _) refl

pub place_of-place-requires-in-Store : goal.place_of-place-requires-in-Store
place_of-place-requires-in-Store c = place_there (seen_ready _ _ c.tables-now.ensures c.requires.ready) c.in-Store.is

pub bounds-memory-place-in-Store : goal.bounds-memory-place-in-Store
bounds-memory-place-in-Store c =
    rw (c.place_of-place-in-Store.ensures ∙ seen_place _ _ c.tables-now.ensures _ _)
    (byte_there (ready (goal.at.bounds-memory-place-in-Store c).After-held_at-held) c.in-Store.is)

pub returns-in-Store-clause-done : goal.returns-in-Store-clause-done
returns-in-Store-clause-done c =
    let here = (goal.at.returns-in-Store-clause-done c).After-held_at-held in
    store_done (ready here) c.in-Store.is (c.place_of-place-in-Store.ensures ∙ seen_place _ _ c.tables-now.ensures _ _) refl

pub place_of-requires : goal.place_of-requires
place_of-requires c = place_there (seen_ready _ _ c.tables-now.ensures c.requires.ready) c.in-Fetch.is

pub word_in-requires : goal.word_in-requires
word_in-requires c =
    let here = (goal.at.word_in-requires c).After-held_at-held in
    rw (c.place_of.ensures ∙ seen_place _ _ c.tables-now.ensures _ _) (fetch_there (ready here) c.in-Fetch.is c.requires.all_hold)

pub returns-in-Fetch-clause-done : goal.returns-in-Fetch-clause-done
returns-in-Fetch-clause-done c =
    let here = (goal.at.returns-in-Fetch-clause-done c).After-held_at-held in
    fetch_done (ready here) c.in-Fetch.is (c.place_of.ensures ∙ seen_place _ _ c.tables-now.ensures _ _) c.word_in.ensures

-- ---- rights and grants

pub returns-in-Protect-clause-done : goal.returns-in-Protect-clause-done
returns-in-Protect-clause-done c = protect_done (ready (goal.at.returns-in-Protect-clause-done c).After-held_at-held) c.in-Protect.is refl

pub grant_entry-requires : goal.grant_entry-requires
grant_entry-requires c = grant_fits (ready (goal.at.grant_entry-requires c).After-held_at-held) c.in-Grant.is

pub returns-in-Grant-clause-done : goal.returns-in-Grant-clause-done
returns-in-Grant-clause-done c =
    let here = (goal.at.returns-in-Grant-clause-done c).After-held_at-held in
    grant_done (ready here) c.in-Grant.is (held_is here) c.grant_entry.ensures refl

pub take_grant-joined-requires : goal.take_grant-joined-requires
take_grant-joined-requires c =
    let here = (goal.at.take_grant-joined-requires c).After-held_at-held in
    (own_rights (ready here), source_grant (ready here) c.in-Receive.is)

pub returns-in-Receive-clause-done : goal.returns-in-Receive-clause-done
returns-in-Receive-clause-done c =
    let here = (goal.at.returns-in-Receive-clause-done c).After-held_at-held in
    let ends = c.take_grant-joined.ensures in
    receive_done (ready here) c.in-Receive.is ends.value ends.rights_after ends.grants_after

pub grant_entry-requires-in-Transfer : goal.grant_entry-requires-in-Transfer
grant_entry-requires-in-Transfer c = transfer_fits (ready (goal.at.grant_entry-requires-in-Transfer c).After-held_at-held) c.in-Transfer.is

pub returns-in-Transfer-clause-done : goal.returns-in-Transfer-clause-done
returns-in-Transfer-clause-done c =
    let here = (goal.at.returns-in-Transfer-clause-done c).After-held_at-held in
    transfer_done (ready here) c.in-Transfer.is c.grant_entry-in-Transfer.ensures refl refl

-- ---- the others

pub returns-in-Switch-clause-done : goal.returns-in-Switch-clause-done
returns-in-Switch-clause-done c = switch_done (ready (goal.at.returns-in-Switch-clause-done c).After-held_at-held) c.in-Switch.is c.after_switch.ensures

pub returns-in-Invalidate-clause-done : goal.returns-in-Invalidate-clause-done
returns-in-Invalidate-clause-done c =
    let here = (goal.at.returns-in-Invalidate-clause-done c).After-held_at-held in
    invalidate_done (ready here) c.in-Invalidate.is (held_is here) refl

pub returns-in-Revalidate-clause-done : goal.returns-in-Revalidate-clause-done
returns-in-Revalidate-clause-done c =
    let here = (goal.at.returns-in-Revalidate-clause-done c).After-held_at-held in
    revalidate_done (ready here) c.in-Revalidate.is (held_is here) refl

pub nobody_else-requires : goal.nobody_else-requires
nobody_else-requires c = row_there (seen_ready _ _ c.tables-now.ensures c.requires.ready)

pub returns-in-Exclusive-clause-done : goal.returns-in-Exclusive-clause-done
returns-in-Exclusive-clause-done c =
    let here = (goal.at.returns-in-Exclusive-clause-done c).After-held_at-held in
    exclusive_done (ready here) c.in-Exclusive.is (c.nobody_else.ensures ∙ seen_alone _ _ c.tables-now.ensures _ _)
