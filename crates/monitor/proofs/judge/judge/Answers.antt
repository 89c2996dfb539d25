-- What a look-up requires follows from what the public call tested and from the operands of the arm's kind. At an arm's end
-- the law of its kind turns what was looked up and the judge's answer into the first of its needs to fail. The arms that read a
-- word come first.
use Rattle.monitor.proofs.Readiness.{cell_there, row_there, own_rights, covers_address, target_rights, place_there, word_there}
use Rattle.monitor.proofs.Judging.{load_judged, store_judged, protect_judged, grant_judged, receive_judged, transfer_judged, invalidate_judged, revalidate_judged, exclusive_judged, fetch_judged, switch_judged}
use mathlib.Core.Path.{refl, sym, ◌∙◌}
use Rattle.rules.specs.Lent.{lent}
use Rattle.rules.specs.Numbers.{state}
use Rattle.monitor.specs.Ready.{Ready}
use Rattle.monitor.proofs.judge.judge.Goals as goal
use Rattle.monitor.proofs.judge.judge.Goals.{After-held_at-held}

ready : (c : After-held_at-held) → Ready (state (lent c.args.tables c.args.memory.now) c.args.registers) c.args.i c.args.c
ready c = c.requires

pub bounds-tables-c-in-Fetch : goal.bounds-tables-c-in-Fetch
bounds-tables-c-in-Fetch c = (cell_there (ready (goal.at.bounds-tables-c-in-Fetch c).After-held_at-held)).lasts

pub whole_word-whole-requires : goal.whole_word-whole-requires
whole_word-whole-requires c =
    let held = (goal.at.whole_word-whole-requires c).After-held_at-held in
    (covers_address (ready held) c.in-Fetch.is).to

pub returns-in-Fetch : goal.returns-in-Fetch
returns-in-Fetch c =
    let held = (goal.at.returns-in-Fetch c).After-held_at-held in
    fetch_judged (ready held) c.held_at-held.ensures c.in-Fetch.is c.whole_word-whole.ensures c.judge_whole.ensures

pub held_at-target-requires : goal.held_at-target-requires
held_at-target-requires c =
    let held = (goal.at.held_at-target-requires c).After-held_at-held in
    target_rights (ready held) c.in-Switch.is

pub bounds-tables-c-in-Switch : goal.bounds-tables-c-in-Switch
bounds-tables-c-in-Switch c = (cell_there (ready (goal.at.bounds-tables-c-in-Switch c).After-held_at-held)).lasts

pub whole_word-whole-requires-in-Switch : goal.whole_word-whole-requires-in-Switch
whole_word-whole-requires-in-Switch c =
    let held = (goal.at.whole_word-whole-requires-in-Switch c).After-held_at-held in
    (covers_address (ready held) c.in-Switch.is).to

pub entry_word-requires : goal.entry_word-requires
entry_word-requires c =
    let held = (goal.at.entry_word-requires c).After-held_at-held in
    let e = c.in-Switch.is in
    record {
      inside = place_there (ready held) e;
      whole_inside = λ w. word_there (ready held) e (sym c.whole_word-whole-in-Switch.ensures ∙ w);
    }

pub returns-in-Switch : goal.returns-in-Switch
returns-in-Switch c =
    let held = (goal.at.returns-in-Switch c).After-held_at-held in
    switch_judged (ready held) c.in-Switch.is c.held_at-target.ensures c.whole_word-whole-in-Switch.ensures c.entry_word.ensures
    c.judge_switch.ensures

pub bounds-tables-c : goal.bounds-tables-c
bounds-tables-c c =
    (cell_there c.requires).marked

pub held_at-held-requires : goal.held_at-held-requires
held_at-held-requires c =
    own_rights c.requires

pub nobody_else-requires : goal.nobody_else-requires
nobody_else-requires c = row_there (ready (goal.at.nobody_else-requires c).After-held_at-held)

pub returns-in-Load : goal.returns-in-Load
returns-in-Load c =
    let held = (goal.at.returns-in-Load c).After-held_at-held in
    load_judged (ready held) c.held_at-held.ensures c.in-Load.is c.judge_right.ensures

pub returns-in-Store : goal.returns-in-Store
returns-in-Store c =
    let held = (goal.at.returns-in-Store c).After-held_at-held in
    store_judged (ready held) c.held_at-held.ensures c.in-Store.is c.judge_right-in-Store.ensures

pub returns-in-Protect : goal.returns-in-Protect
returns-in-Protect c =
    let held = (goal.at.returns-in-Protect c).After-held_at-held in
    protect_judged (ready held) c.held_at-held.ensures c.in-Protect.is c.judge_protect.ensures

pub returns-in-Grant : goal.returns-in-Grant
returns-in-Grant c =
    let held = (goal.at.returns-in-Grant c).After-held_at-held in
    grant_judged (ready held) c.held_at-held.ensures c.in-Grant.is c.judge_right-in-Grant.ensures

pub returns-in-Receive : goal.returns-in-Receive
returns-in-Receive c =
    let held = (goal.at.returns-in-Receive c).After-held_at-held in
    receive_judged (ready held) c.in-Receive.is refl c.grant_names.ensures c.judge_receive.ensures

pub returns-in-Transfer : goal.returns-in-Transfer
returns-in-Transfer c =
    let held = (goal.at.returns-in-Transfer c).After-held_at-held in
    transfer_judged (ready held) c.held_at-held.ensures c.in-Transfer.is c.judge_right-in-Transfer.ensures

pub returns-in-Invalidate : goal.returns-in-Invalidate
returns-in-Invalidate c =
    let held = (goal.at.returns-in-Invalidate c).After-held_at-held in
    invalidate_judged (ready held) c.held_at-held.ensures c.in-Invalidate.is c.nobody_else.ensures c.judge_invalidate.ensures

pub returns-in-Revalidate : goal.returns-in-Revalidate
returns-in-Revalidate c =
    let held = (goal.at.returns-in-Revalidate c).After-held_at-held in
    revalidate_judged (ready held) c.held_at-held.ensures c.in-Revalidate.is c.judge_any.ensures

pub returns-in-Exclusive : goal.returns-in-Exclusive
returns-in-Exclusive c =
    let held = (goal.at.returns-in-Exclusive c).After-held_at-held in
    exclusive_judged (ready held) c.held_at-held.ensures c.in-Exclusive.is c.judge_any-in-Exclusive.ensures
