-- Checks 1, 2 and 3 once, and then the list, or every answer filled with their refusal.
use Prim.Native.Nat.{◌≤◌, ◌*◌}
use mathlib.Core.Path.{refl, sym}
use Rattle.std.proofs.Common.{length-take-le}
use native.Mathlib.Omega.{arith}
use lib.ListN.{length}
use Rattle.rules.proofs.Refusing.{some_number}
use Rattle.monitor.proofs.Beginning.{first_begun}
use Rattle.monitor.proofs.Readiness.{seen_first}
use Rattle.monitor.proofs.Running.{room_whole, room_numbers, room_values, ran_as, refused_ran, filled_part}
use Rattle.monitor.proofs.execute_all.Goals as goal
use Rattle.monitor.proofs.execute_all.Goals.{After-room_for-count}

-- the three lists lent beside the tables are long enough for the count
record Room (c : After-room_for-count) : Type 0 where
  whole : 4 * c.room_for-count.result ≤ length c.args.instructions.now
  numbered : c.room_for-count.result ≤ length c.args.numbers.now
  valued : c.room_for-count.result ≤ length c.args.values.now

room : (c : After-room_for-count) → Room c
room c =
    let i = length c.args.instructions.now in
    let n = length c.args.numbers.now in
    let v = length c.args.values.now in
    record {
      whole = omega (arith, c.room_for-count.ensures, room_whole i n v);
      numbered = omega (arith, c.room_for-count.ensures, room_numbers i n v);
      valued = omega (arith, c.room_for-count.ensures, room_values i n v);
    }

pub run_list-requires : goal.run_list-requires
run_list-requires c =
    let r = room (goal.at.run_list-requires c).After-room_for-count in
    record {
      begun = first_begun _ _ (seen_first _ _ c.tables.ensures c.args.memory.now c.args.registers c.in-Ok.ensures) refl;
      room = (r.whole, (r.numbered, r.valued));
    }

pub slice_bounds-fill-end : goal.slice_bounds-fill-end
slice_bounds-fill-end c = (room (goal.at.slice_bounds-fill-end c).After-room_for-count).numbered

pub slice_bounds-fill-end-in-Err : goal.slice_bounds-fill-end-in-Err
slice_bounds-fill-end-in-Err c = sym (length-take-le _ _ (room (goal.at.slice_bounds-fill-end-in-Err c).After-room_for-count).numbered)

pub slice_bounds-fill-end-in-Err-2 : goal.slice_bounds-fill-end-in-Err-2
slice_bounds-fill-end-in-Err-2 c = (room (goal.at.slice_bounds-fill-end-in-Err-2 c).After-room_for-count).valued

pub slice_bounds-fill-end-in-Err-3 : goal.slice_bounds-fill-end-in-Err-3
slice_bounds-fill-end-in-Err-3 c = sym (length-take-le _ _ (room (goal.at.slice_bounds-fill-end-in-Err-3 c).After-room_for-count).valued)

pub returns-in-Ok-clause-answers : goal.returns-in-Ok-clause-answers
returns-in-Ok-clause-answers c =
    ran_as _ c.args.instructions.now c.args.numbers.now c.args.values.now c.room_for-count.ensures c.run_list.ensures.answers

pub returns-in-Err-clause-answers : goal.returns-in-Err-clause-answers
returns-in-Err-clause-answers c =
    let l = c.args.instructions.now in
    let k = c.room_for-count.result in
    let r = room (goal.at.returns-in-Err-clause-answers c).After-room_for-count in
    let first = seen_first _ _ c.tables.ensures c.args.memory.now c.args.registers c.in-Err.ensures in
    let ns = filled_part c.number.result k c.args.numbers.now c.fill.new.self r.numbered (c.fill.ensures.after (λ y e. e)) in
    let vs = filled_part c.value.result k c.args.values.now c.fill-in-Err.new.self r.valued (c.fill-in-Err.ensures.after (λ y e. e)) in
    ran_as _ l c.args.numbers.now c.args.values.now c.room_for-count.ensures
    (refused_ran _ _ first (some_number c.in-Err.refusal) l _ c.args.numbers.now c.args.values.now (rw (← c.number.ensures) ns) (rw (← c.value.ensures) vs))
