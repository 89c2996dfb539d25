-- A run whose path the checker computes: on document 01's listing division 0 grants read on the first cell to division 2,
-- switches to it, and division 2 receives. Then division 2 holds read by a gift of division 0, which held it from the start.
-- Assumes nothing.
use mathlib.Core.Path.{◌≡◌, refl}
use mathlib.Core.List.{List, [], ◌∷◌}
use Rattle.rules.specs.Below.{every, count, lowest_from, lowest}
use Rattle.rules.specs.Numbers.{in_bounds, right_lengths, part_of, larger, join}
use Rattle.rules.specs.Sound.{sound_grant, holders, after_cell_before, sound_cell, sound_tables, lowest_unsound}
use Rattle.rules.specs.Refusals.{first_failing, answered, well_sized, known_divisions}
use Rattle.rules.specs.Instructions.{no_operands, byte_operand, division_operand, rights_operand, grant_operands, source_operand, formed, covers, covering_cell, covered, valid, place, word_in, whole_word, grant_names, other_holder, nobody_else, needs, effect, registers_after, value_of}
use Rattle.rules.specs.Calls.{kind_checks, checks, done_at, done, performed}
use Rattle.rules.specs.Bench.{start}
use Rattle.rules.specs.Calls.{Action, instruction}
use Rattle.history.specs.History.{to_read, held, gift}
use Rattle.history.specs.Shown.{has, holds_in, offers_in, deed_of, formed_deed, deed_in, is_accepted, takes_by, makes_by, source_of, shown}
use Rattle.history.proofs.Path.{held_path}
use Rattle.history.proofs.Sequences.{steps}

-- grant, switch, receive
abbrev pub passed_on : List Action
passed_on = instruction 5 4096 2 1 ∷ instruction 3 8192 2 0 ∷ instruction 6 4096 0 0 ∷ []

-- division 2 gained read at step 3, from the grant that division 0 made at step 1, which held read since the start
pub passed_path : held_path (shown (steps passed_on) start) 0 to_read 3 2 ≡ held 2 3 ∷ gift 0 1 ∷ held 0 0 ∷ []
unfolding held_path has holds_in offers_in deed_of formed_deed deed_in is_accepted takes_by makes_by source_of every count lowest_from lowest in_bounds right_lengths part_of larger join sound_grant holders after_cell_before sound_cell sound_tables lowest_unsound first_failing answered well_sized known_divisions no_operands byte_operand division_operand rights_operand grant_operands source_operand formed covers covering_cell covered valid place word_in whole_word grant_names other_holder nobody_else needs effect registers_after value_of kind_checks checks done_at done performed
passed_path = refl
