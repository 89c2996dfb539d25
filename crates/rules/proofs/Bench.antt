-- Document 01's bench cases with P hold of the definitions: one theorem over one table. Assumes nothing.
use mathlib.Core.Path.{◌≡◌, refl}
use mathlib.Core.List.{map}
use Rattle.rules.specs.Below.{every, count, lowest_from, lowest}
use Rattle.rules.specs.Numbers.{in_bounds, right_lengths, part_of, larger, join}
use Rattle.rules.specs.Sound.{sound_grant, holders, after_cell_before, sound_cell, sound_tables, lowest_unsound}
use Rattle.rules.specs.Refusals.{first_failing, answered, well_sized, known_divisions}
use Rattle.rules.specs.Instructions.{no_operands, byte_operand, division_operand, rights_operand, grant_operands, source_operand, formed, covers, covering_cell, covered, valid, place, word_in, whole_word, grant_names, other_holder, nobody_else, needs, effect, registers_after, value_of}
use Rattle.rules.specs.Calls.{kind_checks, checks, done_at, done, performed}
use Rattle.rules.specs.Bench.{bench_cases}

-- what each case's call answers is its outcome: number, value, part and all that is lent and held afterwards
pub bench : map (λ k. performed k.before k.call) bench_cases ≡ map (λ k. k.outcome) bench_cases
unfolding every count lowest_from lowest in_bounds right_lengths part_of larger join sound_grant holders after_cell_before sound_cell sound_tables lowest_unsound first_failing answered well_sized known_divisions no_operands byte_operand division_operand rights_operand grant_operands source_operand formed covers covering_cell covered valid place word_in whole_word grant_names other_holder nobody_else needs effect registers_after value_of kind_checks checks done_at done performed
bench = refl
