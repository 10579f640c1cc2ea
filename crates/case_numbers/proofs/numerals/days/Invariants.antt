-- A bit for each of seven days.
use Rattle.std.proofs.Common.{◌<◌}
use Rattle.case_numbers.proofs.numerals.days.Given as goal

abbrev pub invariant-loop-b : goal.invariant-loop-b
invariant-loop-b l = l.bits < 128
