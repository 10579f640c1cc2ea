-- the last of all is the last of the rows that are left
use Rattle.std.proofs.Common.{◌≡◌, ◌-◌}
use Rattle.row_tests.specs.Rows.{last_row, has_sequence}
use Rattle.scheduled_runs.proofs.sequence.last_with.Given as goal

abbrev pub invariant-loop-row : goal.invariant-loop-row
invariant-loop-row l = last_row (has_sequence l.words l.times l.sequence) l.from (l.end - l.from) ≡ last_row (has_sequence l.words l.times l.sequence) l.from (l.row - l.from)
