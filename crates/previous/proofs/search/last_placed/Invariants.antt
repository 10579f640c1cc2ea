-- the last of all is the last of the rows that are left
use Rattle.std.proofs.Common.{◌≡◌, ◌-◌}
use Rattle.row_tests.specs.Rows.{last_row, is_placed}
use Rattle.previous.proofs.search.last_placed.Given as goal

abbrev pub invariant-loop-row : goal.invariant-loop-row
invariant-loop-row l = last_row (is_placed l.lent.bytes.now l.lent.words.now l.times l.stops) l.from (l.end - l.from) ≡ last_row (is_placed l.lent.bytes.now l.lent.words.now l.times l.stops) l.from (l.row - l.from)
