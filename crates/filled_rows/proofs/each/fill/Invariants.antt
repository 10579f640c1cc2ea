-- what is written so far, and the rest filled from the cursor on, are all rows filled
use Rattle.lengths.specs.Line.{line_of}
use Rattle.trip_rows.specs.Rows.{row_position}
use Rattle.filled_rows.proofs.Walking.{Filled}
use Rattle.filled_rows.proofs.each.fill.Given as goal

abbrev pub invariant-loop-k : goal.invariant-loop-k
invariant-loop-k l =
    Filled (line_of l.line.lat.now l.line.lon.now) l.unit (row_position l.lent.bytes.now l.lent.words.now l.lent.reals.now l.stops l.calls) l.first l.n l.initial.dist l.initial.measured l.dist l.measured l.at l.sum l.k
