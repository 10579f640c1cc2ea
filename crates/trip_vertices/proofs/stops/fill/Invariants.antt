-- the words so far are written, and the rest are those from the cursor on
use Rattle.lengths.specs.Line.{line_of}
use Rattle.trip_rows.specs.Rows.{row_position}
use Rattle.trip_vertices.proofs.Writing.{Filled}
use Rattle.trip_vertices.proofs.stops.fill.Given as goal

abbrev pub invariant-loop-k : goal.invariant-loop-k
invariant-loop-k l = Filled (line_of l.line.lat.now l.line.lon.now) (row_position l.lent.bytes.now l.lent.words.now l.lent.reals.now l.stops l.calls) l.first l.n l.initial.out l.out l.at l.k
