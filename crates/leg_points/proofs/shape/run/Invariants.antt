-- `leg_points::shape::run` meets its contract. The loop's invariant: what is left of the rows leads the cursor to where all of them do.
use borrow.Author.Rules.{rules}
use Prim.Native.Nat.{◌+◌, ◌-◌}
use native.Mathlib.Omega.{arith}
use mathlib.Core.Path.{◌∙◌}
use Rattle.lengths.specs.Line.{line_of}
use Rattle.trip_rows.specs.Rows.{row_position}
use Rattle.leg_points.proofs.Positions.{Run, starts, goes_on, ends}
use Rattle.leg_points.proofs.shape.run.Given as goal

abbrev pub invariant-loop-k : goal.invariant-loop-k
invariant-loop-k l = Run (line_of l.line.lat.now l.line.lon.now) (row_position l.lent.bytes.now l.lent.words.now l.lent.reals.now l.leg.stops l.leg.calls) l.at (l.leg.first + l.skip) l.n l.cursor.at l.k
