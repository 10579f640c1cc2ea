-- The first of all is the first from vertex k on.
use Rattle.std.proofs.Common.{◌≡◌, drop}
use Rattle.lengths.specs.Line.{line_of}
use Rattle.nearest.specs.Squares.{squares_of, first_near}
use Rattle.nearest.proofs.vertex.first_near.Given as goal

abbrev pub invariant-loop-k : goal.invariant-loop-k
invariant-loop-k l =
    first_near l.distance 0 (squares_of l.stop (line_of l.line.lat.now l.line.lon.now)) ≡ first_near l.distance l.k (squares_of l.stop (drop l.k (line_of l.line.lat.now l.line.lon.now)))
