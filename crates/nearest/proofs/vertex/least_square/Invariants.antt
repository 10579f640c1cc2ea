-- The least of all is that of the best so far and the squares from vertex k on.
use Rattle.std.proofs.Common.{◌≡◌, drop}
use mathlib.Core.List.{foldl}
use Rattle.ieee.specs.Number.{least_of}
use Rattle.lengths.specs.Line.{line_of}
use Rattle.nearest.specs.Squares.{squares_of, least_in}
use Rattle.nearest.proofs.vertex.least_square.Given as goal

abbrev pub invariant-loop-k : goal.invariant-loop-k
invariant-loop-k l =
    least_in (squares_of l.stop (line_of l.line.lat.now l.line.lon.now)) ≡ foldl least_of l.best (squares_of l.stop (drop l.k (line_of l.line.lat.now l.line.lon.now)))
