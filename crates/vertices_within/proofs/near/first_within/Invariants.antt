-- The first of all is the first from vertex k on.
use Rattle.std.proofs.Common.{◌≡◌, drop}
use Rattle.lengths.specs.Line.{line_of}
use Rattle.vertices_within.specs.Near.{distances_of, first_within}
use Rattle.vertices_within.proofs.near.first_within.Given as goal

abbrev pub invariant-loop-k : goal.invariant-loop-k
invariant-loop-k l =
    first_within l.most l.from (distances_of l.stop (drop l.from (line_of l.line.lat.now l.line.lon.now))) ≡ first_within l.most l.k (distances_of l.stop (drop l.k (line_of l.line.lat.now l.line.lon.now)))
