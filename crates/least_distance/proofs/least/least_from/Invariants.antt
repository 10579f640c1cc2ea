-- The least of the vertices from k on is found.
use Rattle.std.proofs.Common.{◌≡◌, ◌≤◌, min, length}
use Rattle.lengths.specs.Line.{line_of}
use Rattle.reach.specs.Reach.{Beyond}
use Rattle.least_distance.proofs.Backward.{least_from}
use Rattle.least_distance.proofs.least.least_from.Given as goal

abbrev pub invariant-loop-k : goal.invariant-loop-k
invariant-loop-k l = record {
  above : min l.at (length (line_of l.line.lat.now l.line.lon.now)) ≤ l.k;
  best : l.least.best ≡ least_from l.stop (line_of l.line.lat.now l.line.lon.now) l.k;
  beyond : Beyond l.least.best l.least.limit;
}
