-- None from vertex k on is near enough.
use Rattle.std.proofs.Common.{◌≤◌, min, length}
use Rattle.lengths.specs.Line.{line_of}
use Rattle.vertices_within.proofs.Search.{NoneFrom}
use Rattle.vertices_within.proofs.near.last_within.Given as goal

abbrev pub invariant-loop-k : goal.invariant-loop-k
invariant-loop-k l = record {
  above : min l.from (length (line_of l.line.lat.now l.line.lon.now)) ≤ l.k;
  none : NoneFrom l.stop (line_of l.line.lat.now l.line.lon.now) l.most l.k;
}
