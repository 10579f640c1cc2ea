-- The vertices up to k are seen, and the least of all is that of the best so far and the distances from vertex k on.
use Rattle.std.proofs.Common.{◌≡◌, ◌-◌, ◌≤◌, drop}
use mathlib.Core.List.{foldl}
use Rattle.ieee.specs.Number.{least_of}
use Rattle.lengths.specs.Line.{line_of}
use Rattle.reach.specs.Reach.{Beyond}
use Rattle.vertices_within.specs.Near.{distance_of, distances_of, least_in}
use Rattle.distance_sweep.specs.Nearest.{bound_of, Seen}
use Rattle.distance_sweep.proofs.nearest.sweep.Given as goal

abbrev pub invariant-loop-k : goal.invariant-loop-k
invariant-loop-k l = record {
  within : l.k - l.at ≤ l.n - l.at;
  seen : Seen (distance_of l.stop (line_of l.line.lat.now l.line.lon.now)) l.at l.k l.near;
  least : least_in (distances_of l.stop (drop l.at (line_of l.line.lat.now l.line.lon.now))) ≡ foldl least_of l.near.best (distances_of l.stop (drop l.k (line_of l.line.lat.now l.line.lon.now)));
  beyond : Beyond (bound_of l.near) l.near.limit;
}
