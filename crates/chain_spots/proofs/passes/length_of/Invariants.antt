-- It stands at vertex k, and the sum is the length to it.
use Rattle.std.proofs.Common.{◌≡◌, ◌-◌, ◌≤◌, max}
use Rattle.line_parts.specs.Part.{length_from}
use Rattle.chain_vertices.specs.Walk.{points_of, StandsAt}
use Rattle.chain_spots.proofs.passes.length_of.Given as goal

abbrev pub invariant-loop-k : goal.invariant-loop-k
invariant-loop-k l = record {
  within : l.k ≤ max l.fn.part.first l.fn.part.last;
  stands : StandsAt l.chain l.here l.k;
  sum : l.sum ≡ length_from (points_of l.chain) l.fn.part.first (l.k - l.fn.part.first);
}
