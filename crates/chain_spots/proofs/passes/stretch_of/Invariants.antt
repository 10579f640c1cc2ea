-- It stands at vertex k, the sum is the length to it, and the first stretch that is met of all is that from there on.
use Rattle.std.proofs.Common.{◌≡◌, ◌-◌}
use Rattle.line_parts.specs.Part.{length_from}
use Rattle.first_stretch.specs.Search.{stretch_at}
use Rattle.first_stretch.proofs.Turns.{met_from}
use Rattle.routes.specs.Route.{nano}
use Rattle.chain_vertices.specs.Walk.{points_of, StandsAt}
use Rattle.chain_spots.proofs.passes.stretch_of.Given as goal

abbrev pub invariant-loop-k : goal.invariant-loop-k
invariant-loop-k l =
    let line = points_of l.chain in
    record {
      stands : StandsAt l.chain l.here l.k;
      sum : l.sum ≡ length_from line l.fn.part.first (l.k - l.fn.part.first);
      met : stretch_at line l.fn.part nano l.target ≡ met_from line l.fn.part nano l.target l.k;
    }
