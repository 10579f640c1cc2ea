-- The sum is the length to vertex k, and the first stretch that is met of all is that from vertex k on.
use Rattle.std.proofs.Common.{◌≡◌, ◌-◌}
use Rattle.lengths.specs.Line.{line_of}
use Rattle.line_parts.specs.Part.{length_from}
use Rattle.first_stretch.specs.Search.{stretch_at}
use Rattle.first_stretch.proofs.Turns.{met_from}
use Rattle.first_stretch.proofs.search.stretch_at.Given as goal

abbrev pub invariant-loop-k : goal.invariant-loop-k
invariant-loop-k l = record {
  sum : l.sum ≡ length_from (line_of l.line.lat.now l.line.lon.now) l.fn.part.first (l.k - l.fn.part.first);
  met : stretch_at (line_of l.line.lat.now l.line.lon.now) l.fn.part l.tolerance l.target ≡ met_from (line_of l.line.lat.now l.line.lon.now) l.fn.part l.tolerance l.target l.k;
}
