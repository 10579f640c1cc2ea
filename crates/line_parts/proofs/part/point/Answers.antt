-- A line has no vertex past its last.
use Rattle.std.proofs.Common.{sym, arith}
use Rattle.std.specs.Float.Ieee.{of_bits}
use Rattle.lengths.specs.Line.{line_of}
use Rattle.line_parts.proofs.Sums.{no_vertex}
use Rattle.line_parts.proofs.part.point.Goals as goal

pub returns-else-k-vertices : goal.returns-else-k-vertices
unfolding of_bits
returns-else-k-vertices c = sym (no_vertex (line_of c.args.line.lat.now c.args.line.lon.now) c.args.k (omega (arith, c.vertices.ensures)))
