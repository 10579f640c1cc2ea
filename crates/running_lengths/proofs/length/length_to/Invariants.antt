-- The sum is the length to vertex i.
use Rattle.std.proofs.Common.{◌≡◌}
use Rattle.lengths.specs.Line.{line_of}
use Rattle.running_lengths.specs.Length.{length_to}
use Rattle.running_lengths.proofs.length.length_to.Given as goal

abbrev pub invariant-loop-i : goal.invariant-loop-i
invariant-loop-i l = l.sum ≡ length_to (line_of l.line.lat.now l.line.lon.now) l.i
