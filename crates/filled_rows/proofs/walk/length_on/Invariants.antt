-- m is the length to vertex k
use Rattle.std.proofs.Common.{◌≡◌, ◌≤◌}
use Rattle.lengths.specs.Line.{line_of}
use Rattle.running_lengths.specs.Length.{length_to}
use Rattle.filled_rows.proofs.walk.length_on.Given as goal

abbrev pub invariant-loop-k : goal.invariant-loop-k
invariant-loop-k l = l.m ≡ length_to (line_of l.line.lat.now l.line.lon.now) l.k
