-- The sum is the length over the stretches before vertex k.
use Rattle.std.proofs.Common.{◌≡◌, ◌-◌, ◌≤◌, max}
use Rattle.lengths.specs.Line.{line_of}
use Rattle.line_parts.specs.Part.{length_from}
use Rattle.line_parts.proofs.part.part_length.Given as goal

abbrev pub invariant-loop-k : goal.invariant-loop-k
invariant-loop-k l = record {
  within : l.k ≤ max l.fn.part.first l.fn.part.last;
  sum : l.sum ≡ length_from (line_of l.line.lat.now l.line.lon.now) l.fn.part.first (l.k - l.fn.part.first);
}
