use Rattle.std.proofs.Common.{◌≡◌}
use Rattle.records.specs.Records.{stop_col}
use Rattle.records.specs.Rows.{map_to}
use Rattle.records.proofs.stops_of.Given as goal

abbrev pub invariant-loop-i : goal.invariant-loop-i
invariant-loop-i l = l.at ≡ map_to (stop_col l.r) l.i l.fn.at
