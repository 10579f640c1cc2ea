use Rattle.std.proofs.Common.{◌≡◌}
use Rattle.records.specs.Records.{fill_row}
use Rattle.records.specs.Rows.{map_to}
use Rattle.records.proofs.fill.Given as goal

abbrev pub invariant-loop-i : goal.invariant-loop-i
invariant-loop-i l = l.r ≡ map_to (fill_row l.dists l.known) l.i l.fn.r
