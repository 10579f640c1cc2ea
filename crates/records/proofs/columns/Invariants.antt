use Rattle.std.proofs.Common.{◌≡◌}
use Rattle.records.specs.Records.{dist_col, known_col}
use Rattle.records.specs.Rows.{map_to}
use Rattle.records.proofs.columns.Given as goal

abbrev pub invariant-loop-i : goal.invariant-loop-i
invariant-loop-i l = record { dists : l.dists ≡ map_to (dist_col l.r) l.i l.fn.dists; known : l.known ≡ map_to (known_col l.r) l.i l.fn.known }
