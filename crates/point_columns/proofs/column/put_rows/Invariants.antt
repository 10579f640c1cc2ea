-- `point_columns::column::put_rows` meets its contract. The loop's invariant: the rows so far are written.
use lib.ListN.{length}
use mathlib.Core.Path.{◌≡◌}
use Rattle.point_columns.proofs.Writing.{begun}
use Rattle.point_columns.proofs.column.put_rows.Given as goal

abbrev pub invariant-loop-k : goal.invariant-loop-k
invariant-loop-k l = (length l.out ≡ length l.initial.out) × (l.out ≡ begun l.rows l.initial.out l.k)
