-- `update_times::moment::fill` meets its contract. The loop's invariant: the moments of the rows so far are written.
use Rattle.update_rows.specs.Updates.{moment_or}
use Rattle.row_lists.proofs.Writing.{Filled}
use Rattle.update_times.proofs.moment.fill.Given as goal

abbrev pub invariant-loop-k : goal.invariant-loop-k
invariant-loop-k l = Filled (moment_or l.lent.bytes.now l.lent.times.now l.has l.own l.other) l.rows l.initial.out l.out l.k
