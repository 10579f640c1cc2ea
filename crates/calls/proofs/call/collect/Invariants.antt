-- `calls::call::collect` meets its contract. The loop's invariant: the calls of the rows so far are written.
use Rattle.calls.specs.Calls.{is_call, stop_of_call}
use Rattle.row_lists.proofs.Writing.{Collected}
use Rattle.calls.proofs.call.collect.Given as goal

abbrev pub invariant-loop-k : goal.invariant-loop-k
invariant-loop-k l = Collected (is_call l.lent.bytes.now l.lent.words.now l.v) (stop_of_call l.lent.bytes.now l.lent.words.now l.v) l.initial.rows l.initial.stops l.rows l.stops l.n l.k
