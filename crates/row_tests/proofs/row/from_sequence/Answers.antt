-- `row_tests::row::from_sequence` meets its contract.
use Rattle.row_tests.proofs.Rows.{above_zero}
use Rattle.row_tests.specs.Rows.{is_from}
use Rattle.row_tests.proofs.row.from_sequence.Goals as goal

pub returns-then-sequence-eq0 : goal.returns-then-sequence-eq0
unfolding is_from
returns-then-sequence-eq0 c = rw c.if-sequence-eq0.true

pub returns : goal.returns
unfolding is_from
returns c = rw (above_zero _ c.if-sequence-eq0.false, c.cell.ensures)
