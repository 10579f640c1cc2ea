-- `row_tests::row::with_sequence` meets its contract.

use Rattle.row_tests.proofs.row.with_sequence.Goals as goal

pub returns : goal.returns
returns c = rw c.cell.ensures
