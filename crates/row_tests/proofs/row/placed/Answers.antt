-- `row_tests::row::placed` meets its contract.
use borrow.Author.Rules.{rules}
use Rattle.row_tests.specs.Rows.{is_placed}
use Rattle.row_tests.proofs.row.placed.Goals as goal

pub returns : goal.returns
unfolding is_placed
returns c = rw (c.flagged.ensures, c.cell.ensures)
