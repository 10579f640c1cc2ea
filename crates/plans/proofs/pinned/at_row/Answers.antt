-- `plans::pinned::at_row` meets its contract.
use borrow.Author.Rules.{rules}
use Rattle.plans.proofs.pinned.at_row.Goals as goal

pub returns : goal.returns
returns c = rw (c.in-Some.is, c.at_stop.ensures, c.cell.ensures, c.stop_point.ensures)
