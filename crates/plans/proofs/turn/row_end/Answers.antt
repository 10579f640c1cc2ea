-- `plans::turn::row_end` meets its contract.
use borrow.Author.Rules.{rules}
use Rattle.plans.proofs.turn.row_end.Goals as goal

pub returns : goal.returns
returns c = rw (c.stop_point.ensures, c.cell-2.ensures, c.cell.ensures)
