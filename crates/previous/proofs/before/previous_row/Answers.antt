-- `previous::before::previous_row` meets its contract.
use borrow.Author.Rules.{rules}
use Rattle.previous.specs.Before.{row_before}
use Rattle.previous.proofs.before.previous_row.Goals as goal

pub returns-in_default : goal.returns-in_default
returns-in_default c = rw c.in_default.is

pub returns : goal.returns
unfolding row_before
returns c =
    rw (c.in-Some.is, c.last_placed.ensures, c.limit_row-end.ensures, c.cell-n.ensures, c.cell-from.ensures)
