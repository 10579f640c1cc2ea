-- `row_tests::row::is_target` meets its contract.
use borrow.Author.Rules.{rules}
use borrow.Author.Tests.{eq-eqb, ne_eqb}
use Rattle.row_tests.specs.Rows.{is_target}
use Rattle.row_tests.proofs.row.is_target.Goals as goal

pub returns-then-at-stop : goal.returns-then-at-stop
unfolding is_target
returns-then-at-stop c = rw (← c.cell-at.ensures, eq-eqb _ _ c.if-at-stop.true)

pub returns-then-cell-sequence : goal.returns-then-cell-sequence
unfolding is_target
returns-then-cell-sequence c =
    rw (← c.cell-at.ensures, ne_eqb _ _ c.if-at-stop.false, ← c.cell.ensures, eq-eqb _ _ c.if-cell-sequence.true)

pub returns : goal.returns
unfolding is_target
returns c =
    rw (← c.cell-at.ensures, ne_eqb _ _ c.if-at-stop.false, ← c.cell.ensures, ne_eqb _ _ c.if-cell-sequence.false) c.named.ensures
