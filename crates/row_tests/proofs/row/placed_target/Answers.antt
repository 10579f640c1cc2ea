-- `row_tests::row::placed_target` meets its contract.
use mathlib.Core.Path.{sym, ◌∙◌}
use Rattle.row_tests.specs.Rows.{placed_target}
use Rattle.row_tests.proofs.row.placed_target.Goals as goal

pub returns-then-placed : goal.returns-then-placed
unfolding placed_target
returns-then-placed c = rw (sym c.placed.ensures ∙ c.if-placed.true, c.is_target.ensures)

pub returns : goal.returns
unfolding placed_target
returns c = rw (sym c.placed.ensures ∙ c.if-placed.false)
