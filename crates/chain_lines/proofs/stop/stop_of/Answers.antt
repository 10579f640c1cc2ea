-- `chain_lines::stop::stop_of` meets its contract.
use borrow.Author.Rules.{rules}
use mathlib.Core.Path.{sym, ◌∙◌}
use Rattle.chain_lines.specs.Stops.{stop_between}
use Rattle.chain_lines.proofs.stop.stop_of.Goals as goal

pub returns-then-is_between : goal.returns-then-is_between
unfolding stop_between
returns-then-is_between c = rw (sym c.is_between.ensures ∙ c.if-is_between.true, c.row_position.ensures)

pub returns : goal.returns
unfolding stop_between
returns c = rw (sym c.is_between.ensures ∙ c.if-is_between.false)
