-- `sailing_rows::row::route` meets its contract.
use borrow.Author.Rules.{rules}
use mathlib.Core.Path.{◌∙◌, sym}
use Rattle.sailing_rows.specs.Rows.{route_of}
use Rattle.sailing_rows.proofs.row.route.Goals as goal

pub returns-then-is_set : goal.returns-then-is_set
unfolding route_of
returns-then-is_set c = rw (sym c.is_set.ensures ∙ c.if-is_set.true) c.id.ensures

pub returns : goal.returns
unfolding route_of
returns c = rw (sym c.is_set.ensures ∙ c.if-is_set.false)
