use borrow.Author.Rules.{rules}
use mathlib.Core.Path.{◌∙◌, sym}
use Rattle.update_rows.specs.Updates.{is_timed}
use Rattle.update_rows.proofs.update.is_timed.Goals as goal

pub returns-then-is_set : goal.returns-then-is_set
unfolding is_timed
returns-then-is_set c = rw (sym c.is_set.ensures ∙ c.if-is_set.true)

pub returns : goal.returns
unfolding is_timed
returns c = rw (sym c.is_set.ensures ∙ c.if-is_set.false) c.is_set-2.ensures
