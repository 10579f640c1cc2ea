use borrow.Author.Rules.{rules}
use mathlib.Core.Path.{◌∙◌, sym}
use Rattle.update_rows.specs.Updates.{moment_or}
use Rattle.update_rows.proofs.update.moment_or.Goals as goal

pub returns-then-is_set : goal.returns-then-is_set
unfolding moment_or
returns-then-is_set c = rw (sym c.is_set.ensures ∙ c.if-is_set.true) c.moment_at.ensures

pub returns : goal.returns
unfolding moment_or
returns c = rw (sym c.is_set.ensures ∙ c.if-is_set.false) c.moment_at-2.ensures
