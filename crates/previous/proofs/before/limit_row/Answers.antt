-- `previous::before::limit_row` meets its contract.
use borrow.Author.Rules.{rules}
use mathlib.Core.Path.{sym, ◌∙◌}
use Rattle.previous.specs.Before.{limit_row}
use Rattle.previous.proofs.before.limit_row.Goals as goal

pub returns-in-Some : goal.returns-in-Some
unfolding limit_row
returns-in-Some c = rw (sym c.first_target-target.ensures ∙ c.in-Some.is)

pub returns-in-Some-later : goal.returns-in-Some-later
unfolding limit_row
returns-in-Some-later c =
    rw (sym c.first_target-target.ensures ∙ c.in_default.is, sym c.first_from-later.ensures ∙ c.in-Some-later.is)

pub returns : goal.returns
unfolding limit_row
returns c =
    rw (sym c.first_target-target.ensures ∙ c.in_default.is, sym c.first_from-later.ensures ∙ c.in_default-later.is)
