use mathlib.Core.Path.{◌∙◌, sym}
use Rattle.trip_tails.specs.Tails.{tail_row}
use Rattle.trip_tails.proofs.tail.is_row.Goals as goal

pub returns-in-Some : goal.returns-in-Some
unfolding tail_row
returns-in-Some c = simp (sym (rw c.id.ensures at c.has_tail.ensures) ∙ c.if-has_tail.true, c.in-Some.is, c.cell.ensures)

pub returns-in-None : goal.returns-in-None
unfolding tail_row
returns-in-None c = simp (sym (rw c.id.ensures at c.has_tail.ensures) ∙ c.if-has_tail.true, c.in-None.is)

pub returns : goal.returns
unfolding tail_row
returns c = simp (sym (rw c.id.ensures at c.has_tail.ensures) ∙ c.if-has_tail.false)
