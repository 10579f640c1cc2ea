-- `estimate_told::answer::place_told` meets its contract.
use lib.Ieee.{of_bits}
use borrow.Author.Rules.{rules}
use Rattle.estimate_told.proofs.answer.place_told.Goals as goal

pub returns-in-Call : goal.returns-in-Call
unfolding of_bits
returns-in-Call c = rw c.in-Call.is

pub returns-in-Start : goal.returns-in-Start
unfolding of_bits
returns-in-Start c = rw c.in-Start.is

pub returns-in-End : goal.returns-in-End
unfolding of_bits
returns-in-End c = rw c.in-End.is

pub returns-in-Stretch : goal.returns-in-Stretch
returns-in-Stretch c = rw (c.in-Stretch.is, c.way_number.ensures, c.line_number.ensures)

pub returns-in-NoStretch : goal.returns-in-NoStretch
unfolding of_bits
returns-in-NoStretch c = rw (c.in-NoStretch.is, c.way_number-in-NoStretch.ensures, c.line_number-in-NoStretch.ensures)
