use borrow.Author.Rules.{rules}
use Rattle.stop_digits.specs.Stops.{marked_digits}
use Rattle.stop_digits.proofs.stop.marked_digits.Goals as goal

pub returns : goal.returns
unfolding marked_digits
returns c = rw (c.if_long.ensures, c.digits_first.ensures, c.past_place.ensures, c.first_place.ensures)
