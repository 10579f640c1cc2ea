use borrow.Author.Rules.{rules}
use Rattle.stop_digits.specs.Stops.{digits_last}
use Rattle.stop_digits.proofs.stop.digits_last.Goals as goal

pub returns : goal.returns
unfolding digits_last
returns c = rw (c.if_long.ensures, c.from.ensures, c.digits_at.ensures)
