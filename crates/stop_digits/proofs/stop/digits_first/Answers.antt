use borrow.Author.Rules.{rules}
use Rattle.stop_digits.specs.Stops.{digits_first}
use Rattle.stop_digits.proofs.stop.digits_first.Goals as goal

pub returns : goal.returns
unfolding digits_first
returns c = rw (c.first.ensures, c.digit_run.ensures)
