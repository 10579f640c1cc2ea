use lib.Ieee.{div, of_bits}
use Rattle.trip_rows.proofs.stop.real.Goals as goal

pub returns : goal.returns
unfolding div of_bits
returns c = c.row_or.ensures
