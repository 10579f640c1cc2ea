use lib.Ieee.{of_bits, of_int}
use Rattle.sphere_lengths.proofs.haversines.way.Goals as goal

pub returns : goal.returns
unfolding of_bits of_int
returns c = rw (c.asin.ensures, c.root.ensures)
