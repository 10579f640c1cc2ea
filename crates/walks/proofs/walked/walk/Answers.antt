-- `walks::walked::walk` meets its contract.
use lib.Ieee.{of_bits, of_int}
use Rattle.walks.specs.Walk.{leg_walk}
use Rattle.walks.proofs.Between.{at_its_start, at_its_end, between}
use Rattle.walks.proofs.walked.walk.Goals as goal

pub returns-then-frac : goal.returns-then-frac
unfolding leg_walk of_bits of_int
returns-then-frac c = rw c.at_start.ensures (at_its_start _ _ _ _ _ _ _ c.if-frac.true)

pub returns-then-frac-2 : goal.returns-then-frac-2
unfolding leg_walk of_bits of_int
returns-then-frac-2 c = rw c.at_end.ensures (at_its_end _ _ _ _ _ _ _ c.if-frac.false c.if-frac-2.true)

pub inside_leg-requires : goal.inside_leg-requires
inside_leg-requires c = c.requires

pub returns : goal.returns
unfolding leg_walk of_bits of_int
returns c = rw c.inside_leg.ensures (between _ _ _ _ _ _ _ c.if-frac.false c.if-frac-2.false)
