-- `chain_spots::drawing::inside` meets its contract.
use lib.Ieee.{of_bits, of_int}
use Rattle.routes.specs.Route.{inside_of}
use Rattle.chain_spots.proofs.drawing.inside.Goals as goal

pub returns-then-route : goal.returns-then-route
unfolding inside_of of_bits of_int
returns-then-route c = rw c.if-route.true

pub returns : goal.returns
unfolding inside_of of_bits of_int
returns c = rw c.if-route.false c.stretch_of.ensures
