use Rattle.std.proofs.Common.{rules}
use Rattle.std.specs.Float.Ieee.{of_bits, of_int}
use Rattle.stop_routes.specs.Routed.{roundabout}
use Rattle.stop_routes.proofs.between.is_roundabout.Goals as goal

pub returns-then-total-max_of : goal.returns-then-total-max_of
unfolding roundabout of_bits of_int
returns-then-total-max_of c = search rules

pub returns-else-total-max_of : goal.returns-else-total-max_of
unfolding roundabout of_bits of_int
returns-else-total-max_of c = search rules
