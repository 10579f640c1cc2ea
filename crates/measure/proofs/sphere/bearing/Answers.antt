-- The remainder by a turn of the angle that atan2 gives.
use native.Mathlib.Omega.{arith}
use mathlib.Core.Path.{ap, ◌∙◌}
use lib.Ieee.{of_bits, of_int}
use Rattle.maths.specs.Trig.{degrees_of}
use Rattle.measure.specs.Measure.{bearing_of}
use Rattle.measure.proofs.Turn.{below_is, past_is}
use Rattle.measure.proofs.sphere.bearing.Goals as goal

pub returns-then-turned : goal.returns-then-turned
unfolding bearing_of of_bits of_int
returns-then-turned c = below_is _ _ _ (c.degrees-theta.ensures ∙ ap degrees_of c.atan2.ensures) c.if-turned.true ∙ grind arith

pub returns-else-turned : goal.returns-else-turned
unfolding bearing_of of_bits of_int
returns-else-turned c = past_is _ _ _ (c.degrees-theta.ensures ∙ ap degrees_of c.atan2.ensures) c.if-turned.false ∙ grind arith
