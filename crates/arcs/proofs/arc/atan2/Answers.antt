-- NaN where an argument is NaN, 0 where both are zero, and else the angle of the sizes.
use Rattle.std.proofs.Common.{arith}
use Rattle.std.proofs.lemmas.Grind.{common_steps}
use lib.Ieee.{of_bits}
use Rattle.arcs.proofs.Unordered.{atan2_of_is}
use Rattle.arcs.proofs.arc.atan2.Goals as goal

pub returns-then-is_nan-2 : goal.returns-then-is_nan-2
unfolding of_bits
returns-then-is_nan-2 c = rw atan2_of_is (grind (arith, common_steps))

pub returns-then-x : goal.returns-then-x
returns-then-x c = rw atan2_of_is (grind (arith, common_steps))

pub returns-else-y : goal.returns-else-y
returns-else-y c = rw atan2_of_is (grind (arith, common_steps))
