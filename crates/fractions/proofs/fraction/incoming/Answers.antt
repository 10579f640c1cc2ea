-- `fractions::fraction::incoming` meets its contract: the literal is the nearest float to 92 / 100.
use Rattle.std.proofs.Common.{refl}
use lib.Ieee.{of_bits, lt}
use Rattle.fractions.specs.Fraction.{nearly_over}
use Rattle.fractions.proofs.fraction.incoming.Goals as goal

pub returns : goal.returns
unfolding of_bits nearly_over lt
returns c = refl
