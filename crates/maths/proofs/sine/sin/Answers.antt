use mathlib.Core.Path.{refl}
use lib.Ieee.{of_bits}
use Rattle.maths.specs.Trig.{sin_of}
use Rattle.maths.proofs.sine.sin.Goals as goal

pub returns : goal.returns
unfolding sin_of of_bits
returns c = refl
