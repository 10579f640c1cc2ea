use mathlib.Core.Path.{refl}
use lib.Ieee.{of_bits}
use Rattle.maths.specs.Trig.{cos_of}
use Rattle.maths.proofs.sine.cos.Goals as goal

pub returns : goal.returns
unfolding cos_of of_bits
returns c = refl
