use Rattle.std.proofs.Common.{◌∙◌}
use lib.Ieee.{div, of_bits}
use Rattle.courses.proofs.read.dist.Goals as goal

pub returns : goal.returns
unfolding div of_bits
returns c = c.f32_to_f64_with_nan.ensures ∙ c.row_or.ensures
