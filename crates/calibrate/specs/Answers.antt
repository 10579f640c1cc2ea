-- What calibration alone answers, in document 01's terms: the first refusal that applies, its number alone, or the value.
use Rattle.unit_scales.specs.declared.metres.Affine.{Affine}
use Rattle.std.specs.Prelude.{Float, Option}
use Rattle.refusals.specs.Answer.{Answer}
use Rattle.tables.specs.Pools.{Pools, part_of}
use Rattle.tables.specs.Bounds.{chart_bounds}
use Rattle.verdicts.specs.Refuse.{refusal_of}
use Rattle.tables.specs.declared.lent.Samples.{Samples}
use Rattle.answers.specs.Answers.{unless_refused}
use Rattle.geometry_checks.specs.Operations.{calibration_causes}
use Rattle.lent_samples.specs.Samples.{first_scale, lent_affine}

-- the unit that a ratio is near: the first of the numbers lent
unfoldable pub snapped_of : Pools → Samples → Answer (Option Float)
snapped_of p s = unless_refused (refusal_of p (calibration_causes chart_bounds s)) (first_scale (part_of p.reals s.numbers))

-- the metres that the samples' distances stand for
unfoldable pub calibration_of : Pools → Samples → Answer (Option Affine)
calibration_of p s = unless_refused (refusal_of p (calibration_causes chart_bounds s)) (lent_affine p.reals p.dists s)
