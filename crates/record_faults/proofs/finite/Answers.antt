use Rattle.std.proofs.Common.{◌≡◌, refl, ◌∙◌}
use Rattle.std.specs.Float.{Float, nan, inf, fin, float_is_finite}
use Rattle.column_floats.specs.Real.{is_finite}
use Rattle.record_faults.proofs.finite.Goals as goal

same : (x : Float) → float_is_finite x ≡ is_finite x
unfolding float_is_finite is_finite
same nan = refl
same (inf s) = refl
same (fin s m e) = refl

pub returns : goal.returns
returns c = c.is_finite.ensures.value ∙ same c.args.x
