use Rattle.std.proofs.Common.{rules, ◌≡◌, refl}
use Rattle.std.specs.Float.{Float, nan, inf, fin, float_is_finite}
use Rattle.column_floats.specs.Real.{is_finite, not_finite_at}
use Rattle.column_floats.proofs.real.not_finite.Goals as goal

same : (x : Float) → float_is_finite x ≡ is_finite x
unfolding float_is_finite is_finite
same nan = refl
same (inf s) = refl
same (fin s m e) = refl

pub returns : goal.returns
unfolding not_finite_at
returns c = c.some_counted.ensures (not_finite_at c.args.s.now) (λ k l b p. search (rules, same))
