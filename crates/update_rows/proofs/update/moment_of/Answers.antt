use mir.Facts.{to_z-of_z}
use Rattle.update_rows.proofs.Moments.{below_zero, from_zero, unsigned}
use Rattle.update_rows.proofs.update.moment_of.Goals as goal

pub returns-then-t-lt0 : goal.returns-then-t-lt0
returns-then-t-lt0 c = below_zero c.args.t (simp (to_z-of_z c.ranges.t) at c.if-t-lt0.true)

pub overflow_cast-result : goal.overflow_cast-result
overflow_cast-result c = rw (to_z-of_z c.ranges.t) (unsigned c.args.t (simp (to_z-of_z c.ranges.t) at c.if-t-lt0.false) c.ranges.t)

pub returns : goal.returns
returns c = rw (to_z-of_z c.ranges.t) (from_zero c.args.t (simp (to_z-of_z c.ranges.t) at c.if-t-lt0.false))
