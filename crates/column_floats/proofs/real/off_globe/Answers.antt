use Rattle.std.proofs.Common.{rules, ap, ◌∙◌}
use Rattle.columns.specs.Rows.{some}
use Rattle.column_floats.specs.Real.{off_globe_at}
use Rattle.column_floats.proofs.real.off_globe.Goals as goal

pub returns : goal.returns
unfolding off_globe_at
returns c = c.some_counted.ensures (off_globe_at c.args.lat.now c.args.lon.now) (λ k l b p. search rules) ∙ ap (some _) c.min-rows.ensures
