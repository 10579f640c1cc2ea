use Rattle.std.proofs.Common.{sym, ap, ◌∙◌}
use Rattle.ids.proofs.Search.{first_hit}
use Rattle.courses.specs.Course.{row_after}
use Rattle.sample_rows.proofs.rows.first_sample.Goals as goal

pub returns-then-is_sample : goal.returns-then-is_sample
returns-then-is_sample c = ap (row_after c.args.from) (first_hit _ c.args.n c.loop-k.k c.loop-k-test.true (sym c.is_sample.ensures ∙ c.if-is_sample.true) c.loop-k.invariant)
