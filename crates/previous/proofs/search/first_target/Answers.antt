use Rattle.std.proofs.Common.{sym, ap, ◌∙◌}
use Rattle.ids.proofs.Search.{first_hit}
use Rattle.courses.specs.Course.{row_after}
use Rattle.previous.proofs.search.first_target.Goals as goal

pub returns-then-placed_target : goal.returns-then-placed_target
returns-then-placed_target c = ap (row_after c.args.from) (first_hit _ c.args.n c.loop-k.k c.loop-k-test.true (sym c.placed_target.ensures ∙ c.if-placed_target.true) c.loop-k.invariant)
