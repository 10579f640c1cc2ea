use Rattle.std.proofs.Common.{sym, ap, ◌∙◌}
use Rattle.ids.proofs.Search.{first_hit}
use Rattle.courses.specs.Course.{row_after}
use Rattle.previous.proofs.search.first_from.Goals as goal

pub returns-then-from_sequence : goal.returns-then-from_sequence
returns-then-from_sequence c = ap (row_after c.args.from) (first_hit _ c.args.n c.loop-k.k c.loop-k-test.true (sym c.from_sequence.ensures ∙ c.if-from_sequence.true) c.loop-k.invariant)
