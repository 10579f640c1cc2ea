use Rattle.std.proofs.Common.{sym, ap, ◌∙◌, eq-eqb}
use Rattle.ids.proofs.Search.{first_hit}
use Rattle.courses.specs.Course.{row_after}
use Rattle.seq_distances.proofs.dist.seq_row.Goals as goal

pub returns-then-cell-sequence : goal.returns-then-cell-sequence
returns-then-cell-sequence c = ap (row_after c.args.from) (first_hit _ c.args.n c.loop-k.k c.loop-k-test.true (eq-eqb _ _ (sym c.cell.ensures ∙ c.if-cell-sequence.true)) c.loop-k.invariant)
