use Rattle.std.proofs.Common.{sym, ◌∙◌}
use lib.Ieee.{div, of_bits}
use Rattle.seq_distances.proofs.dist.row_dist.Goals as goal

pub returns-then-flagged : goal.returns-then-flagged
unfolding div of_bits
returns-then-flagged c = rw (c.in-Some.is, sym c.flagged.ensures ∙ c.if-flagged.true, c.row_or.ensures)
