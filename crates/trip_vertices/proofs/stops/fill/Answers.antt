use Rattle.std.proofs.Common.{◌∙◌, arith}
use Rattle.trip_vertices.proofs.Writing.{starts, goes_on, ends}
use Rattle.trip_vertices.proofs.stops.fill.Goals as goal

pub loop-k-init : goal.loop-k-init
loop-k-init c = starts _ _ _ _ _

pub loop-k-preserved : goal.loop-k-preserved
loop-k-preserved c = goes_on _ _ _ _ _ c.loop-k.invariant c.loop-k-test.true c.requires.n_in_bounds (c.mark-marked.ensures ∙ rw c.row_position.ensures)

pub returns : goal.returns
returns c = ends _ _ _ _ _ c.loop-k.invariant (omega arith)
