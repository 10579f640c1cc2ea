-- `projection::cursor::Cursor::step` meets its contract.
use Rattle.projection.specs.Projection.{step_of}
use Rattle.projection.proofs.cursor.Cursor.step.Goals as goal

pub returns : goal.returns
unfolding step_of
returns c = rw c.forward_shape_index-vertex.ensures
