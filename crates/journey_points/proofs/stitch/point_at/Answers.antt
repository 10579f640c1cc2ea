use Rattle.journey_points.specs.Journey.{point_at}
use Rattle.journey_points.proofs.stitch.point_at.Goals as goal

pub returns : goal.returns
unfolding point_at
returns c = rw (c.real.ensures, c.real-2.ensures)
