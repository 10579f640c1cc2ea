-- `by_distance::interpolate::spot_over` meets its contract.
use Rattle.by_distance.specs.Interpolate.{spot_over}
use Rattle.first_stretch.proofs.Micro.{micro_is}
use Rattle.by_distance.proofs.interpolate.spot_over.Goals as goal

pub returns : goal.returns
unfolding spot_over
returns c = rw (c.stretch_at.ensures, micro_is, c.target.ensures, c.whole.ensures)
