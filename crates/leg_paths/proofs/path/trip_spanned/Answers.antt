-- `leg_paths::path::trip_spanned` meets its contract.
use Rattle.leg_paths.specs.Leg.{trip_spanned}
use Rattle.leg_paths.proofs.path.trip_spanned.Goals as goal

pub returns : goal.returns
unfolding trip_spanned
returns c = rw (c.feed_span.ensures, c.seq_dist-2.ensures, c.seq_dist.ensures, c.trip_shape_dist_affine.ensures)
