use mathlib.Core.Path.{◌∙◌}
use Rattle.filled_trips.proofs.Among.{fits_dists, fits_marks, laid, laid_same}
use Rattle.trip_backfill.proofs.trips.lay.Goals as goal

pub copy-requires : goal.copy-requires
copy-requires c = fits_dists _ _ c.requires.dist_len

pub copy-requires-2 : goal.copy-requires-2
copy-requires-2 c = fits_marks _ _ c.requires.measured_len

pub backfill_each-requires : goal.backfill_each-requires
backfill_each-requires c = laid_same c.args.column.now c.args.flags.now c.requires.dist_len c.requires.measured_len c.copy.ensures c.copy-2.ensures

pub returns : goal.returns
returns c = let e = laid c.args.column.now c.args.flags.now c.requires.dist_len c.requires.measured_len c.copy.ensures c.copy-2.ensures in record { dist_after = c.backfill_each.ensures.dist_after ∙ rw e; measured_after = c.backfill_each.ensures.measured_after ∙ rw e }
