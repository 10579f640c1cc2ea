use borrow.Author.Rules.{rules}
use native.Mathlib.Omega.{arith}
use mathlib.Core.Path.{sym}
use lib.Seq.{length-take-le}
use Rattle.filled_records.proofs.Laid.{core_is}
use Rattle.trip_records.proofs.core.Goals as goal

pub overflow_cast-rows : goal.overflow_cast-rows
overflow_cast-rows c = record { fits = omega (arith, c.requires.0) }

pub slice_bounds-backfill_rows-end-3 : goal.slice_bounds-backfill_rows-end-3
slice_bounds-backfill_rows-end-3 c = c.requires.1

pub slice_bounds-backfill_rows-end-4 : goal.slice_bounds-backfill_rows-end-4
slice_bounds-backfill_rows-end-4 c = sym (length-take-le _ c.args.dists.now c.requires.1)

pub slice_bounds-backfill_rows-end-5 : goal.slice_bounds-backfill_rows-end-5
slice_bounds-backfill_rows-end-5 c = c.requires.2

pub slice_bounds-backfill_rows-end-6 : goal.slice_bounds-backfill_rows-end-6
slice_bounds-backfill_rows-end-6 c = sym (length-take-le _ c.args.known.now c.requires.2)

pub backfill_rows-requires : goal.backfill_rows-requires
backfill_rows-requires c = record { n_value = sym (length-take-le _ c.args.dists.now c.requires.1); n_value_2 = sym (length-take-le _ c.args.known.now c.requires.2) }

pub returns : goal.returns
returns c = core_is _ _ _ _ _ _ _ c.cut.ensures c.cut-2.ensures c.backfill_rows.ensures.dist_after c.backfill_rows.ensures.measured_after
