use borrow.Author.Rules.{rules}
use native.Mathlib.Omega.{arith}
use mathlib.Core.Path.{refl, sym}
use Rattle.trip_rows.specs.Rows.{trip_line}
use Rattle.filled_trips.proofs.Among.{part_long, trip_short, trip_filled}
use Rattle.filled_trips.proofs.trip.backfill_in.Goals as goal

pub returns-then-dist-to : goal.returns-then-dist-to
returns-then-dist-to c = record { dist_after = (trip_short _ _ _ _ _ _ _ c.requires c.cell-first.ensures c.cell-n.ensures c.if-dist-to.true).0; measured_after = (trip_short _ _ _ _ _ _ _ c.requires c.cell-first.ensures c.cell-n.ensures c.if-dist-to.true).1 }

pub slice_bounds-backfill_rows-end : goal.slice_bounds-backfill_rows-end
slice_bounds-backfill_rows-end c = c.if-dist-to.false

pub slice_bounds-backfill_rows-end-2 : goal.slice_bounds-backfill_rows-end-2
slice_bounds-backfill_rows-end-2 c = omega (arith, c.if-dist-to.false, c.requires)

pub backfill_rows-requires : goal.backfill_rows-requires
backfill_rows-requires c = record { n_value = part_long _ _ c.args.dist.now c.args.measured.now c.requires c.if-dist-to.false c.args.dist.now refl; n_value_2 = part_long _ _ c.args.dist.now c.args.measured.now c.requires c.if-dist-to.false c.args.measured.now (sym c.requires) }

pub returns : goal.returns
unfolding trip_line
returns c = record { dist_after = (trip_filled _ _ _ _ _ _ _ c.requires c.cell-first.ensures c.cell-n.ensures c.if-dist-to.false (rw (c.shape_column.ensures, c.shape_column-2.ensures, c.trip_span-points.ensures)) refl c.backfill_rows.ensures.dist_after c.backfill_rows.ensures.measured_after).0; measured_after = (trip_filled _ _ _ _ _ _ _ c.requires c.cell-first.ensures c.cell-n.ensures c.if-dist-to.false (rw (c.shape_column.ensures, c.shape_column-2.ensures, c.trip_span-points.ensures)) refl c.backfill_rows.ensures.dist_after c.backfill_rows.ensures.measured_after).1 }
