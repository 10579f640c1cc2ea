-- `shape_drawing::shape::along_shape` meets its contract.
use borrow.Author.Rules.{rules}
use native.Mathlib.Omega.{arith}
use mathlib.Core.Path.{refl}
use lib.ListN.{length-take}
use Rattle.point_columns.proofs.Rooms.{short, drawn}
use Rattle.shape_drawing.proofs.Columns.{within, in_lats, in_lons, count, lats_written, lons_written}
use Rattle.shape_drawing.proofs.shape.along_shape.Goals as goal

pub overflow_add-e : goal.overflow_add-e
overflow_add-e c = record { fits = omega (arith, in_lats _ _ c.requires.nonzero _ _ c.part-drawn.ensures) }

pub overflow_sub-e : goal.overflow_sub-e
overflow_sub-e c = omega (arith, (within _ _ c.requires.nonzero _ _ c.part-drawn.ensures).ordered)

pub returns-then-sheet-e : goal.returns-then-sheet-e
returns-then-sheet-e c = record { result_value = (short 0 _ _ _ c.requires.lat_len refl (rw (count _ _ c.requires.nonzero _ _ c.part-drawn.ensures) at c.if-sheet-e.true)).0; lat_after = (short 0 _ _ _ c.requires.lat_len refl (rw (count _ _ c.requires.nonzero _ _ c.part-drawn.ensures) at c.if-sheet-e.true)).1.0; lon_after = (short 0 _ _ _ c.requires.lat_len refl (rw (count _ _ c.requires.nonzero _ _ c.part-drawn.ensures) at c.if-sheet-e.true)).1.1; same = (refl, refl) }

pub rows-requires : goal.rows-requires
rows-requires c =
    (omega (arith, (within _ _ c.requires.nonzero _ _ c.part-drawn.ensures).ordered), in_lats _ _ c.requires.nonzero _ _ c.part-drawn.ensures)

pub put_rows-requires : goal.put_rows-requires
put_rows-requires c = rw (c.rows.ensures, length-take) (omega (arith, c.if-sheet-e.false))

pub rows-requires-2 : goal.rows-requires-2
rows-requires-2 c =
    (omega (arith, (within _ _ c.requires.nonzero _ _ c.part-drawn.ensures).ordered), in_lons _ _ c.requires.nonzero _ _ c.part-drawn.ensures)

pub put_rows-requires-2 : goal.put_rows-requires-2
put_rows-requires-2 c = rw (c.rows-2.ensures, length-take) (omega (arith, c.if-sheet-e.false, c.requires.lat_len))

pub overflow_sub-result : goal.overflow_sub-result
overflow_sub-result c = omega (arith, (within _ _ c.requires.nonzero _ _ c.part-drawn.ensures).ordered)

pub returns : goal.returns
returns c =
    let some = c.requires.nonzero in
    let e = c.part-drawn.ensures in
    let n = count _ _ some _ _ e in record {
      result_value = (drawn 0 _ _ _ c.requires.lat_len refl (omega (arith, n, c.if-sheet-e.false)) n
          (lats_written _ _ some _ _ e c.args.sheet.now.lat.now c.put_rows.ensures c.rows.ensures)
          (lons_written _ _ some _ _ e c.args.sheet.now.lon.now c.put_rows-2.ensures c.rows-2.ensures)).0;
      lat_after = (drawn 0 _ _ _ c.requires.lat_len refl (omega (arith, n, c.if-sheet-e.false)) n
          (lats_written _ _ some _ _ e c.args.sheet.now.lat.now c.put_rows.ensures c.rows.ensures)
          (lons_written _ _ some _ _ e c.args.sheet.now.lon.now c.put_rows-2.ensures c.rows-2.ensures)).1.0;
      lon_after = (drawn 0 _ _ _ c.requires.lat_len refl (omega (arith, n, c.if-sheet-e.false)) n
          (lats_written _ _ some _ _ e c.args.sheet.now.lat.now c.put_rows.ensures c.rows.ensures)
          (lons_written _ _ some _ _ e c.args.sheet.now.lon.now c.put_rows-2.ensures c.rows-2.ensures)).1.1;
      same = (refl, refl);
    }
