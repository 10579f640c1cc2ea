-- `leg_points::stops::draw_stops` meets its contract. The loop's invariant: the stops so far are drawn, and what is drawn of the others is left.
use borrow.Author.Rules.{rules}
use Prim.Native.Nat.{◌-◌, ◌≤◌}
use native.Mathlib.Omega.{arith}
use mathlib.Core.Path.{◌∙◌, sym, refl}
use Rattle.point_columns.specs.Columns.{SameColumns}
use Rattle.trip_rows.specs.Rows.{row_position}
use Rattle.leg_parts.proofs.Offsets.{in_order, of_trip}
use Rattle.leg_points.proofs.Going.{Going, start, more, counted, lat_done, lon_done, nothing_drawn, drawn_rows}
use Rattle.leg_points.proofs.stops.draw_stops.Given as goal

abbrev pub invariant-loop-k : goal.invariant-loop-k
invariant-loop-k l =
    (l.rows ≤ 4294967296) × SameColumns l.initial.sheet l.sheet × Going (row_position l.lent.bytes.now l.lent.words.now l.lent.reals.now l.leg.stops l.leg.calls) l.row l.rows l.initial.sheet.lat.now l.initial.sheet.lon.now l.sheet.lat.now l.sheet.lon.now l.last l.at l.k
