-- `leg_drawing::leg::draw` meets its contract.
use borrow.Author.Rules.{rules}
use native.Mathlib.Omega.{arith}
use mathlib.Core.Path.{◌∙◌, sym, refl}
use mathlib.Core.List.{[]}
use Rattle.point_columns.proofs.Rooms.{drawn}
use Rattle.leg_drawing.proofs.Trips.{no_shape, with_shape}
use Rattle.leg_drawing.proofs.leg.draw.Goals as goal

pub returns-in_default : goal.returns-in_default
returns-in_default c = rw c.in_default.is (record { result_value = (drawn 0 [] _ _ c.requires refl (omega arith) refl refl refl).0; lat_after = (drawn 0 [] _ _ c.requires refl (omega arith) refl refl refl).1.0; lon_after = (drawn 0 [] _ _ c.requires refl (omega arith) refl refl refl).1.1; same = (refl, refl) })

pub from_stop_to_stop-requires : goal.from_stop_to_stop-requires
from_stop_to_stop-requires c = c.requires

pub returns-then-vertices-eq0 : goal.returns-then-vertices-eq0
returns-then-vertices-eq0 c =
    let a = c.args in
    rw (no_shape a.lent.now.bytes.now a.lent.now.words.now a.lent.now.reals.now a.t a.from a.to _ c.in-Some.is c.cell-first.ensures c.cell-count.ensures c.trip_span-points.ensures c.shape_column-lats.ensures c.shape_column-lons.ensures (sym c.vertices.ensures ∙ c.if-vertices-eq0.true))
    (record { result_value = c.from_stop_to_stop.ensures.result_value; lat_after = c.from_stop_to_stop.ensures.lat_after; lon_after = c.from_stop_to_stop.ensures.lon_after; same = c.from_stop_to_stop.ensures.same })

pub along_shape-requires : goal.along_shape-requires
along_shape-requires c = record { nonzero = omega (arith, c.vertices.ensures, c.if-vertices-eq0.false); lat_len = c.requires }

pub returns : goal.returns
returns c =
    let a = c.args in
    rw (with_shape a.lent.now.bytes.now a.lent.now.words.now a.lent.now.reals.now a.t a.from a.to _ c.in-Some.is c.cell-first.ensures c.cell-count.ensures c.trip_span-points.ensures c.shape_column-lats.ensures c.shape_column-lons.ensures (λ z. c.if-vertices-eq0.false (c.vertices.ensures ∙ z)))
    (record { result_value = c.along_shape.ensures.result_value; lat_after = c.along_shape.ensures.lat_after; lon_after = c.along_shape.ensures.lon_after; same = c.along_shape.ensures.same })
