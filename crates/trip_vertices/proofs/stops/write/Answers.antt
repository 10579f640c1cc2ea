use borrow.Author.Rules.{rules}
use mathlib.Core.Path.{◌∙◌}
use Rattle.trip_vertices.specs.Vertices.{trip_vertices}
use Rattle.trip_rows.specs.Rows.{trip_line}
use Rattle.trip_vertices.proofs.Rooms.{line_small, of_none, of_short, of_enough}
use Rattle.trip_vertices.proofs.stops.write.Goals as goal

pub returns-in_default : goal.returns-in_default
returns-in_default c = record { result_value = (of_none _ _ _ _ _ c.in_default.is).0; out_after = (of_none _ _ _ _ _ c.in_default.is).1 }

pub returns-then-out-n : goal.returns-then-out-n
returns-then-out-n c = record { result_value = (of_short _ _ _ _ _ _ c.in-Some.is c.cell-n.ensures c.if-out-n.true).0; out_after = (of_short _ _ _ _ _ _ c.in-Some.is c.cell-n.ensures c.if-out-n.true).1 }

pub fill-requires : goal.fill-requires
fill-requires c = record { lon_len_bound = line_small _ _ _ _ c.shape_column.ensures (search (rules, c.trip_span-points.type_inv)); n_in_bounds = c.if-out-n.false }

pub returns : goal.returns
unfolding trip_vertices trip_line
returns c =
    let a = c.args in
    let w = of_enough a.lent.now.bytes.now a.lent.now.words.now a.lent.now.reals.now a.t a.out.now c.in-Some.trip c.in-Some.is c.cell-n.ensures c.if-out-n.false
    (c.fill.ensures ∙ rw (c.shape_column.ensures, c.shape_column-2.ensures, c.trip_span-points.ensures, c.cell.ensures, c.cell-n.ensures)) in
    record { result_value = w.0; out_after = w.1 }
