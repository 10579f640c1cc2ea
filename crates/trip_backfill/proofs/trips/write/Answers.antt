use borrow.Author.Rules.{rules}
use Prim.Native.Nat.{◌-◌}
use native.Mathlib.Omega.{arith}
use mathlib.Core.Path.{sym, ◌∙◌}
use lib.Seq.{length-take-le}
use Rattle.row_distances.specs.Rows.{rows_of}
use Rattle.filled_trips.proofs.Among.{trips_count}
use Rattle.trip_backfill.proofs.Rooms.{short, enough}
use Rattle.trip_backfill.proofs.trips.write.Goals as goal

pub returns-then-dist-n : goal.returns-then-dist-n
returns-then-dist-n c =
    let a = c.args in
    let w = short _ _ (trips_count a.lent.now.bytes.now a.lent.now.words.now a.lent.now.reals.now a.t a.a (a.e - a.a) (rows_of a.column.now a.flags.now)) a.dist.now a.measured.now (omega (arith, c.if-dist-n.true, c.count-n.ensures)) in
    record { result_value = w.0; dist_after = w.1.0; measured_after = w.1.1 }

pub returns-then-measured-n : goal.returns-then-measured-n
returns-then-measured-n c =
    let a = c.args in
    let w = short _ _ (trips_count a.lent.now.bytes.now a.lent.now.words.now a.lent.now.reals.now a.t a.a (a.e - a.a) (rows_of a.column.now a.flags.now)) a.dist.now a.measured.now (omega (arith, c.if-measured-n.true, c.count-n.ensures)) in
    record { result_value = w.0; dist_after = w.1.0; measured_after = w.1.1 }

pub slice_bounds-lay-end-2 : goal.slice_bounds-lay-end-2
slice_bounds-lay-end-2 c = sym (length-take-le _ c.args.dist.now c.if-dist-n.false)

pub slice_bounds-lay-end-4 : goal.slice_bounds-lay-end-4
slice_bounds-lay-end-4 c = sym (length-take-le _ c.args.measured.now c.if-measured-n.false)

pub lay-requires : goal.lay-requires
lay-requires c = record { dist_len = length-take-le _ c.args.dist.now c.if-dist-n.false ∙ c.count-n.ensures; measured_len = length-take-le _ c.args.measured.now c.if-measured-n.false ∙ c.count-n.ensures }

pub returns : goal.returns
returns c =
    let a = c.args in
    let w = enough _ _ (trips_count a.lent.now.bytes.now a.lent.now.words.now a.lent.now.reals.now a.t a.a (a.e - a.a) (rows_of a.column.now a.flags.now)) a.dist.now a.measured.now (omega (arith, c.if-dist-n.false, c.count-n.ensures)) (omega (arith, c.if-measured-n.false, c.count-n.ensures)) c.count-n.ensures c.lay.ensures.dist_after c.lay.ensures.measured_after in
    record { result_value = w.0; dist_after = w.1.0; measured_after = w.1.1 }
