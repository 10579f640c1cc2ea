use borrow.Author.Rules.{rules}
use Prim.Native.Nat.{◌-◌}
use native.Mathlib.Omega.{arith}
use mathlib.Core.Path.{◌≡◌}
use Rattle.trip_backfill.proofs.trips.backfill_trips.Goals as goal

pub returns : goal.returns
returns c =
    let n = c.args.t.trips.first.n in
    let z : n - 0 ≡ n = omega arith in
    record { result_value = c.backfill_between.ensures.result_value; dist_after = rw z at c.backfill_between.ensures.dist_after; measured_after = rw z at c.backfill_between.ensures.measured_after }
