use Prim.Native.Nat.{◌-◌}
use native.Mathlib.Omega.{arith}
use lib.ListN.{length}
use Rattle.ids.proofs.Search.{first_hit}
use Rattle.timeline.specs.Turn.{under_way}
use Rattle.timeline.proofs.turn.Tested.{tested}
use Rattle.timeline.proofs.turn.leg_at.Goals as goal

pub returns-then-within : goal.returns-then-within
returns-then-within c =
    let a = c.args in
    first_hit (under_way a.clock a.arrivals.now a.departures.now) (length a.arrivals.now - 1) c.loop-k.k (omega arith)
    (tested _ _ _ _ _ _ _ c.moment-from.ensures c.moment-to.ensures c.within.ensures c.if-within.true) c.loop-k.invariant
