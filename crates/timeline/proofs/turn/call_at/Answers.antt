use lib.ListN.{length}
use Rattle.ids.proofs.Search.{first_hit}
use Rattle.timeline.specs.Turn.{alongside}
use Rattle.timeline.proofs.turn.Tested.{tested}
use Rattle.timeline.proofs.turn.call_at.Goals as goal

pub returns-then-within : goal.returns-then-within
returns-then-within c =
    let a = c.args in
    first_hit (alongside a.clock a.arrivals.now a.departures.now) (length a.arrivals.now) c.loop-k.k c.loop-k-test.true
    (tested _ _ _ _ _ _ _ c.moment-from.ensures c.moment-to.ensures c.within.ensures c.if-within.true) c.loop-k.invariant
