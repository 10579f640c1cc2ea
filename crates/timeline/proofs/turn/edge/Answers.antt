-- `timeline::turn::edge` meets its contract.
use borrow.Author.Tests.{lt-ltb, le-ltb}
use Rattle.timeline.specs.Turn.{edge_of}
use Rattle.timeline.proofs.turn.edge.Goals as goal

pub returns-then-arrivals-lt2 : goal.returns-then-arrivals-lt2
unfolding edge_of
returns-then-arrivals-lt2 c = rw (lt-ltb _ _ c.if-arrivals-lt2.true)

pub returns-then-clock-moment : goal.returns-then-clock-moment
unfolding edge_of
returns-then-clock-moment c =
    rw (le-ltb _ _ c.if-arrivals-lt2.false, ← c.moment.ensures, lt-ltb _ _ c.if-clock-moment.true)

pub returns : goal.returns
unfolding edge_of
returns c =
    rw (le-ltb _ _ c.if-arrivals-lt2.false, ← c.moment.ensures, le-ltb _ _ c.if-clock-moment.false)
