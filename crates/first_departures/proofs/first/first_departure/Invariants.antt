-- `first_departures::first::first_departure` meets its contract. The loop's invariant: the first departure so far is that of the rows so far.
use mathlib.Core.Path.{◌≡◌}
use Rattle.first_departures.specs.Firsts.{first_below}
use Rattle.first_departures.proofs.first.first_departure.Given as goal

abbrev pub invariant-loop-k : goal.invariant-loop-k
invariant-loop-k l = l.first ≡ first_below l.lent.bytes.now l.u l.lent.times.now l.k
