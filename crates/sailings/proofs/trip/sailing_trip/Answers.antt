-- `sailings::trip::sailing_trip` meets its contract.
use Rattle.sailings.specs.Sailing.{sailing_trip}
use Rattle.sailings.proofs.trip.sailing_trip.Goals as goal

pub trip_from-requires : goal.trip_from-requires
trip_from-requires c = rw c.first_departure.ensures (record { ready = c.requires.ready; in_time = c.requires.in_time; in_reach = c.requires.in_reach })

pub returns : goal.returns
unfolding sailing_trip
returns c = rw (c.trip_from.ensures, c.first_departure.ensures)
