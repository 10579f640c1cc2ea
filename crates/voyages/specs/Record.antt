-- The estimate's record, and the place beside it. Definitions only.
use Rattle.std.specs.Prelude.{ℕ, Some, None}
use Rattle.lengths.specs.declared.line.Point.{Point}
use Rattle.legs.specs.declared.place.Place.TheVariants.{Call}
use Rattle.paths.specs.declared.status.Status.{Status}
use Rattle.legs.specs.declared.walk.Walked.{Walked}
use Rattle.voyages.specs.declared.record.Placed.{Placed}

-- at a stop, which is this call, counted from 1: the stop's own coordinates, and no bearing
unfoldable pub at_stop : ℕ → Point → Status → ℕ → ℕ → Placed
at_stop call at status stop sequence =
    record {
      estimate = record { lat = at.lat; lon = at.lon; bearing = None; status = status; stop = stop; sequence = sequence };
      place = Call call;
    }

-- on a leg, to this stop: the place and the coordinates of the walk
abbrev pub on_leg : Walked → Status → ℕ → ℕ → Placed
on_leg walked status stop sequence =
    record {
      estimate = record {
        lat = walked.drawn.lat;
        lon = walked.drawn.lon;
        bearing = Some walked.drawn.bearing;
        status = status;
        stop = stop;
        sequence = sequence;
      };
      place = walked.place;
    }
