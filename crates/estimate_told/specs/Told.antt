-- An estimate's answer as numbers, for C. Definitions only.
use Rattle.std.specs.Prelude.{ℕ, Float, Option, Some, None}
use Rattle.floats.specs.Number.{nought}
use Rattle.refusals.specs.Answer.{Answer, refused, given}
use Rattle.ways.specs.declared.way.Way.{Way}
use Rattle.ways.specs.declared.way.Way.TheVariants.{With, Against}
use Rattle.paths.specs.declared.path.Line.{Line}
use Rattle.paths.specs.declared.path.Line.TheVariants.{Shape, Chain, Straight}
use Rattle.legs.specs.declared.place.Place.{Place}
use Rattle.legs.specs.declared.place.Place.TheVariants.{Call, Start, End, Stretch, NoStretch}
use Rattle.paths.specs.declared.status.Status.{Status}
use Rattle.paths.specs.declared.status.Status.TheVariants.{StoppedAt, IncomingAt, OnShape, OnStopChain, InTransitTo}
use Rattle.voyages.specs.declared.record.Estimate.{Estimate}
use Rattle.voyages.specs.declared.record.Placed.{Placed}
use Rattle.estimate_told.specs.declared.answer.PlaceTold.{PlaceTold}
use Rattle.estimate_told.specs.declared.answer.Told.{Told}

abbrev pub status_number : Status → ℕ
status_number StoppedAt = 1
status_number IncomingAt = 2
status_number OnShape = 3
status_number OnStopChain = 4
status_number InTransitTo = 5

abbrev pub line_number : Line → ℕ
line_number Shape = 1
line_number Chain = 2
line_number Straight = 3

abbrev pub way_number : Way → ℕ
way_number With = 1
way_number Against = 2

-- document 01's place
abbrev pub place_told : Place → PlaceTold
place_told (Call k) = record { fraction = nought; vertex = 0; kind = 1; number = k; line = 0; way = 0 }
place_told (Start k) = record { fraction = nought; vertex = 0; kind = 2; number = k; line = 0; way = 0 }
place_told (End k) = record { fraction = nought; vertex = 0; kind = 3; number = k; line = 0; way = 0 }
place_told (Stretch k line way vertex t) = record { fraction = t; vertex = vertex; kind = 4; number = k; line = line_number line; way = way_number way }
place_told (NoStretch k line way) = record { fraction = nought; vertex = 0; kind = 5; number = k; line = line_number line; way = way_number way }

-- the bearing, or 0 where there is none; and 1 where there is one
abbrev pub bearing_told : Option Float → Float
bearing_told (Some bearing) = bearing
bearing_told None = nought

abbrev pub bears_told : Option Float → ℕ
bears_told (Some bearing) = 1
bears_told None = 0

-- an estimate and its place
abbrev pub estimate_told : Estimate → Place → Told
estimate_told e place =
    record {
      lat = e.lat;
      lon = e.lon;
      bearing = bearing_told e.bearing;
      stop = e.stop;
      sequence = e.sequence;
      status = status_number e.status;
      bears = bears_told e.bearing;
      answered = 1;
      refusal = 0;
      place = place_told place;
    }

-- no estimate: silence, or the number of a refusal
abbrev pub unanswered : ℕ → Told
unanswered n =
    record {
      lat = nought;
      lon = nought;
      bearing = nought;
      stop = 0;
      sequence = 0;
      status = 0;
      bears = 0;
      answered = 0;
      refusal = n;
      place = record { fraction = nought; vertex = 0; kind = 0; number = 0; line = 0; way = 0 };
    }

-- the whole answer
abbrev pub told_of : Answer (Option Placed) → Told
told_of (given (Some placed)) = estimate_told placed.estimate placed.place
told_of (given None) = unanswered 0
told_of (refused n) = unanswered n
