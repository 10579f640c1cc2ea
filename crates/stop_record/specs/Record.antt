-- A record that is filled. Definitions only.
use Rattle.std.specs.Prelude.{ℕ, Bool, true, false, eqb, Float}
use Rattle.std.specs.Float.{nan}
use Rattle.stop_record.specs.declared.StopTime.{StopTime}

-- what a read past the end would give: no record of the list
abbrev pub none : StopTime
none = record { stop = 0; arrival = 0; departure = 0; sequence = 0; measured = false; dist = nan }

-- the record with a distance, and every other field as it was
abbrev pub with_dist : StopTime → Float → StopTime
with_dist s d = record { stop = s.stop; arrival = s.arrival; departure = s.departure; sequence = s.sequence; measured = true; dist = d }

abbrev pub either : Bool → StopTime → StopTime → StopTime
either true a b = a
either false a b = b

-- a record that has a distance keeps it; one that has none takes the answer d where there is one (k is not 0)
abbrev pub filled_of : StopTime → Float → ℕ → StopTime
filled_of s d k = either s.measured s (either (eqb k 0) s (with_dist s d))
