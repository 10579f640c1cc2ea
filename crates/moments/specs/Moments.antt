-- A moment of local time as the two counts that departures are compared with.
use Rattle.std.specs.Prelude.{ℕ, ◌+◌, ◌-◌, ◌<◌, ℤ, pos, negsuc, ◌+ℤ◌, nat_abs}
use Rattle.day_counts.specs.Service.{service_day_of}
use Rattle.departure_fits.specs.declared.departure.Count.{Count}

-- from a day before 19700101 on, for some thirty thousand years
abbrev pub InReach : ℤ → Type 0
InReach (pos n) = n < 1000000000000
InReach (negsuc n) = n < 86400

-- the moment in its own service day: the day's ordinal, and the seconds from its beginning
unfoldable pub today_of : ℤ → Count
today_of z = record { day = nat_abs ((service_day_of z).day +ℤ pos 719163); second = nat_abs (service_day_of z).second }

-- the same moment in the service day before
unfoldable pub yesterday_of : ℤ → Count
yesterday_of z = record { day = (today_of z).day - 1; second = (today_of z).second + 86400 }
