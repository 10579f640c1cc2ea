-- Local time in signed seconds, as a service day: a day and a second of it; and how far two counts of seconds are apart.
use Rattle.std.specs.Prelude.{ℕ, ◌<◌, ◌^◌, cond, ◌≡◌, ℤ, pos, ◌+ℤ◌, ◌-ℤ◌, ◌*ℤ◌, ◌≤ℤ◌, ◌<ℤ◌}
use Rattle.std.specs.Int.Signed.{mag, lt_z}
use Rattle.day_counts.specs.Floor.{floor_div, floor_mod}
use Rattle.day_counts.specs.declared.service.ServiceDay.{ServiceDay}

-- the seconds of a day
abbrev pub day_length : ℕ
day_length = 86400

-- the day of the moment z of local time, and the second of that day
unfoldable pub service_day_of : ℤ → ServiceDay
service_day_of z = record { day = floor_div z day_length; second = pos (floor_mod z day_length) }

-- z is the first second of the day s and so many seconds more, fewer than a day has
pub record Splits (z : ℤ) (s : ServiceDay) : Type 0 where
  pub whole : z ≡ s.day *ℤ pos day_length +ℤ s.second
  pub low : pos 0 ≤ℤ s.second
  pub high : s.second <ℤ pos day_length

-- both from -2^62 up to, not including, 2^62, so that their difference fits
pub record Near (a b : ℤ) : Type 0 where
  pub left : mag a < 2 ^ 62
  pub right : mag b < 2 ^ 62

-- the larger less the smaller
unfoldable pub apart : ℤ → ℤ → ℤ
apart a b = cond (lt_z a b) (b -ℤ a) (a -ℤ b)
