-- Dates and their days. A date is a number n = yyyymmdd.
use Rattle.std.specs.Prelude.{ℕ, ◌+◌, ◌/◌, ◌%◌, Bool, ◌&&◌, leb, ℤ, pos, ◌-ℤ◌}
use Rattle.gregorian.specs.Gregorian.{leap, month_days, days_before_month, days_before_year}

-- the parts of n = yyyymmdd
abbrev pub year_of : ℕ → ℕ
year_of n = n / 10000

abbrev pub month_of : ℕ → ℕ
month_of n = n / 100 % 100

abbrev pub day_in_month : ℕ → ℕ
day_in_month n = n % 100

-- x is from a to b
abbrev pub within : ℕ → ℕ → ℕ → Bool
within a b x = leb a x && leb x b

-- a year from 1 to 9999, a month from 1 to 12, and a day of that month
unfoldable pub is_date : ℕ → Bool
is_date n = within 1 9999 (year_of n) && within 1 12 (month_of n) && within 1 (month_days (leap (year_of n)) (month_of n)) (day_in_month n)

-- the place of the date n in the count in which 00010101 is 1
unfoldable pub ordinal : ℕ → ℕ
ordinal n = days_before_year (year_of n) + days_before_month (leap (year_of n)) (month_of n) + day_in_month n

-- the day number of the date n: 19700101, whose ordinal is 719,163, is day 0
unfoldable pub day_of : ℕ → ℤ
day_of n = pos (ordinal n) -ℤ pos 719163
