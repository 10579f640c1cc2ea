-- What reading a date answers, and the paper's number for a refusal.
use Rattle.std.specs.Prelude.{ℕ, cond, Option, Some, None, ℤ}
use Rattle.days.specs.Days.{is_date, day_of}

-- the day's number, or that n is no date
unfoldable pub read_date_of : ℕ → Option ℤ
read_date_of n = cond (is_date n) (Some (day_of n)) None

-- the number of the refusal, 10 for a date that is not one; 0 where nothing is refused
abbrev pub refusal_of : Option ℤ → ℕ
refusal_of (Some d) = 0
refusal_of None = 10
