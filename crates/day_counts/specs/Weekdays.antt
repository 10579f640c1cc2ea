-- The weekday of a day.
use Rattle.std.specs.Prelude.{ℕ, ℤ, pos, ◌+ℤ◌}
use Rattle.day_counts.specs.Floor.{floor_mod}

-- Monday is 0; day 0 is a Thursday
unfoldable pub weekday_of : ℤ → ℕ
weekday_of day = floor_mod (day +ℤ pos 3) 7
