-- A range of services, with its weekdays. A day is its date's ordinal.
use Rattle.std.specs.Prelude.{ℕ, ◌+◌, ◌/◌, ◌%◌, ◌^◌, Bool, ◌&&◌, List, eqb, leb, get_or}
use Rattle.ids.specs.Pool.{cell_of}
use Rattle.days.specs.Days.{ordinal}
use Rattle.tables.specs.declared.lent.Ranges.{Ranges}

-- the weekday of a day, Monday 0: 00010101 is a Monday
abbrev pub weekday_at : ℕ → ℕ
weekday_at day = (day + 6) % 7

-- the day's weekday is one of those that a byte has, Monday lowest
unfoldable pub on_weekday : ℕ → ℕ → Bool
on_weekday weekdays day = eqb (weekdays / 2 ^ weekday_at day % 2) 1

module _ (bytes words : List ℕ) where
  -- row k of the ranges has the day, both ends included, and its weekday
  unfoldable pub in_range : Ranges → ℕ → ℕ → Bool
  in_range g day k =
      leb (ordinal (cell_of words g.first k)) day && (leb day (ordinal (cell_of words g.last k)) && on_weekday (get_or bytes (g.weekdays.at + k) 0) day)
