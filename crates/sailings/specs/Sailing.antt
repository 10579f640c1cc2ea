-- The static trip that a sailing stands for. Definitions only.
use Rattle.std.specs.Prelude.{ℕ, ◌<◌, Bool, true, false, List, ℤ, pos, ◌+ℤ◌, Option, Some, None}
use Rattle.tables.specs.declared.lent.Tables.{Tables}
use Rattle.matching.specs.Matching.{match_of}
use Rattle.moments.specs.Moments.{today_of, yesterday_of}
use Rattle.lent_plans.specs.Plans.{plan_of}
use Rattle.timetable.specs.Timetable.{named_of}
use Rattle.sailing_rows.specs.Rows.{offset_of, route_of, base_key}
use Rattle.first_departures.specs.Firsts.{first_departure}

-- there is a first departure
abbrev pub departs : Option ℕ → Bool
departs (Some x) = true
departs None = false

-- the first departure in local time, or 0 where there is none
abbrev pub local_at : Option ℕ → ℤ → ℤ
local_at (Some x) offset = pos x +ℤ offset
local_at None offset = pos 0

-- a moment below 2^63
abbrev pub InTime : Option ℕ → Type 0
InTime (Some x) = x < 9223372036854775808
InTime None = Unit {0}

-- the static trip of a sailing whose first departure is this
unfoldable pub trip_from : List ℕ → List ℕ → List ℤ → Tables → Option ℕ → Option ℕ
trip_from bytes words times t first =
    let at = local_at first (offset_of times t.sailing) in
    match_of bytes words (named_of t) (plan_of t) (base_key bytes words t.sailing) (route_of bytes words t.sailing) (departs first) (today_of at) (yesterday_of at)

-- The static trip that the sailing stands for: matched by its key, its route and its first departure.
unfoldable pub sailing_trip : List ℕ → List ℕ → List ℤ → Tables → Option ℕ
sailing_trip bytes words times t = trip_from bytes words times t (first_departure bytes t.updates times)
