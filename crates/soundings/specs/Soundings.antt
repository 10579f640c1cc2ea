-- Document 01's cases that hold by proof, in its order.
use Rattle.std.specs.Prelude.{ℕ, ◌+◌, ◌≡◌, true, List, [], ◌∷◌, leb, ℤ, pos, negsuc, length, get_or, Option, Some, None}
use Rattle.day_counts.specs.Weekdays.{weekday_of}
use Rattle.days.specs.Read.{read_date_of, refusal_of}
use Rattle.maths.specs.Series.{whole}
use Rattle.unit_scales.specs.Scale.{decimal, snap_unit_scale}
use Rattle.refs.specs.Refs.{journey_id_of}
use Rattle.stop_digits.specs.Stops.{stop_digits_of}
use Rattle.departure_fits.specs.Departures.{away, if_runs, nearer}
use Rattle.line_fits.specs.Lines.{best_of}
use Rattle.trip_times.specs.Line.{alone}
use Rattle.departure_fits.specs.declared.departure.Fit.{Fit}

-- what a date comes to: its day and weekday, or a refusal's number
pub data Answer : Type 0 where
  day : ℤ → ℕ → Answer
  refused : ℕ → Answer

abbrev answer : Option ℤ → Answer
answer (Some d) = day d (weekday_of d)
answer None = refused (refusal_of None)

abbrev pub answer_of : ℕ → Answer
answer_of n = answer (read_date_of n)

-- "A:ServiceJourney:12:LOC", "A:VehicleJourney::77:LOC", "A:B:12"
abbrev pub service_ref : List ℕ
service_ref = 65 ∷ 58 ∷ 83 ∷ 101 ∷ 114 ∷ 118 ∷ 105 ∷ 99 ∷ 101 ∷ 74 ∷ 111 ∷ 117 ∷ 114 ∷ 110 ∷ 101 ∷ 121 ∷ 58 ∷ 49 ∷ 50 ∷ 58 ∷ 76 ∷ 79 ∷ 67 ∷ []

abbrev pub vehicle_ref : List ℕ
vehicle_ref = 65 ∷ 58 ∷ 86 ∷ 101 ∷ 104 ∷ 105 ∷ 99 ∷ 108 ∷ 101 ∷ 74 ∷ 111 ∷ 117 ∷ 114 ∷ 110 ∷ 101 ∷ 121 ∷ 58 ∷ 58 ∷ 55 ∷ 55 ∷ 58 ∷ 76 ∷ 79 ∷ 67 ∷ []

abbrev pub other_ref : List ℕ
other_ref = 65 ∷ 58 ∷ 66 ∷ 58 ∷ 49 ∷ 50 ∷ []

-- "A:Q:1234", "A:Q:123"
abbrev pub long_stop : List ℕ
long_stop = 65 ∷ 58 ∷ 81 ∷ 58 ∷ 49 ∷ 50 ∷ 51 ∷ 52 ∷ []

abbrev pub short_stop : List ℕ
short_stop = 65 ∷ 58 ∷ 81 ∷ 58 ∷ 49 ∷ 50 ∷ 51 ∷ []

-- a trip of the line that departs at second s, runs on both days, and is asked of at a second of today
abbrev pub daily : ℕ → ℕ → Option Fit
daily second s = nearer (if_runs true s second) (if_runs (leb 43200 s) s (second + 86400))

abbrev daily_at : ℕ → List ℕ → ℕ → Option Fit
daily_at second departures k = daily second (get_or departures k 0)

-- which of these departures is matched at that second
abbrev pub matched : ℕ → List ℕ → Option ℕ
matched second departures = alone (daily_at second departures) (length departures) (best_of (daily_at second departures) (length departures))

abbrev pub Soundings : Type 0
Soundings =
    -- 19700101 is day 0, weekday 3; 20000229 is day 11,016, weekday 1; 20990229 gets 10
    (answer_of 19700101 ≡ day (pos 0) 3) × (answer_of 20000229 ≡ day (pos 11016) 1) × (answer_of 20990229 ≡ refused 10)
    -- the ratio 1.25 snaps to 1; 1.26 stays
    × (snap_unit_scale (decimal 125 100) ≡ whole 1) × (snap_unit_scale (decimal 126 100) ≡ decimal 126 100)
    -- the journey id of the first is "12", of the second "77"; the third has none
    × (journey_id_of service_ref ≡ 49 ∷ 50 ∷ []) × (journey_id_of vehicle_ref ≡ 55 ∷ 55 ∷ []) × (journey_id_of other_ref ≡ [])
    -- the first stop's text yields "1234", the second's none
    × (stop_digits_of long_stop ≡ 49 ∷ 50 ∷ 51 ∷ 52 ∷ []) × (stop_digits_of short_stop ≡ [])
    -- at second 36,000: 36,060 and 36,180 match the first; 36,061 and 36,181 none; 36,061 and 36,182 the first
    × (matched 36000 (36060 ∷ 36180 ∷ []) ≡ Some 0) × (matched 36000 (36061 ∷ 36181 ∷ []) ≡ None) × (matched 36000 (36061 ∷ 36182 ∷ []) ≡ Some 0)
    -- 36,900 alone matches, 36,901 does not
    × (matched 36000 (36900 ∷ []) ≡ Some 0) × (matched 36000 (36901 ∷ []) ≡ None)
    -- yesterday's 86,460 at second 0 is 60 seconds away
    × (away (daily 0 86460) ≡ 60)
    -- beside document 01's: the first date, the day before day 0, and the last date
    × (answer_of 10101 ≡ day (negsuc 719161) 0) × (answer_of 19691231 ≡ day (negsuc 0) 2) × (answer_of 99991231 ≡ day (pos 2932896) 4)
