-- The fixed texts of journey refs, of gtfs/siri_trip_map.rs, as bytes.
use Rattle.std.specs.Prelude.{ℕ, List, [], ◌∷◌}

-- ::
abbrev pub colons : List ℕ
colons = 58 ∷ 58 ∷ []

-- LOC
abbrev pub loc_word : List ℕ
loc_word = 76 ∷ 79 ∷ 67 ∷ []

-- ServiceJourney
abbrev pub service_journey : List ℕ
service_journey = 83 ∷ 101 ∷ 114 ∷ 118 ∷ 105 ∷ 99 ∷ 101 ∷ 74 ∷ 111 ∷ 117 ∷ 114 ∷ 110 ∷ 101 ∷ 121 ∷ []

-- VehicleJourney
abbrev pub vehicle_journey : List ℕ
vehicle_journey = 86 ∷ 101 ∷ 104 ∷ 105 ∷ 99 ∷ 108 ∷ 101 ∷ 74 ∷ 111 ∷ 117 ∷ 114 ∷ 110 ∷ 101 ∷ 121 ∷ []
