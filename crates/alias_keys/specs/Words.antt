-- The fixed texts with which an alias is composed, as bytes.
use Rattle.std.specs.Prelude.{ℕ, List, [], ◌∷◌}

-- SNCF_MAGENTA_PRD:VehicleJourney::
abbrev pub magenta_mark : List ℕ
magenta_mark = 83 ∷ 78 ∷ 67 ∷ 70 ∷ 95 ∷ 77 ∷ 65 ∷ 71 ∷ 69 ∷ 78 ∷ 84 ∷ 65 ∷ 95 ∷ 80 ∷ 82 ∷ 68 ∷ 58 ∷ 86 ∷ 101 ∷ 104 ∷ 105 ∷ 99 ∷ 108 ∷ 101 ∷ 74 ∷ 111 ∷ 117 ∷ 114 ∷ 110 ∷ 101 ∷ 121 ∷ 58 ∷ 58 ∷ []

-- SNCF:VehicleJourney::
abbrev pub sncf_mark : List ℕ
sncf_mark = 83 ∷ 78 ∷ 67 ∷ 70 ∷ 58 ∷ 86 ∷ 101 ∷ 104 ∷ 105 ∷ 99 ∷ 108 ∷ 101 ∷ 74 ∷ 111 ∷ 117 ∷ 114 ∷ 110 ∷ 101 ∷ 121 ∷ 58 ∷ 58 ∷ []

-- stif:VehicleJourney:
abbrev pub stif_mark : List ℕ
stif_mark = 115 ∷ 116 ∷ 105 ∷ 102 ∷ 58 ∷ 86 ∷ 101 ∷ 104 ∷ 105 ∷ 99 ∷ 108 ∷ 101 ∷ 74 ∷ 111 ∷ 117 ∷ 114 ∷ 110 ∷ 101 ∷ 121 ∷ 58 ∷ []

-- IDFM:stif:
abbrev pub local_trip_mark : List ℕ
local_trip_mark = 73 ∷ 68 ∷ 70 ∷ 77 ∷ 58 ∷ 115 ∷ 116 ∷ 105 ∷ 102 ∷ 58 ∷ []
