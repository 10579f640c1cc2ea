-- The fixed texts of trip keys, of gtfs/siri_trip_map.rs, as bytes.
use Rattle.std.specs.Prelude.{ℕ, List, [], ◌∷◌}

-- :LOC
abbrev pub loc : List ℕ
loc = 58 ∷ 76 ∷ 79 ∷ 67 ∷ []

-- idfm:
abbrev pub low_feed : List ℕ
low_feed = 105 ∷ 100 ∷ 102 ∷ 109 ∷ 58 ∷ []

-- IDFM:
abbrev pub high_feed : List ℕ
high_feed = 73 ∷ 68 ∷ 70 ∷ 77 ∷ 58 ∷ []

-- local-
abbrev pub local_mark : List ℕ
local_mark = 108 ∷ 111 ∷ 99 ∷ 97 ∷ 108 ∷ 45 ∷ []
