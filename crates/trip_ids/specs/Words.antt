-- A fixed text of a trip's id, as bytes.
use Rattle.std.specs.Prelude.{ℕ, List, [], ◌∷◌}

-- IDFM:TN:SNCF:
abbrev pub trip_mark : List ℕ
trip_mark = 73 ∷ 68 ∷ 70 ∷ 77 ∷ 58 ∷ 84 ∷ 78 ∷ 58 ∷ 83 ∷ 78 ∷ 67 ∷ 70 ∷ 58 ∷ []
