-- The fixed texts with which the ids of stops are composed, as bytes.
use Rattle.std.specs.Prelude.{ℕ, List, [], ◌∷◌}

-- IDFM:monomodalStopPlace:
abbrev pub place_mark : List ℕ
place_mark = 73 ∷ 68 ∷ 70 ∷ 77 ∷ 58 ∷ 109 ∷ 111 ∷ 110 ∷ 111 ∷ 109 ∷ 111 ∷ 100 ∷ 97 ∷ 108 ∷ 83 ∷ 116 ∷ 111 ∷ 112 ∷ 80 ∷ 108 ∷ 97 ∷ 99 ∷ 101 ∷ 58 ∷ []

-- StopPoint:
abbrev pub point_mark : List ℕ
point_mark = 83 ∷ 116 ∷ 111 ∷ 112 ∷ 80 ∷ 111 ∷ 105 ∷ 110 ∷ 116 ∷ 58 ∷ []
