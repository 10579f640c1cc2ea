-- Distances from a stop to the points of a line, in metres. A list of them is numbered from the vertex that its first is of. Definitions only.
use Rattle.std.specs.Prelude.{ℕ, suc, false, cond, Float, get_or, Option, Some, None}
use mathlib.Core.List.{List, [], ◌∷◌, foldl}
use Rattle.std.specs.Float.{inf}
use Rattle.std.specs.Float.Ieee.{le}
use Rattle.ieee.specs.Number.{least_of}
use Rattle.lengths.specs.Line.{metres_of, nowhere}
use Rattle.sphere_lengths.specs.Length.{haversin_of}
use Rattle.lengths.specs.declared.line.Point.{Point}

-- what the distance from a stop to a vertex is the way of
abbrev pub aside_of : Point → Point → Float
aside_of stop v = haversin_of stop.lat stop.lon v.lat v.lon

-- the distance of vertex k
abbrev pub distance_of : Point → List Point → ℕ → Float
distance_of stop line k = metres_of stop (get_or line k nowhere)

-- those of all
unfoldable pub distances_of : Point → List Point → List Float
distances_of stop [] = []
distances_of stop (v ∷ line) = metres_of stop v ∷ distances_of stop line

-- the least that is no NaN, and infinity where there is none
unfoldable pub least_in : List Float → Float
least_in ds = foldl least_of (inf false) ds

-- the first that is at most `most`, numbered from k
unfoldable pub first_within : Float → ℕ → List Float → Option ℕ
first_within most k [] = None
first_within most k (d ∷ ds) = cond (le d most) (Some k) (first_within most (suc k) ds)

-- the first of two that is there
abbrev pub or_else : Option ℕ → Option ℕ → Option ℕ
or_else (Some k) other = Some k
or_else None other = other

-- the last that is at most `most`, numbered from k
unfoldable pub last_within : Float → ℕ → List Float → Option ℕ
last_within most k [] = None
last_within most k (d ∷ ds) = or_else (last_within most (suc k) ds) (cond (le d most) (Some k) None)
