-- Squares of the distances from a stop, in degrees, by which the nearest vertex is found. Definitions only.
use Rattle.std.specs.Prelude.{ℕ, suc, ◌≡◌, false, cond, T, Float}
use mathlib.Core.List.{List, [], ◌∷◌, foldl}
use Rattle.std.specs.Float.{inf, binary64}
use Rattle.std.specs.Float.Ieee.{add, sub, mul, le}
use Rattle.ieee.specs.Number.{least_of}
use Rattle.roots.specs.Root.{root_of}
use Rattle.lengths.specs.declared.line.Point.{Point}

-- the square of the distance between two points
unfoldable pub square_of : Point → Point → Float
square_of p q =
    let y = sub binary64 p.lat q.lat in
    let x = sub binary64 p.lon q.lon in
    add binary64 (mul binary64 y y) (mul binary64 x x)

-- of each point of a line
unfoldable pub squares_of : Point → List Point → List Float
squares_of stop [] = []
squares_of stop (v ∷ line) = square_of v stop ∷ squares_of stop line

-- the least that is no NaN, and infinity where there is none
unfoldable pub least_in : List Float → Float
least_in ss = foldl least_of (inf false) ss

-- the first whose root is at most a distance, numbered from k; 0 where there is none
unfoldable pub first_near : Float → ℕ → List Float → ℕ
first_near distance k [] = 0
first_near distance k (s ∷ ss) = cond (le (root_of s) distance) k (first_near distance (suc k) ss)

-- no square from this on has a root of at most the distance
abbrev pub Far : Float → Float → Type 0
Far distance far = (s : Float) → T (le far s) → le (root_of s) distance ≡ false
