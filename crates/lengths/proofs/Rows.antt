-- The vertices of a line, by the rows of its columns. Assumes nothing.
use Prim.Native.Nat.{ℕ, zero, suc, ◌<◌, min}
use native.Mathlib.Omega.{arith}
use mathlib.Core.Path.{◌≡◌, refl}
use mathlib.Core.List.{List, [], ◌∷◌}
use lib.ListN.{length, get_or}
use lib.Ieee.{Float, nan}
use Rattle.lengths.specs.Line.{line_of, nowhere}

-- a line has as many vertices as both columns have rows
pub vertex_count : (lat lon : List Float) → length (line_of lat lon) ≡ min (length lat) (length lon)
unfolding line_of
vertex_count [] lon = omega arith
vertex_count (y ∷ lat) [] = omega arith
vertex_count (y ∷ lat) (x ∷ lon) = omega (arith, vertex_count lat lon)

-- a vertex has its row of each column
pub vertex_at : (lat lon : List Float) (k : ℕ) → k < length (line_of lat lon) →
    get_or (line_of lat lon) k nowhere ≡ record { lat = get_or lat k nan; lon = get_or lon k nan }
unfolding line_of
vertex_at [] lon k h = absurd (omega arith)
vertex_at (y ∷ lat) [] k h = absurd (omega arith)
vertex_at (y ∷ lat) (x ∷ lon) zero h = refl
vertex_at (y ∷ lat) (x ∷ lon) (suc k) h = vertex_at lat lon k (omega arith)
