-- A row of the stop times as backfill sees it, and what is written into one that has no distance. Definitions only.
use Rattle.std.specs.Prelude.{ℕ, cond, List, [], ◌∷◌, map, eqb, Float}
use Rattle.std.specs.Float.{binary64}
use Rattle.std.specs.Float.Ieee.{sub, div}
use Rattle.float_bits.specs.Single.{narrow_of}
use Rattle.unit_scales.specs.declared.metres.Affine.{Affine}
use Rattle.row_distances.specs.declared.row.Distance.{Distance}
use Rattle.row_distances.specs.declared.row.Unit.{Unit}
use Rattle.row_distances.specs.declared.row.Unit.TheVariants.{Metres, Feed, Unknown}

-- the rows of two columns, as many as both have
unfoldable pub rows_of : List Float → List ℕ → List Distance
rows_of [] ms = []
rows_of (d ∷ ds) [] = []
rows_of (d ∷ ds) (m ∷ ms) = record { dist = d; measured = m } ∷ rows_of ds ms

-- the columns of rows
abbrev pub dist_of : Distance → Float
dist_of row = row.dist

abbrev pub mark_of : Distance → ℕ
mark_of row = row.measured

unfoldable pub dists_in : List Distance → List Float
dists_in rows = map dist_of rows

unfoldable pub marks_in : List Distance → List ℕ
marks_in rows = map mark_of rows

-- a length of m metres as a distance of a feed, where a distance d stands for a + b·d metres
unfoldable pub in_feed : Affine → Float → Float
in_feed k m = div binary64 (sub binary64 m k.a) k.b

-- a distance that is there
abbrev present : Float → Distance
present d = record { dist = d; measured = 1 }

-- a row without a distance, in a unit: m metres, rounded to an f32
abbrev pub written : Unit → Float → Distance → Distance
written Metres m row = present (narrow_of m)
written (Feed k) m row = present (narrow_of (in_feed k m))
written Unknown m row = row

-- a row whose stop is m metres along the line: one that has a distance keeps it
unfoldable pub filled_by : Unit → Float → Distance → Distance
filled_by unit m row = cond (eqb row.measured 0) (written unit m row) row
