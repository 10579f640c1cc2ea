-- The vertex of a line that is nearest to a stop, in degrees. Definitions only.
use Rattle.std.specs.Prelude.{ℕ, suc, false, cond, List, [], ◌∷◌, pos, Float}
use Rattle.std.specs.Float.{fin, binary64}
use Rattle.std.specs.Float.Ieee.{sub, lt}
use Rattle.maths.specs.Trig.{hypot_of}
use Rattle.lengths.specs.declared.line.Point.{Point}

-- the largest f64
abbrev pub largest : Float
largest = fin false 9007199254740991 (pos 971)

-- how far v is from a stop
unfoldable pub degrees_of : Point → Point → Float
degrees_of v stop = hypot_of (sub binary64 v.lat stop.lat) (sub binary64 v.lon stop.lon)

-- The nearest vertex, where `best` is the nearest so far, at this distance, and the vertices from k on are to be looked at: the first where two are as near.
unfoldable pub nearest_from : ℕ → Float → ℕ → Point → List Point → ℕ
nearest_from best distance k stop [] = best
nearest_from best distance k stop (v ∷ line) =
    let d = degrees_of v stop in
    cond (lt d distance) (nearest_from k d (suc k) stop line) (nearest_from best distance (suc k) stop line)

-- 0 where no distance is a number
unfoldable pub nearest_of : List Point → Point → ℕ
nearest_of line stop = nearest_from 0 largest 0 stop line
