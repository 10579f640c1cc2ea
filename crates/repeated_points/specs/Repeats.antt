-- Whether a point is another than the last. Definitions only.
use Rattle.std.specs.Prelude.{Bool, not, ◌&&◌}
use Rattle.std.specs.Float.Ieee.{eq}
use Rattle.lengths.specs.declared.line.Point.{Point}

-- two points differ in latitude or in longitude: zeros of either sign do not, and NaN does
unfoldable pub differ : Point → Point → Bool
differ q p = not (eq q.lat p.lat && eq q.lon p.lon)
