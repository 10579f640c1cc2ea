-- Two points that lie at one place. Definitions only.
use Rattle.std.specs.Prelude.{Bool, ◌&&◌, Float}
use Rattle.std.specs.Float.{binary64}
use Rattle.std.specs.Float.Ieee.{sub, lt}
use Rattle.ieee.specs.Number.{abs_of}
use Rattle.lengths.specs.declared.line.Point.{Point}
use Rattle.routes.specs.Route.{nano}

-- two coordinates differ by less than 1e-9; NaN never does
unfoldable pub is_close : Float → Float → Bool
is_close x y = lt (abs_of (sub binary64 x y)) nano

-- both coordinates of two points do
unfoldable pub is_near : Point → Point → Bool
is_near p q = is_close p.lat q.lat && is_close p.lon q.lon
