-- The place between two distances of lent rows; none where fewer are lent than it reads. Definitions only.
use Rattle.stretches.specs.declared.drawing.Drawn.{Drawn}
use Rattle.std.specs.Prelude.{cond, ◌||◌, List, ltb, Float, length, get_or, Option, None}
use Rattle.std.specs.Float.{nan}
use Rattle.lengths.specs.declared.line.Point.{Point}
use Rattle.by_distance.specs.Interpolate.{by_dist, by_feed_dist}

-- between two distances in metres, at a fraction
unfoldable pub by_dist_lent : List Point → List Float → List Float → Option Drawn
by_dist_lent line ds xs = cond (ltb (length ds) 2 || ltb (length xs) 1) None (by_dist line (get_or ds 0 nan) (get_or ds 1 nan) (get_or xs 0 nan))

-- between two of a feed, at a fraction, with the calibration a + b·d
unfoldable pub by_feed_lent : List Point → List Float → List Float → Option Drawn
by_feed_lent line ds xs =
    cond (ltb (length ds) 2 || ltb (length xs) 3) None (by_feed_dist line (get_or ds 0 nan) (get_or ds 1 nan) (get_or xs 0 nan) (get_or xs 1 nan) (get_or xs 2 nan))
