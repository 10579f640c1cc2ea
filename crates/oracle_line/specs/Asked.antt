-- What a caller in C asks and is told: a stop's position, a calibration, a drawn position. Definitions only.
use Rattle.unit_scales.specs.declared.metres.Affine.{Affine}
use Rattle.lengths.specs.declared.line.Point.{Point}
use Rattle.stretches.specs.declared.drawing.Drawn.{Drawn}
use Rattle.std.specs.Prelude.{Bool, true, false, List, Float, Option, Some, None}
use Rattle.lengths.specs.Line.{line_of}
use Rattle.calibration.specs.Affine.{shape_dist_affine}

-- a stop's position
abbrev pub position_of : Bool → Float → Float → Option Point
position_of true lat lon = Some (record { lat = lat; lon = lon })
position_of false lat lon = None

-- the calibration of a line by two samples, each a position and a distance
abbrev pub affine_asked : List Float → List Float → Float → Float → Float → Float → Float → Float → Option Affine
affine_asked lat lon y0 x0 d0 y1 x1 d1 =
    shape_dist_affine (line_of lat lon) (record { at = record { lat = y0; lon = x0 }; dist = d0 }) (record { at = record { lat = y1; lon = x1 }; dist = d1 })

-- there is an answer; its start and its scale, or what was there before
abbrev pub is_by : Option Affine → Bool
is_by (Some f) = true
is_by None = false

abbrev pub start_or : Option Affine → Float → Float
start_or (Some f) old = f.a
start_or None old = old

abbrev pub scale_or : Option Affine → Float → Float
scale_or (Some f) old = f.b
scale_or None old = old

-- whether there is a position
abbrev pub is_at : Option Drawn → Bool
is_at (Some d) = true
is_at None = false

-- each number of it, or what was there before
abbrev pub lat_or : Option Drawn → Float → Float
lat_or (Some d) old = d.lat
lat_or None old = old

abbrev pub lon_or : Option Drawn → Float → Float
lon_or (Some d) old = d.lon
lon_or None old = old

abbrev pub bearing_or : Option Drawn → Float → Float
bearing_or (Some d) old = d.bearing
bearing_or None old = old
