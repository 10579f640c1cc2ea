-- What samples that are lent tell. Definitions only.
use Rattle.unit_scales.specs.declared.metres.Affine.{Affine}
use Rattle.std.specs.Prelude.{List, [], ◌∷◌, Float, Option, Some, None}
use Rattle.lengths.specs.Line.{line_of}
use Rattle.lengths.specs.declared.line.Point.{Point}
use Rattle.tables.specs.Pools.{part_of}
use Rattle.tables.specs.declared.lent.Points.{Points}
use Rattle.tables.specs.declared.lent.Samples.{Samples}
use Rattle.calibration.specs.Samples.{samples_affine, samples_of}
use Rattle.unit_scales.specs.Scale.{snap_unit_scale}

-- the scale of the first of these ratios
unfoldable pub first_scale : List Float → Option Float
first_scale [] = None
first_scale (ratio ∷ ratios) = Some (snap_unit_scale ratio)

-- the points that two columns lend
abbrev pub lent_points : List Float → Points → List Point
lent_points reals p = line_of (part_of reals p.lat) (part_of reals p.lon)

-- what the samples that are lent tell
unfoldable pub lent_affine : List Float → List Float → Samples → Option Affine
lent_affine reals dists s = samples_affine (lent_points reals s.line) (samples_of (lent_points reals s.at) (part_of dists s.dist))
