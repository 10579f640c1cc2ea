-- Samples in columns, and what all of them tell. Definitions only.
use Rattle.unit_scales.specs.declared.metres.Affine.{Affine}
use Rattle.std.specs.Prelude.{◌-◌, cond, List, [], ◌∷◌, length, nat_lt, slice_index_or, Float, Option, None}
use Rattle.std.specs.Float.{nan}
use Rattle.lengths.specs.Line.{nowhere}
use Rattle.lengths.specs.declared.line.Point.{Point}
use Rattle.calibration.specs.Affine.{shape_dist_affine}
use Rattle.calibration.specs.declared.affine.Sample.{Sample}

-- the samples at these points with these distances, as many as there are of both
unfoldable pub samples_of : List Point → List Float → List Sample
samples_of [] ds = []
samples_of (p ∷ ps) [] = []
samples_of (p ∷ ps) (d ∷ ds) = record { at = p; dist = d } ∷ samples_of ps ds

-- what a sample that is not there reads as
abbrev pub no_sample : Sample
no_sample = record { at = nowhere; dist = nan }

-- the first and the last tell, where there are two or more
unfoldable pub samples_affine : List Point → List Sample → Option Affine
samples_affine line samples =
    cond (nat_lt (length samples) 2) None (shape_dist_affine line (slice_index_or samples 0 no_sample) (slice_index_or samples (length samples - 1) no_sample))
