-- Samples, by the rows of their columns. Assumes nothing.
use Rattle.std.proofs.Common.{◌≡◌, ℕ, zero, suc, ◌<◌, min, List, [], ◌∷◌, length, get_or, refl, arith}
use lib.Ieee.{Float, nan}
use Rattle.lengths.specs.Line.{nowhere}
use Rattle.lengths.specs.declared.line.Point.{Point}
use Rattle.calibration.specs.Samples.{no_sample, samples_of}

-- there are as many as there are points and distances
pub sample_count : (ps : List Point) (ds : List Float) → length (samples_of ps ds) ≡ min (length ps) (length ds)
unfolding samples_of
sample_count [] ds = omega arith
sample_count (p ∷ ps) [] = omega arith
sample_count (p ∷ ps) (d ∷ ds) = omega (arith, sample_count ps ds)

-- a sample has its point and its distance
pub sample_at : (ps : List Point) (ds : List Float) (k : ℕ) → k < length (samples_of ps ds) →
    get_or (samples_of ps ds) k no_sample ≡ record { at = get_or ps k nowhere; dist = get_or ds k nan }
unfolding samples_of
sample_at [] ds k h = absurd (omega arith)
sample_at (p ∷ ps) [] k h = absurd (omega arith)
sample_at (p ∷ ps) (d ∷ ds) zero h = refl
sample_at (p ∷ ps) (d ∷ ds) (suc k) h = sample_at ps ds k (omega arith)
