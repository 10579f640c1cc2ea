-- The first stretch that a target meets. Definitions only.
use Rattle.std.specs.Prelude.{ℕ, zero, suc, ◌+◌, Bool, ◌&&◌, cond, List, Float}
use Rattle.std.specs.Float.{binary64}
use Rattle.std.specs.Float.Ieee.{add, sub, div, le}
use Rattle.floats.specs.Number.{one}
use Rattle.ieee.specs.Number.{clamp01_of, max_of}
use Rattle.maths.specs.Series.{whole}
use Rattle.lengths.specs.declared.line.Point.{Point}
use Rattle.line_parts.specs.declared.part.Part.{Part}
use Rattle.stretches.specs.declared.spot.Spot.{Spot}
use Rattle.stretches.specs.declared.spot.Spot.TheVariants.{Stretch, NoStretch}
use Rattle.line_parts.specs.Part.{stretches, length_from}

-- 1e-6
unfoldable pub micro : Float
micro = div binary64 one (whole 1000000)

-- whether a target is on the stretch from the length `from` to the length `to`, or past it by no more than the tolerance
unfoldable pub meets : Float → Float → Float → Float → Bool
meets tolerance target from to = le from target && le target (add binary64 to tolerance)

-- which fraction of that stretch is behind it
unfoldable pub fraction_of : Float → Float → Float → Float
fraction_of target from to = clamp01_of (div binary64 (sub binary64 target from) (max_of (sub binary64 to from) micro))

-- Of n stretches, from the j-th after vertex a on, the first that a target meets. `sums` has the length from vertex a to the start of each.
unfoldable pub first_met : (ℕ → Float) → ℕ → Float → Float → ℕ → ℕ → Spot
first_met sums a tolerance target j zero = NoStretch
first_met sums a tolerance target j (suc n) =
    cond (meets tolerance target (sums j) (sums (suc j))) (Stretch (a + j) (fraction_of target (sums j) (sums (suc j))))
    (first_met sums a tolerance target (suc j) n)

-- of a part's stretches
unfoldable pub stretch_at : List Point → Part → Float → Float → Spot
stretch_at line part tolerance target = first_met (length_from line part.first) part.first tolerance target 0 (stretches part)
