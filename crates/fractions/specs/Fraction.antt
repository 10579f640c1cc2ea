-- How much of a leg has gone by. A difference of moments that would be below 0 is 0. Each operation is rounded once to binary64. Definitions only.
use Rattle.std.specs.Prelude.{ℕ, ◌-◌, max, Bool, Float}
use Rattle.std.specs.Float.{binary64}
use Rattle.std.specs.Float.Ieee.{of_int, sub, div, lt}
use Rattle.floats.specs.Number.{one}
use Rattle.ieee.specs.Number.{clamp01_of, max_of}
use Rattle.maths.specs.Series.{whole}

-- of the leg from a departure to the next arrival, which counts as a second at least
unfoldable pub leg_fraction : ℕ → ℕ → ℕ → Float
leg_fraction clock dep arr = clamp01_of (div binary64 (whole (clock - dep)) (whole (max (arr - dep) 1)))

-- the seconds of a scheduled run, 30 at least
unfoldable pub run_over : ℕ → Float
run_over run = max_of (whole run) (whole 30)

-- of the leg to an arrival, whose scheduled run is known
unfoldable pub approach_fraction : ℕ → ℕ → ℕ → Float
approach_fraction clock arr run = clamp01_of (sub binary64 one (div binary64 (whole (arr - clock)) (run_over run)))

-- 0.92
unfoldable pub nearly_over : Float
unfolding of_int div
nearly_over = div binary64 (whole 92) (whole 100)

-- an approach is nearly over
abbrev pub is_incoming : Float → Bool
is_incoming fraction = lt nearly_over fraction
