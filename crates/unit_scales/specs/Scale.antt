-- Units of distance, in metres, and the one that a measured ratio is near. Each operation is rounded once to binary64. Definitions only.
use Rattle.std.specs.Prelude.{ℕ, Bool, cond, ◌&&◌, List, [], ◌∷◌, Float}
use Rattle.std.specs.Float.{binary64}
use Rattle.std.specs.Float.Ieee.{of_int, sub, div, lt, le}
use Rattle.ieee.specs.Number.{abs_of, nought, one}
use Rattle.maths.specs.Series.{whole}

-- the float nearest to n / d: what a decimal of the Rust's text stands for, where n and d are floats themselves
unfoldable pub decimal : ℕ → ℕ → Float
unfolding of_int div
decimal n d = div binary64 (whole n) (whole d)

-- metre, kilometre, foot and mile
abbrev pub units : List Float
units = whole 1 ∷ whole 1000 ∷ decimal 3048 10000 ∷ decimal 1609344 1000 ∷ []

-- a ratio is above zero and within a quarter of a unit
unfoldable pub near_unit : Float → Float → Bool
near_unit ratio unit = lt nought ratio && le (abs_of (sub binary64 (div binary64 ratio unit) one)) (decimal 1 4)

-- the first of the units that the ratio is near, and else the ratio itself
unfoldable pub first_near : List Float → Float → Float
first_near [] ratio = ratio
first_near (unit ∷ us) ratio = cond (near_unit ratio unit) unit (first_near us ratio)

abbrev pub snap_unit_scale : Float → Float
snap_unit_scale ratio = first_near units ratio
