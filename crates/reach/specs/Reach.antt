-- How far a way reaches at least, from what the haversine takes the root of. Definitions only.
use Rattle.std.specs.Prelude.{◌≡◌, Bool, true, false, ◌&&◌, Float}
use Rattle.std.specs.Float.{binary64}
use Rattle.std.specs.Float.Ieee.{mul, div, lt, le, of_bits}
use Rattle.floats.specs.Number.{one}
use Rattle.maths.specs.Series.{whole}
use Rattle.sphere_lengths.specs.Length.{radius, way_of}

-- the divisor of a halving, at most: 2.125
abbrev pub divisor : Float
divisor = of_bits binary64 0x4001_0000_0000_0000

-- the sum of the series, at least: 245 / 256
abbrev pub series : Float
series = of_bits binary64 0x3fee_a000_0000_0000

-- the way of a sine of an eighth or less, at least
unfoldable pub low_of : Float → Float
low_of s = mul binary64 (mul binary64 (whole 2) radius) (mul binary64 (whole 4) (mul binary64 (div binary64 (div binary64 (div binary64 s one) divisor) divisor) series))

-- a sixty-fourth
abbrev pub nearby : Float
nearby = of_bits binary64 0x3f90_0000_0000_0000

-- past the limit, and no further than that
unfoldable pub is_beyond : Float → Float → Bool
is_beyond limit a = lt limit a && le a nearby

-- no way past the limit is as short as `most`
pub record Beyond (most limit : Float) : Type 0 where
  pub longer : (a : Float) → is_beyond limit a ≡ true → le (way_of a) most ≡ false
