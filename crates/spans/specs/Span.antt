-- Two distances along a line, in metres, and the way that it is sailed between them. Definitions only.
use Rattle.std.specs.Prelude.{cond, Float, Option, Some, None}
use Rattle.std.specs.Float.{binary64}
use Rattle.std.specs.Float.Ieee.{add, sub, mul, div, lt, le}
use Rattle.floats.specs.Number.{one}
use Rattle.ieee.specs.Number.{abs_of, clamp01_of}
use Rattle.float_bits.specs.Single.{narrow_of}
use Rattle.maths.specs.Series.{whole}
use Rattle.ways.specs.Way.{turned_of}
use Rattle.ways.specs.declared.way.Way.{Way}
use Rattle.ways.specs.declared.way.Way.TheVariants.{With, Against}
use Rattle.spans.specs.declared.span.Span.{Span}

abbrev pub half : Float
half = div binary64 one (whole 2)

-- the span, unless it is under half a metre
unfoldable pub spread : Float → Float → Way → Option Span
spread lo hi way = cond (lt (abs_of (sub binary64 hi lo)) half) None (Some (record { lo = lo; hi = hi; way = way }))

-- from the distance d₀ to the distance d₁
unfoldable pub span_of : Float → Float → Option Span
span_of d₀ d₁ = cond (le d₀ d₁) (spread d₀ d₁ With) (spread d₁ d₀ Against)

-- the length along the line at a fraction of a span in sailing direction
unfoldable pub target_of : Span → Float → Float
target_of s frac = add binary64 s.lo (mul binary64 (sub binary64 s.hi s.lo) (turned_of s.way (clamp01_of frac)))

-- the metres of a feed's distance, with the calibration a + b·d
unfoldable pub feed_metres : Float → Float → Float → Float
feed_metres a b d = narrow_of (add binary64 a (mul binary64 b d))
