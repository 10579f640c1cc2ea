-- The place and the position at a fraction of the way between two distances along a line. Definitions only.
use Rattle.stretches.specs.declared.drawing.Drawn.{Drawn}
use Rattle.std.specs.Prelude.{cond, List, ltb, Float, length, Option, Some, None}
use Rattle.lengths.specs.declared.line.Point.{Point}
use Rattle.line_parts.specs.Part.{whole_of}
use Rattle.first_stretch.specs.Search.{micro, stretch_at}
use Rattle.stretches.specs.Drawing.{draw_of}
use Rattle.stretches.specs.declared.spot.Spot.{Spot}
use Rattle.spans.specs.declared.span.Span.{Span}
use Rattle.spans.specs.Span.{span_of, target_of, feed_metres}

-- where a span is at a fraction of it in sailing direction
unfoldable pub spot_over : List Point → Span → Float → Spot
spot_over line span frac = stretch_at line (whole_of line) micro (target_of span frac)

-- the position there, if the span is not short
abbrev pub drawn_over : List Point → Option Span → Float → Option Drawn
drawn_over line (Some span) frac = Some (draw_of line (whole_of line) (spot_over line span frac))
drawn_over line None frac = None

-- between two distances in metres
unfoldable pub by_dist : List Point → Float → Float → Float → Option Drawn
by_dist line d₀ d₁ frac = cond (ltb (length line) 2) None (drawn_over line (span_of d₀ d₁) frac)

-- between two distances of a feed
unfoldable pub by_feed_dist : List Point → Float → Float → Float → Float → Float → Option Drawn
by_feed_dist line d₀ d₁ frac a b = by_dist line (feed_metres a b d₀) (feed_metres a b d₁) frac
