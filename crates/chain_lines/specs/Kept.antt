-- Which stops a pass keeps. Definitions only.
use Rattle.std.specs.Prelude.{ℕ, ◌+◌, Bool, false, ◌&&◌, not, cond, List, [], ◌∷◌, ltb, length, Option, Some, None}
use Rattle.lengths.specs.Line.{nowhere}
use Rattle.lengths.specs.declared.line.Point.{Point}
use Rattle.chain_lines.specs.declared.kept.Last.{Last}
use Rattle.chain_stretches.specs.Near.{is_near}
use Rattle.chain_lines.specs.Thin.{thinned}
use Rattle.chain_lines.specs.Stops.{point_or, points_below}

-- a point lies at the stop kept last
unfoldable pub is_dropped : Last → Point → Bool
is_dropped last p = ltb 0 last.kept && is_near last.at p

-- a stop is kept; one without a position is not
abbrev pub is_kept : Last → Option Point → Bool
is_kept last (Some p) = not (is_dropped last p)
is_kept last None = false

-- after it
abbrev pub after_of : Last → Option Point → Bool → Last
after_of last stop keep = cond keep (record { kept = last.kept + 1; at = point_or stop }) last

-- the last of some points
unfoldable pub last_or : Point → List Point → Point
last_or p [] = p
last_or p (q ∷ qs) = last_or q qs

-- so many are kept, and the last of them
abbrev pub last_of : List Point → Last
last_of kept = record { kept = length kept; at = last_or nowhere kept }

-- row i is kept: its stop is, after those before it
abbrev pub row_kept : (ℕ → Option Point) → ℕ → Bool
row_kept stop i = is_kept (last_of (thinned (points_below stop i))) (stop i)
