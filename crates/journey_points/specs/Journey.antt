-- The points of a journey. Definitions only.
use Rattle.std.specs.Prelude.{ℕ, zero, suc, cond, List, [], ◌∷◌, ◌++◌, eqb, ltb, Float, Option, Some, None}
use Rattle.ids.specs.Pool.{cell_of}
use Rattle.ids.specs.declared.pool.Span.{Span}
use Rattle.columns.specs.Rows.{bit_of}
use Rattle.lengths.specs.declared.line.Point.{Point}
use Rattle.tables.specs.declared.lent.Points.{Points}
use Rattle.trip_rows.specs.Rows.{real_of}
use Rattle.trip_vertices.specs.Vertices.{positions_from}
use Rattle.point_columns.specs.Drawn.{drawn_from}
use Rattle.journey_rules.specs.declared.lent.JourneyLegs.{JourneyLegs}
use Rattle.repeated_points.specs.Repeats.{differ}

-- a point of a table of points
unfoldable pub point_at : List Float → Points → ℕ → Point
point_at reals points k = record { lat = real_of reals points.lat k; lon = real_of reals points.lon k }

abbrev pub point_position : List Float → Points → ℕ → Option Point
point_position reals points k = Some (point_at reals points k)

-- where a walk starts or ends, if that is known
unfoldable pub end_at : List ℕ → List Float → Points → Span → ℕ → Option Point
end_at bytes reals ends known leg = cond (eqb (bit_of bytes known leg) 0) None (Some (point_at reals ends leg))

abbrev pub end_positions : List ℕ → List Float → JourneyLegs → ℕ → List (Option Point)
end_positions bytes reals j leg = end_at bytes reals j.start j.started leg ∷ end_at bytes reals j.end j.ended leg ∷ []

-- a leg's own points
abbrev pub own_positions : List ℕ → List Float → JourneyLegs → ℕ → List (Option Point)
own_positions words reals j leg = positions_from (point_position reals j.points) (cell_of words j.first leg) (cell_of words j.count leg)

-- what is to be drawn of a leg: its own points; of a walk of fewer than two points its start and its end
unfoldable pub leg_positions : List ℕ → List ℕ → List Float → JourneyLegs → ℕ → List (Option Point)
leg_positions bytes words reals j leg =
    cond (eqb (bit_of bytes j.walk leg) 0) (own_positions words reals j leg)
    (cond (ltb (cell_of words j.count leg) 2) (end_positions bytes reals j leg) (own_positions words reals j leg))

-- of n legs, one after another, from a leg on
unfoldable pub legs_from : (ℕ → List (Option Point)) → ℕ → ℕ → List (Option Point)
legs_from leg k zero = []
legs_from leg k (suc n) = leg k ++ legs_from leg (suc k) n

-- the points of a journey: each unless it is the last one drawn
unfoldable pub journey_points : List ℕ → List ℕ → List Float → JourneyLegs → List Point
journey_points bytes words reals j = drawn_from differ None (legs_from (leg_positions bytes words reals j) 0 j.walk.n)
