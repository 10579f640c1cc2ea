-- The points of a leg: along the line of the trip's shape, or from stop to stop. Definitions only.
use Rattle.std.specs.Prelude.{ℕ, suc, ◌-◌, cond, List, eqb, length, take, drop, get_or, Float, Option, None}
use Rattle.lengths.specs.declared.line.Point.{Point}
use Rattle.line_parts.specs.declared.part.Part.{Part}
use Rattle.projection.specs.Projection.{projection_of}
use Rattle.point_columns.specs.Drawn.{drawn_from}
use Rattle.leg_parts.specs.Parts.{ends_of, part_between, apart}
use Rattle.leg_parts.specs.declared.ends.Ends.{Ends}
use Rattle.trip_rows.specs.Rows.{row_position}
use Rattle.trip_vertices.specs.Vertices.{positions_from}
use Rattle.leg_points.specs.declared.leg.LegRows.{LegRows}

-- where the stops of a leg's trip are
abbrev pub trip_positions : List ℕ → List ℕ → List Float → LegRows → List (Option Point)
trip_positions bytes words reals leg = positions_from (row_position bytes words reals leg.stops leg.calls) leg.first leg.count

-- the leg's two stops among them
abbrev pub ends_of_leg : LegRows → Ends
ends_of_leg leg = ends_of leg.count leg.from leg.to

-- the vertex of stop k of a trip, in the projection of all its stops
abbrev pub vertex_of : List Point → List (Option Point) → ℕ → Option ℕ
vertex_of line stops k = get_or (projection_of line stops) k None

-- the part of the line between the leg's stops
unfoldable pub leg_part : List Point → List (Option Point) → Ends → Part
leg_part line stops leg = part_between line (vertex_of line stops leg.board) (vertex_of line stops leg.alight)

-- the vertices of a part, its last with them
unfoldable pub vertices_of : List Point → Part → List Point
vertices_of line part = take (suc part.last - part.first) (drop part.first line)

-- along the line
unfoldable pub part_drawn : List Point → List (Option Point) → Ends → List Point
part_drawn line stops leg = vertices_of line (leg_part line stops leg)

-- from stop to stop: those that have a position, each unless it is not apart from the last drawn
unfoldable pub stops_drawn : List (Option Point) → Ends → List Point
stops_drawn stops leg = drawn_from apart None (take (suc leg.alight - leg.board) (drop leg.board stops))

-- the points of a leg: along the line if it has a vertex
unfoldable pub leg_points : List Point → List (Option Point) → Ends → List Point
leg_points line stops leg = cond (eqb (length line) 0) (stops_drawn stops leg) (part_drawn line stops leg)
