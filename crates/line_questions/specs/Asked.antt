-- The position that each question asks for, of lent rows; none where fewer are lent than it reads. Definitions only.
use Rattle.stretches.specs.declared.drawing.Drawn.{Drawn}
use Rattle.std.specs.Prelude.{cond, ◌||◌, List, ltb, Float, length, get_or, Option, None}
use Rattle.std.specs.Float.{nan}
use Rattle.lengths.specs.Line.{line_of, nowhere}
use Rattle.lengths.specs.declared.line.Point.{Point}
use Rattle.routes.specs.Route.{along_vertices}
use Rattle.polylines.specs.Polyline.{polyline_of}
use Rattle.tables.specs.Pools.{part_of}
use Rattle.tables.specs.declared.lent.Along.{Along}
use Rattle.lent_distances.specs.Distances.{by_dist_lent, by_feed_lent}
use Rattle.line_questions.specs.declared.asked.Question.{Question}
use Rattle.line_questions.specs.declared.asked.Question.TheVariants.{ByDistance, ByFeedDistance, AlongVertices, Polyline}

-- at a fraction of the whole line
unfoldable pub vertices_lent : List Point → List Float → Option Drawn
vertices_lent line xs = cond (ltb (length xs) 1) None (along_vertices line (get_or xs 0 nan))

-- at a fraction of the part between the vertices nearest to two ends
unfoldable pub polyline_lent : List Point → List Point → List Float → Option Drawn
polyline_lent line ends xs = cond (ltb (length ends) 2 || ltb (length xs) 1) None (polyline_of line (get_or ends 0 nowhere) (get_or ends 1 nowhere) (get_or xs 0 nan))

abbrev pub position_lent : Question → List Point → List Point → List Float → List Float → Option Drawn
position_lent ByDistance line ends ds xs = by_dist_lent line ds xs
position_lent ByFeedDistance line ends ds xs = by_feed_lent line ds xs
position_lent AlongVertices line ends ds xs = vertices_lent line xs
position_lent Polyline line ends ds xs = polyline_lent line ends xs

-- the position asked for, of what is lent
unfoldable pub along_lent : List Float → List Float → Question → Along → Option Drawn
along_lent reals dists question a =
    position_lent question (line_of (part_of reals a.line.lat) (part_of reals a.line.lon)) (line_of (part_of reals a.ends.lat) (part_of reals a.ends.lon))
    (part_of dists a.dists) (part_of reals a.numbers)
