-- `journey_points::stitch::draw_points` meets its contract. The loop's invariant: what is left of the points leads to the drawing that all of them do.
use borrow.Author.Rules.{rules}
use Prim.Native.Nat.{◌-◌}
use native.Mathlib.Omega.{arith}
use mathlib.Core.Path.{◌∙◌}
use Rattle.point_columns.specs.Columns.{SameColumns, drawing}
use Rattle.journey_points.specs.Journey.{point_position}
use Rattle.journey_points.proofs.Stitching.{Going, start, more, done}
use Rattle.journey_points.proofs.stitch.draw_points.Given as goal

abbrev pub invariant-loop-k : goal.invariant-loop-k
invariant-loop-k l =
    SameColumns l.initial.sheet l.sheet × Going (point_position l.reals l.points) l.first l.n (drawing l.initial.sheet l.initial.drawn.last l.initial.drawn.at) (drawing l.sheet l.drawn.last l.drawn.at) l.k
