-- `journey_points::stitch::draw_legs` meets its contract. The loop's invariant: what is left of the legs leads to the drawing that all of them do.
use Rattle.std.specs.Prelude.{None}
use borrow.Author.Rules.{rules}
use Prim.Native.Nat.{◌-◌, ◌≤◌}
use native.Mathlib.Omega.{arith}
use Rattle.point_columns.specs.Columns.{SameColumns, drawing}
use Rattle.journey_points.specs.Journey.{leg_positions, journey_points}
use Rattle.journey_points.proofs.Stitching.{Stitching, begin, next_leg, over, finished}
use Rattle.journey_points.proofs.stitch.draw_legs.Given as goal

abbrev pub invariant-loop-k : goal.invariant-loop-k
invariant-loop-k l =
    (l.legs ≤ 4294967295) × SameColumns l.initial.sheet l.sheet × Stitching (leg_positions l.lent.bytes.now l.lent.words.now l.lent.reals.now l.j) l.legs (drawing l.initial.sheet None 0) (drawing l.sheet l.drawn.last l.drawn.at) l.k
