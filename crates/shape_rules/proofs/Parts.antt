-- What is so of shapes, points and measures where no cause of them is there. A number after `at` is a cause's place in the part's list.
-- `Rattle.verdicts.proofs.Facts` has what each kind of fact says, and `counted` for the part's columns and counts.
use Prim.Native.Nat.{ℕ, ◌+◌}
use mathlib.Core.Bool.{false}
use lib.ListN.{drop}
use Rattle.ids.specs.Pool.{id_of}
use Rattle.ids.specs.Rows.{Ascending}
use Rattle.ids.specs.declared.pool.Span.{Span}
use Rattle.tables.specs.Pools.{Pools}
use Rattle.tables.specs.Marks.{always}
use Rattle.tables.specs.declared.bounds.Bounds.{Bounds}
use Rattle.tables.specs.declared.lent.Points.{Points}
use Rattle.tables.specs.declared.lent.Shapes.{Shapes}
use Rattle.verdicts.proofs.Passed.{Clear, clear_drop, clear_part}
use Rattle.verdicts.proofs.Facts.{Below, below, Finite, finite, Numbers, numbers, OnGlobe, on_the_globe, RangesWithin, ranges_within, by_id, IdsHold, ids_hold}
use Rattle.shape_rules.specs.Parts.{shapes_causes, points_causes, points_within_causes, measures_causes}

module _ (p : Pools) where
  module _ (b : Bounds) (s : Shapes) (points : ℕ) (h : Clear p (shapes_causes b s points)) where
    at_shapes : (k : ℕ) → Clear p (drop k (shapes_causes b s points))
    at_shapes = clear_drop p (shapes_causes b s points) h

    pub shape_ids : IdsHold p s.id always false s.first.n b.id
    shape_ids = ids_hold p _ _ _ _ _ (clear_part p (shapes_causes b s points) h 0 4)

    pub shape_ids_ascend : Ascending (id_of p.bytes p.words s.id) s.first.n
    shape_ids_ascend = by_id p _ _ (at_shapes 8).0

    pub shape_points_below : Below p s.count always s.first.n (b.points + 1)
    shape_points_below = below p _ _ _ _ (at_shapes 5).0 (at_shapes 7).0

    pub shape_points_within : RangesWithin p s.first s.count s.first.n points
    shape_points_within = ranges_within p _ _ _ _ (at_shapes 4).0 (at_shapes 5).0 (at_shapes 9).0

  module _ (q : Points) (h : Clear p (points_causes q)) where
    at_points : (k : ℕ) → Clear p (drop k (points_causes q))
    at_points = clear_drop p (points_causes q) h

    pub points_on_globe : OnGlobe p q.lat q.lon always q.lat.n
    points_on_globe = on_the_globe p _ _ _ _ (at_points 0).0 (at_points 1).0 (at_points 2).0

  module _ (q : Points) (most : ℕ) (h : Clear p (points_within_causes q most)) where
    at_points_within : (k : ℕ) → Clear p (drop k (points_within_causes q most))
    at_points_within = clear_drop p (points_within_causes q most) h

    pub line_on_globe : OnGlobe p q.lat q.lon always q.lat.n
    line_on_globe = on_the_globe p _ _ _ _ (at_points_within 1).0 (at_points_within 2).0 (at_points_within 3).0

  module _ (ds ns : Span) (n : ℕ) (h : Clear p (measures_causes ds ns n)) where
    at_measures : (k : ℕ) → Clear p (drop k (measures_causes ds ns n))
    at_measures = clear_drop p (measures_causes ds ns n) h

    pub measures_finite : Finite p ds always n
    measures_finite = finite p _ _ _ (at_measures 0).0 (at_measures 2).0

    pub measures_numbers : Numbers p ns ns.n
    measures_numbers = numbers p _ _ (at_measures 1).0 (at_measures 3).0
