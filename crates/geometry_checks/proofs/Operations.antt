-- What each operation of geometry may take for granted where nothing is refused: no cause of any table is there. `Parts` of each crate of rules says what that gives.
use mathlib.Core.Path.{◌≡◌}
use lib.Dec.{T}
use Rattle.tables.specs.Pools.{Pools}
use Rattle.verdicts.specs.Refuse.{joined, refusal_of}
use Rattle.tables.specs.declared.bounds.Bounds.{Bounds}
use Rattle.tables.specs.declared.lent.Along.{Along}
use Rattle.tables.specs.declared.lent.LegAsked.{LegAsked}
use Rattle.tables.specs.declared.lent.Samples.{Samples}
use Rattle.tables.specs.declared.lent.Tables.{Tables}
use Rattle.verdicts.proofs.Passed.{numbered, Clear, clear_at, not_refused}
use Rattle.stop_rules.specs.Parts.{stops_causes}
use Rattle.trip_rules.specs.Parts.{trips_causes}
use Rattle.schedule_rules.specs.Parts.{calls_causes, placing_causes}
use Rattle.shape_rules.specs.Parts.{line_causes, measures_causes, points_causes, points_within_causes, shapes_causes}
use Rattle.lookup_rules.specs.Parts.{id_rows_causes}
use Rattle.asked_rules.specs.Parts.{leg_asked_causes}
use Rattle.geometry_checks.specs.Operations.{geometry_causes, leg_causes, interpolation_causes, calibration_causes}

module _ (p : Pools) where
  -- projection and backfill
  pub record Geometry (b : Bounds) (t : Tables) : Type 0 where
    pub stops : Clear p (stops_causes b t.stops)
    pub trips : Clear p (trips_causes b t.trips t.times.stop.n)
    pub calls : Clear p (calls_causes b t.times)
    pub placing : Clear p (placing_causes t.trips t.times t.shapes.first.n t.stops.lat.n)
    pub shapes : Clear p (shapes_causes b t.shapes t.points.lat.n)
    pub points : Clear p (points_causes t.points)

  pub geometry_parts : (b : Bounds) (t : Tables) → Clear p (geometry_causes b t) → Geometry b t
  unfolding geometry_causes
  geometry_parts b t h = let at = clear_at p _ h in record { stops = at 0; trips = at 1; calls = at 2; placing = at 3; shapes = at 4; points = at 5 }

  geometry_numbered : (b : Bounds) (t : Tables) → T (numbered (geometry_causes b t))
  unfolding geometry_causes joined
  geometry_numbered b t = tt

  pub geometry_holds : (b : Bounds) (t : Tables) → refusal_of p (geometry_causes b t) ≡ 0 → Geometry b t
  geometry_holds b t e = geometry_parts b t (not_refused p _ (geometry_numbered b t) e)

  -- leg drawing
  pub record Leg (b : Bounds) (t : Tables) (l : LegAsked) : Type 0 where
    pub geometry : Geometry b t
    pub trip_ids : Clear p (id_rows_causes b t.tripkeys b.trips t.trips.first.n)
    pub asked : Clear p (leg_asked_causes b l)

  leg_parts : (b : Bounds) (t : Tables) (l : LegAsked) → Clear p (leg_causes b t l) → Leg b t l
  unfolding leg_causes
  leg_parts b t l h = let at = clear_at p _ h in record { geometry = geometry_parts b t (at 0); trip_ids = at 1; asked = at 2 }

  leg_numbered : (b : Bounds) (t : Tables) (l : LegAsked) → T (numbered (leg_causes b t l))
  unfolding leg_causes geometry_causes joined
  leg_numbered b t l = tt

  pub leg_holds : (b : Bounds) (t : Tables) (l : LegAsked) → refusal_of p (leg_causes b t l) ≡ 0 → Leg b t l
  leg_holds b t l e = leg_parts b t l (not_refused p _ (leg_numbered b t l) e)

  -- interpolation alone
  pub record Interpolation (b : Bounds) (a : Along) : Type 0 where
    pub line : Clear p (line_causes b a.line)
    pub ends : Clear p (points_causes a.ends)
    pub measures : Clear p (measures_causes a.dists a.numbers a.dists.n)

  interpolation_parts : (b : Bounds) (a : Along) → Clear p (interpolation_causes b a) → Interpolation b a
  unfolding interpolation_causes
  interpolation_parts b a h = let at = clear_at p _ h in record { line = at 0; ends = at 1; measures = at 2 }

  interpolation_numbered : (b : Bounds) (a : Along) → T (numbered (interpolation_causes b a))
  unfolding interpolation_causes joined
  interpolation_numbered b a = tt

  pub interpolation_holds : (b : Bounds) (a : Along) → refusal_of p (interpolation_causes b a) ≡ 0 → Interpolation b a
  interpolation_holds b a e = interpolation_parts b a (not_refused p _ (interpolation_numbered b a) e)

  -- calibration alone
  pub record Calibration (b : Bounds) (s : Samples) : Type 0 where
    pub line : Clear p (line_causes b s.line)
    pub samples : Clear p (points_within_causes s.at b.calls)
    pub measures : Clear p (measures_causes s.dist s.numbers s.at.lat.n)

  calibration_parts : (b : Bounds) (s : Samples) → Clear p (calibration_causes b s) → Calibration b s
  unfolding calibration_causes
  calibration_parts b s h = let at = clear_at p _ h in record { line = at 0; samples = at 1; measures = at 2 }

  calibration_numbered : (b : Bounds) (s : Samples) → T (numbered (calibration_causes b s))
  unfolding calibration_causes joined
  calibration_numbered b s = tt

  pub calibration_holds : (b : Bounds) (s : Samples) → refusal_of p (calibration_causes b s) ≡ 0 → Calibration b s
  calibration_holds b s e = calibration_parts b s (not_refused p _ (calibration_numbered b s) e)
