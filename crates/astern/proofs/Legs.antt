-- What a voyage of the tables has of its legs: what is granted of them puts their places in order, and without any grant places agree with coordinates. Assumes nothing.
use Rattle.std.specs.Prelude.{Option, Some, None}
use Prim.Native.Nat.{ℕ, ◌≤◌}
use native.Mathlib.Omega.{arith}
use mathlib.Core.Path.{◌≡◌, refl}
use lib.ListN.{length, get_or}
use Rattle.ids.specs.declared.pool.Span.{Span}
use Rattle.lengths.specs.Line.{line_of}
use Rattle.lengths.proofs.Rows.{vertex_count}
use Rattle.tables.specs.Pools.{Pools}
use Rattle.tables.specs.Bounds.{chart_bounds}
use Rattle.verdicts.specs.Refuse.{refusal_of}
use Rattle.tables.specs.declared.lent.Tables.{Tables}
use Rattle.checks.specs.Operations.{estimate_causes}
use Rattle.trip_rows.specs.Rows.{shape_column}
use Rattle.paths.specs.declared.path.End.{End}
use Rattle.leg_order.proofs.Agree.{agrees}
use Rattle.leg_order.proofs.Chosen.{path_few}
use Rattle.leg_order.proofs.Onward.{never_earlier}
use Rattle.leg_paths.specs.Leg.{leg_count, leg_span, leg_shape, leg_stops}
use Rattle.leg_paths.proofs.Legs.{chain_few, path_is_chosen}
use Rattle.previous.specs.Before.{prev_row}
use Rattle.calls.specs.Calls.{reported_of, call_rows, call_stops}
use Rattle.sailings.specs.Sailing.{sailing_trip}
use Rattle.estimate_facts.proofs.Trips.{column_few, sailing_trip_is, trip_rows, rows_few, span_few}
use Rattle.voyage_order.specs.Agree.{Agreed, AgreedApproach, AgreedLegs}
use Rattle.voyage_order.specs.Astern.{Ordered, OrderedApproach, Steady}
use Rattle.call_places.specs.Places.{call_end}
use Rattle.plans.specs.Plan.{course_of, row_end, leg_between, approach_from, approach_to, voyage_from, voyage_of}
use Rattle.astern.specs.Clocks.{GrantedLeg, GrantedApproach, GrantedVoyage}

module _ (p : Pools) (t : Tables) where
  -- the first call, and the row before it
  abbrev first : End
  first = call_end p.words p.reals t (call_rows p.bytes p.words (reported_of t)) (call_stops p.bytes p.words (reported_of t)) 0

  abbrev before : Option ℕ
  before =
      prev_row p.bytes p.words t.trips t.times t.stops (sailing_trip p.bytes p.words p.times t) first.sequence
      (get_or (call_stops p.bytes p.words (reported_of t)) 0 0)

  -- ---- a leg agrees
  module _ (trip : Option ℕ) where
    agreed : (k : ℕ) (from to : End) → Agreed k (leg_between p.bytes p.words p.reals p.dists t trip from to)
    unfolding leg_between
    agreed k from to =
        agrees k (leg_shape p.bytes p.words p.reals (course_of t) trip) (leg_stops p.bytes p.words p.reals (course_of t) trip from to) from.at to.at
        (path_is_chosen p.bytes p.words p.reals p.dists (course_of t) from to trip)

    agreed_approach : (row : Option ℕ) (to : End) → AgreedApproach (approach_from p.bytes p.words p.reals p.dists t trip row to)
    agreed_approach (Some row) to = agreed 1 (row_end p.words p.reals t row) to
    agreed_approach None to = tt

  pub voyage_agreed : AgreedLegs (voyage_of p t)
  unfolding voyage_of voyage_from approach_to
  voyage_agreed = record { legs = λ k l. agreed (sailing_trip p.bytes p.words p.times t) _ _ _; first = agreed_approach (sailing_trip p.bytes p.words p.times t) before first }

  -- ---- and is in order
  module _ (e : refusal_of p (estimate_causes chart_bounds t) ≡ 0) where
    line_of_few : (points : Span) → length (line_of (shape_column p.reals t.points.lat points) (shape_column p.reals t.points.lon points)) ≤ points.n
    line_of_few points =
        omega (arith, vertex_count (shape_column p.reals t.points.lat points) (shape_column p.reals t.points.lon points), column_few p.reals t.points.lat points)

    span_of : (trip : Option ℕ) → sailing_trip p.bytes p.words p.times t ≡ trip → (leg_span p.bytes p.words (course_of t) trip).n ≤ 8192
    span_of (Some k) f = span_few p t e k (sailing_trip_is p t e k f)
    span_of None f = omega arith

    count_of : (trip : Option ℕ) → sailing_trip p.bytes p.words p.times t ≡ trip → leg_count p.words (course_of t) trip ≤ 1000000
    count_of (Some k) f = omega (arith, trip_rows p t e k (sailing_trip_is p t e k f), rows_few p t e)
    count_of None f = omega arith

    module _ (trip : Option ℕ) (f : sailing_trip p.bytes p.words p.times t ≡ trip) where
      shape_few : length (leg_shape p.bytes p.words p.reals (course_of t) trip) ≤ 8192
      unfolding leg_shape
      shape_few = omega (arith, line_of_few (leg_span p.bytes p.words (course_of t) trip), span_of trip f)

      ordered : (k : ℕ) (from to : End) → GrantedLeg (leg_between p.bytes p.words p.reals p.dists t trip from to) →
          Ordered k (leg_between p.bytes p.words p.reals p.dists t trip from to)
      unfolding leg_between
      ordered k from to granted =
          let shape = leg_shape p.bytes p.words p.reals (course_of t) trip in
          let chain = leg_stops p.bytes p.words p.reals (course_of t) trip from to in
          let chosen = path_is_chosen p.bytes p.words p.reals p.dists (course_of t) from to trip in
          never_earlier k shape chain from.at to.at chosen granted
          (path_few shape chain from.at to.at chosen shape_few (chain_few p.bytes p.words p.reals p.dists (course_of t) from to trip (count_of trip f)))

      ordered_approach : (row : Option ℕ) (to : End) → GrantedApproach (approach_from p.bytes p.words p.reals p.dists t trip row to) →
          OrderedApproach (approach_from p.bytes p.words p.reals p.dists t trip row to)
      ordered_approach (Some row) to granted = ordered 1 (row_end p.words p.reals t row) to granted
      ordered_approach None to granted = tt

    pub voyage_steady : GrantedVoyage (voyage_of p t) → Steady (voyage_of p t)
    unfolding voyage_of voyage_from approach_to
    voyage_steady g =
        record {
          timely = g.times;
          legs = λ k l. ordered (sailing_trip p.bytes p.words p.times t) refl _ _ _ (g.legs k l);
          first = ordered_approach (sailing_trip p.bytes p.words p.times t) refl before first g.approach;
        }
