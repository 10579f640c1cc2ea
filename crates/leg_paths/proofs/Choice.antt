-- A leg's shape as it is read, and how its path is chosen. Assumes nothing.
use Rattle.std.specs.Prelude.{Option, Some, None}
use Prim.Native.Nat.{ℕ, ◌<◌, ◌≤◌}
use mathlib.Core.Path.{◌≡◌, refl, sym, ap, subst, ◌∙◌}
use mathlib.Core.Bool.{Bool, true, false, cond}
use mathlib.Core.List.{List}
use lib.Dec.{ltb}
use lib.Ieee.{Float}
use lib.ListN.{length}
use borrow.Author.Tests.{lt-ltb, le-ltb}
use Rattle.ids.specs.Pool.{cell_of}
use Rattle.ids.specs.declared.pool.Span.{Span}
use Rattle.lengths.specs.Line.{line_of}
use Rattle.spans.specs.declared.span.Span.{Span as Distances}
use Rattle.stop_routes.specs.Routed.{route_between}
use Rattle.trip_rows.specs.Rows.{shape_column}
use Rattle.courses.specs.declared.course.Course.{Course}
use Rattle.chain_rows.specs.Rows.{spanned, leg_chain}
use Rattle.chain_rows.specs.declared.chain.Chain.{Chain}
use Rattle.paths.specs.Path.{over_chain, over_route, over_span, path_of}
use Rattle.paths.specs.declared.path.End.{End}
use Rattle.paths.specs.declared.path.Path.TheVariants.{ByDistance}
use Rattle.leg_paths.specs.Leg.{leg_count, leg_span, leg_shape, leg_rows, leg_stops, trip_spanned, trip_path}

-- the shape, of the two columns that are read
pub shape_is : (bytes words : List ℕ) (reals : List Float) (c : Course) (trip : Option ℕ) (span : Span) (lat lon : List Float) → span ≡ leg_span bytes words c trip →
    lat ≡ shape_column reals c.points.lat span → lon ≡ shape_column reals c.points.lon span → line_of lat lon ≡ leg_shape bytes words reals c trip
unfolding leg_shape
shape_is bytes words reals c trip span lat lon e a b = rw (a, b, e)

-- the rows and ends of a leg's chain
module _ (words : List ℕ) (c : Course) (from to : End) where
  count_by : (trip : ℕ) (b : Bool) →
      (cond b (spanned words c.trips trip to.sequence from.sequence true from.at to.at) (spanned words c.trips trip from.sequence to.sequence false from.at to.at)).count
      ≡ cell_of words c.trips.count trip
  count_by trip true = refl
  count_by trip false = refl

  count_is : (trip : Option ℕ) → (leg_rows words c trip from to).count ≡ leg_count words c trip
  unfolding leg_chain
  count_is (Some trip) = count_by trip (ltb to.sequence from.sequence)
  count_is None = refl

  pub in_reach : (trip : Option ℕ) (chain : Chain) → leg_count words c trip ≤ 1000000 → chain ≡ leg_rows words c trip from to → chain.count ≤ 1000000
  in_reach trip chain h e = subst (λ (n : ℕ). n ≤ 1000000) (sym (ap (λ (x : Chain). x.count) e ∙ count_is trip)) h

  starts_by : (trip : ℕ) (b : Bool) →
      (cond b (spanned words c.trips trip to.sequence from.sequence true from.at to.at) (spanned words c.trips trip from.sequence to.sequence false from.at to.at)).from
      ≡ from.at
  starts_by trip true = refl
  starts_by trip false = refl

  pub start_is : (trip : Option ℕ) → (leg_rows words c trip from to).from ≡ from.at
  unfolding leg_chain
  start_is (Some trip) = starts_by trip (ltb to.sequence from.sequence)
  start_is None = refl

  ends_by : (trip : ℕ) (b : Bool) →
      (cond b (spanned words c.trips trip to.sequence from.sequence true from.at to.at) (spanned words c.trips trip from.sequence to.sequence false from.at to.at)).to
      ≡ to.at
  ends_by trip true = refl
  ends_by trip false = refl

  pub end_is : (trip : Option ℕ) → (leg_rows words c trip from to).to ≡ to.at
  unfolding leg_chain
  end_is (Some trip) = ends_by trip (ltb to.sequence from.sequence)
  end_is None = refl

-- the choice
module _ (bytes words : List ℕ) (reals dists : List Float) (c : Course) (trip : ℕ) (from to : End) (n : ℕ) (e : n ≡ length (leg_shape bytes words reals c (Some trip))) where
  pub no_shape : n < 2 → over_chain (leg_stops bytes words reals c (Some trip) from to) ≡ trip_path bytes words reals dists c trip from to
  unfolding trip_path path_of
  no_shape h = rw (← e, lt-ltb n 2 h)

  on_shape : 2 ≤ n →
      over_span (trip_spanned bytes words reals dists c trip from to) (over_route (route_between (leg_shape bytes words reals c (Some trip)) from.at to.at) (over_chain (leg_stops bytes words reals c (Some trip) from to)))
      ≡ trip_path bytes words reals dists c trip from to
  unfolding trip_path path_of trip_spanned
  on_shape h = rw (← e, le-ltb n 2 h)

  pub by_span : (span : Distances) → 2 ≤ n → trip_spanned bytes words reals dists c trip from to ≡ Some span → ByDistance span ≡ trip_path bytes words reals dists c trip from to
  by_span span h s = rw s at (on_shape h)

  pub by_route : 2 ≤ n → trip_spanned bytes words reals dists c trip from to ≡ None →
      over_route (route_between (leg_shape bytes words reals c (Some trip)) from.at to.at) (over_chain (leg_stops bytes words reals c (Some trip) from to)) ≡ trip_path bytes words reals dists c trip from to
  by_route h s = rw s at (on_shape h)
