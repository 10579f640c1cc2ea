-- A leg's chain is one from end to end of it, and its path is one that can be chosen: so what `legs` proves of walks holds of it. Assumes nothing.
use Rattle.std.specs.Prelude.{Option, Some, None}
use Prim.Native.Nat.{ℕ, ◌≤◌}
use native.Mathlib.Omega.{arith}
use mathlib.Core.Path.{refl, ◌∙◌}
use mathlib.Core.List.{List}
use lib.Ieee.{Float}
use lib.ListN.{length}
use Rattle.trip_samples.specs.Trip.{trip_affine}
use Rattle.courses.specs.declared.course.Course.{Course}
use Rattle.chain_lines.specs.Chain.{stop_of}
use Rattle.chain_lines.proofs.Line.{two_or_more, rows_and_two, starts_at, ends_at}
use Rattle.leg_order.specs.Granted.{Chained}
use Rattle.paths.specs.declared.path.End.{End}
use Rattle.leg_order.proofs.Chosen.{Chosen, straight, path_chosen}
use Rattle.seq_distances.specs.Dist.{seq_dist}
use Rattle.leg_paths.specs.Leg.{leg_count, leg_shape, leg_rows, leg_stops, trip_path, leg_path}
use Rattle.leg_paths.proofs.Choice.{in_reach, start_is, end_is}

module _ (bytes words : List ℕ) (reals dists : List Float) (c : Course) (from to : End) where
  -- at least two points, from end to end
  pub chained : (trip : Option ℕ) → Chained from.at to.at (leg_stops bytes words reals c trip from to)
  chained trip =
      let chain = leg_rows words c trip from to in
      let stop = stop_of bytes words reals c.stops c.times chain in
      record { points = two_or_more stop chain; starts = starts_at stop chain ∙ start_is words c from to trip; ends = ends_at stop chain ∙ end_is words c from to trip }

  -- at most two more than a trip can have rows
  pub chain_few : (trip : Option ℕ) → leg_count words c trip ≤ 1000000 → length (leg_stops bytes words reals c trip from to) ≤ 1000002
  chain_few trip h =
      let chain = leg_rows words c trip from to in
      omega (arith, rows_and_two (stop_of bytes words reals c.stops c.times chain) chain, in_reach words c from to trip chain h refl)

  -- its path
  pub path_is_chosen : (trip : Option ℕ) → Chosen (leg_shape bytes words reals c trip) (leg_stops bytes words reals c trip from to) from.at to.at (leg_path bytes words reals dists c trip from to)
  unfolding trip_path
  path_is_chosen (Some trip) =
      path_chosen (leg_shape bytes words reals c (Some trip)) (leg_stops bytes words reals c (Some trip) from to) from.at to.at (chained (Some trip)) (trip_affine bytes words reals dists c trip)
      (seq_dist bytes words dists c trip from.sequence) (seq_dist bytes words dists c trip to.sequence)
  path_is_chosen None = straight
