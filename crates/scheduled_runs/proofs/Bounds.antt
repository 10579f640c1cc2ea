-- A run is 30 seconds at least, and where arrivals are below a week, so is it. Assumes nothing.
use Rattle.std.specs.Prelude.{Option, Some, None}
use Prim.Native.Nat.{ℕ, ◌≤◌}
use native.Mathlib.Omega.{arith}
use mathlib.Core.List.{List}
use mathlib.Core.Path.{◌≡◌, refl}
use Rattle.ids.specs.Pool.{cell_of}
use Rattle.tables.specs.declared.lent.StopTimes.{StopTimes}
use Rattle.tables.specs.declared.lent.Trips.{Trips}
use Rattle.row_tests.specs.Rows.{last_row, has_sequence}
use Rattle.row_tests.proofs.Among.{Among, last_row_found}
use Rattle.scheduled_runs.specs.Run.{run_between, run_among, run_of}

module _ (words : List ℕ) (times : StopTimes) where
  between_low : (arrives departs : Option ℕ) → 30 ≤ run_between words times arrives departs
  between_low (Some row) departs = omega arith
  between_low None departs = omega arith

  between_high : (arrives departs : Option ℕ) → ((row : ℕ) → arrives ≡ Some row → cell_of words times.arrival row ≤ 604799) → run_between words times arrives departs ≤ 604799
  between_high (Some row) departs h = let a = h row refl in omega arith
  between_high None departs h = omega arith

  pub run_low : (trips : Trips) (trip : Option ℕ) (from to : ℕ) → 30 ≤ run_of words trips times trip from to
  unfolding run_among
  run_low trips (Some trip) from to =
      let first = cell_of words trips.first trip in
      let n = cell_of words trips.count trip in
      between_low (last_row (has_sequence words times to) first n) (last_row (has_sequence words times from) first n)
  run_low trips None from to = omega arith

  pub run_high : (trips : Trips) (trip : Option ℕ) (from to : ℕ) → ((row : ℕ) → Among words trips trip row → cell_of words times.arrival row ≤ 604799) → run_of words trips times trip from to ≤ 604799
  unfolding run_among
  run_high trips (Some trip) from to h =
      let first = cell_of words trips.first trip in
      let n = cell_of words trips.count trip in
      between_high (last_row (has_sequence words times to) first n) (last_row (has_sequence words times from) first n) (λ row e. let r = last_row_found (has_sequence words times to) first n row e in h row (r.0, r.1))
  run_high trips None from to h = omega arith
