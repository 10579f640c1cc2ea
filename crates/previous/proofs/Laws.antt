-- The row before a call is a row of its trip, and positioned. Assumes nothing.
use Rattle.std.specs.Prelude.{Option, Some, None}
use Prim.Native.Nat.{ℕ, ◌+◌, ◌-◌, ◌<◌, ◌≤◌}
use native.Mathlib.Omega.{arith}
use mathlib.Core.Bool.{true}
use mathlib.Core.List.{List}
use mathlib.Core.Path.{◌≡◌, refl}
use Rattle.ids.specs.First.{or_else}
use Rattle.ids.specs.Pool.{cell_of}
use Rattle.ids.proofs.ByteOrder.{clash}
use Rattle.tables.specs.declared.lent.StopTimes.{StopTimes}
use Rattle.tables.specs.declared.lent.Stops.{Stops}
use Rattle.tables.specs.declared.lent.Trips.{Trips}
use Rattle.row_tests.specs.Rows.{first_row, is_placed, placed_target, is_from}
use Rattle.row_tests.proofs.Among.{Among, first_row_found, last_row_found}
use Rattle.previous.specs.Before.{or_row, limit_row, row_before, prev_row}

or_row_lem : (f g : Option ℕ) (end : ℕ) → ((row : ℕ) → f ≡ Some row → row < end) → ((row : ℕ) → g ≡ Some row → row < end) → or_row (or_else f g) end ≤ end
or_row_lem (Some row) g end p q = let h = p row refl in omega arith
or_row_lem None (Some row) end p q = let h = q row refl in omega arith
or_row_lem None None end p q = omega arith

module _ (bytes words : List ℕ) (times : StopTimes) (stops : Stops) (sequence stop : ℕ) where
  limit_le : (from n : ℕ) → limit_row bytes words times stops sequence stop from n ≤ from + n
  unfolding limit_row
  limit_le from n =
      or_row_lem (first_row (placed_target bytes words times stops sequence stop) from n) (first_row (is_from words times sequence) from n) (from + n)
      (first_row_found (placed_target bytes words times stops sequence stop) from n) (first_row_found (is_from words times sequence) from n)

  before_among : (from n row : ℕ) → row_before bytes words times stops sequence stop from n ≡ Some row → (from ≤ row) × (row < from + n) × (is_placed bytes words times stops row ≡ true)
  unfolding row_before
  before_among from n row e =
      let h = last_row_found (is_placed bytes words times stops) from (limit_row bytes words times stops sequence stop from n - from) row e in
      (h.0, omega (arith, h.0, h.1, limit_le from n), h.2)

  pub previous_row_is : (trips : Trips) (trip : Option ℕ) (row : ℕ) → prev_row bytes words trips times stops trip sequence stop ≡ Some row →
      Among words trips trip row × (is_placed bytes words times stops row ≡ true)
  previous_row_is trips (Some trip) row e =
      let h = before_among (cell_of words trips.first trip) (cell_of words trips.count trip) row e in
      ((h.0, h.1), h.2)
  previous_row_is trips None row e = clash (cc)
