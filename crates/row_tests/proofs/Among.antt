-- What is found among the rows of a trip: it is one of them, and passes. Assumes nothing.
use Rattle.std.specs.Prelude.{Option, Some, None}
use Prim.Native.Nat.{ℕ, ◌+◌, ◌<◌, ◌≤◌}
use native.Mathlib.Omega.{arith}
use mathlib.Core.Bool.{Bool, true}
use mathlib.Core.List.{List}
use mathlib.Core.Path.{◌≡◌, refl, sym, ap, ◌∙◌}
use Rattle.ids.specs.First.{first, last}
use Rattle.ids.specs.Pool.{cell_of}
use Rattle.ids.proofs.ByteOrder.{clash}
use Rattle.ids.proofs.Search.{first_found, last_found}
use Rattle.tables.specs.declared.lent.Trips.{Trips}
use Rattle.courses.specs.Course.{row_after}
use Rattle.row_tests.specs.Rows.{after, first_row, last_row}

-- a row of the trip
abbrev pub Among : List ℕ → Trips → Option ℕ → ℕ → Type 0
Among words trips (Some trip) row = (cell_of words trips.first trip ≤ row) × (row < cell_of words trips.first trip + cell_of words trips.count trip)
Among words trips None row = ⊥

-- ---- what is found among n rows from `from` on
module _ (p : ℕ → Bool) (from n : ℕ) where
  -- the first that passes, or the end, is not past the end
  first_before_end : (f : Option ℕ) → first (after p from) n ≡ f → (row : ℕ) → row_after from f ≡ Some row → row < from + n
  first_before_end (Some k) e row q = let h = first_found (after p from) n k e in let s : from + k ≡ row = cc in omega (arith, h.0)
  first_before_end None e row q = clash (cc)

  last_among : (f : Option ℕ) → last (after p from) n ≡ f → (row : ℕ) → row_after from f ≡ Some row → (from ≤ row) × (row < from + n) × (p row ≡ true)
  last_among (Some k) e row q =
      let h = last_found (after p from) n k e in
      let s : from + k ≡ row = cc in
      (omega arith, omega (arith, h.0), ap p (sym s) ∙ h.1)
  last_among None e row q = clash (cc)

  pub last_row_found : (row : ℕ) → last_row p from n ≡ Some row → (from ≤ row) × (row < from + n) × (p row ≡ true)
  last_row_found row e = last_among (last (after p from) n) refl row e

  pub first_row_found : (row : ℕ) → first_row p from n ≡ Some row → row < from + n
  first_row_found row e = first_before_end (first (after p from) n) refl row e
