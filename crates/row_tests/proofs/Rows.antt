-- The last of a trip's rows that passes a test: what a loop downwards sees next. Assumes nothing.
use Rattle.std.specs.Prelude.{Some, None}
use Prim.Native.Nat.{ℕ, ◌+◌, ◌-◌, ◌<◌, ◌≤◌}
use native.Mathlib.Omega.{arith}
use mathlib.Core.Bool.{Bool, true, false}
use mathlib.Core.Path.{◌≡◌, ap, ◌∙◌}
use borrow.Author.Tests.{lt-ltb}
use lib.Dec.{ltb}
use Rattle.ids.specs.First.{last}
use Rattle.ids.proofs.Search.{last_hit, last_skip, last_miss}
use Rattle.courses.specs.Course.{row_after}
use Rattle.row_tests.specs.Rows.{after, last_row}

-- The row before `row` passes, or does not, or there is none.
module _ (p : ℕ → Bool) (from row : ℕ) where
  pub row_hit : from < row → p (row - 1) ≡ true → last_row p from (row - from) ≡ Some (row - 1)
  row_hit l t =
      let e : from + (row - from - 1) ≡ row - 1 = omega arith in
      ap (row_after from) (last_hit (after p from) (row - from) (omega arith) (ap p e ∙ t)) ∙ ap Some e

  pub row_skip : from < row → p (row - 1) ≡ false → last_row p from (row - from) ≡ last_row p from (row - 1 - from)
  row_skip l t =
      let e : from + (row - from - 1) ≡ row - 1 = omega arith in
      let d : row - from - 1 ≡ row - 1 - from = omega arith in
      ap (row_after from) (last_skip (after p from) (row - from) (omega arith) (ap p e ∙ t) ∙ ap (last (after p from)) d)

  pub row_miss : row ≤ from → last_row p from (row - from) ≡ None
  row_miss l = ap (row_after from) (last_miss (after p from) (row - from) (omega arith))

-- what is not 0 is above it
pub above_zero : (n : ℕ) → (n ≡ 0 → ⊥) → ltb 0 n ≡ true
above_zero n h = lt-ltb 0 n (omega arith)

pub sum_less : (a b : ℕ) → a + b - a ≡ b
sum_less a b = omega arith
