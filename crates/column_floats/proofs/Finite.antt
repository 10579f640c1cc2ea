-- What is so of each row that counts where a test of a column of floats is false. Assumes nothing.
use Prim.Native.Nat.{ℕ, ◌<◌, min}
use mathlib.Core.Path.{◌≡◌}
use mathlib.Core.Bool.{Bool, true, false}
use mathlib.Core.List.{List}
use borrow.Author.Tests.{not-false}
use lib.Ieee.{Float, nan}
use lib.ListN.{length, get_or}
use Rattle.globe.specs.Globe.{on_globe}
use Rattle.column_floats.specs.Real.{off_globe_at, is_finite, not_finite_at}
use Rattle.columns.specs.Rows.{some, counts, among}
use Rattle.columns.proofs.Passed.{no_fault}

-- A column of which no row that counts is at fault.
module _ (all : Bool) (flags : List ℕ) where
  pub on_globe_lem : (lat lon : List Float) → some (among all flags (off_globe_at lat lon)) (min (length lat) (length lon)) ≡ false →
      (k : ℕ) → k < min (length lat) (length lon) → counts all flags k ≡ true → on_globe (get_or lat k nan) (get_or lon k nan) ≡ true
  unfolding off_globe_at
  on_globe_lem lat lon e k l c = not-false _ (no_fault all flags (off_globe_at lat lon) _ e k l c)

  pub is_finite_lem : (s : List Float) → some (among all flags (not_finite_at s)) (length s) ≡ false →
      (k : ℕ) → k < length s → counts all flags k ≡ true → is_finite (get_or s k nan) ≡ true
  unfolding not_finite_at
  is_finite_lem s e k l c = not-false _ (no_fault all flags (not_finite_at s) _ e k l c)
