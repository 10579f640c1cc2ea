-- The rows of a leg's stops: in order, and of the trip where it has a row. Assumes nothing.
use Prim.Native.Nat.{ℕ, ◌<◌, ◌≤◌}
use native.Mathlib.Omega.{arith}
use mathlib.Core.Path.{◌≡◌}
use Rattle.leg_parts.specs.Parts.{ends_of}
use Rattle.leg_parts.specs.declared.ends.Ends.{Ends}

module _ (count from to : ℕ) where
  module _ {leg : Ends} (e : leg ≡ ends_of count from to) where
    pub in_order : leg.board ≤ leg.alight
    unfolding ends_of
    in_order = rw e (omega arith)

    pub of_trip : 0 < count → leg.alight < count
    unfolding ends_of
    of_trip h = rw e (omega arith)
