-- What a test of two moments that were read says of the columns. Assumes nothing.
use Prim.Native.Nat.{ℕ}
use mathlib.Core.Bool.{Bool}
use mathlib.Core.Path.{◌≡◌}
use Rattle.timeline.specs.Turn.{during}

pub tested : (clock a b x y : ℕ) (r t : Bool) → x ≡ a → y ≡ b → r ≡ during clock x y → r ≡ t → during clock a b ≡ t
tested clock a b x y r t p q e h = cc
