-- The library's order of floats is that of IEEE 754.
use mathlib.Core.Path.{◌≡◌, refl}
use mathlib.Core.Bool.{Bool, true, false, ◌||◌, cond}
use lib.Ieee.{Float, le, lt, eq}
use Rattle.std.specs.Ordering.{float_partial_cmp, partial_le, is_some_and, is_le}
use Rattle.std.specs.declared.cmp.Ordering.TheVariants.{Less, Equal, Greater}
use Rattle.std.specs.declared.option.Option.TheVariants.{Some, None}

pub partial_le_is : (x y : Float) → partial_le float_partial_cmp x y ≡ le x y
unfolding le
partial_le_is x y = go (lt x y) (eq x y) (lt y x)
  where
    go : (a b c : Bool) → is_some_and is_le (cond a (Some Less) (cond b (Some Equal) (cond c (Some Greater) None))) ≡ (a || b)
    go true b c = refl
    go false true c = refl
    go false false true = refl
    go false false false = refl
