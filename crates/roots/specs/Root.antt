-- The square root as IEEE 754 has it: the value nearest to the exact root, a tie to the even one. Definitions only.
use Prim.Native.Nat.{ℕ, zero, suc, ◌+◌, ◌-◌, ◌*◌, ◌/◌, ◌^◌, compare}
use Rattle.std.specs.Prelude.{cond, false, Float}
use Rattle.std.specs.Float.{nan, inf, fin, Format, binary64}
use Rattle.std.specs.Float.Ieee.{prec, low, up, down, size, nearest, units}
use Rattle.roots.specs.Whole.{whole_root}

-- The value of f nearest to the root of num / den. In units of f's smallest value that is the root of n / den.
-- As in `round`, the format keeps the `prec` leading digits of its whole part and drops k: q is the whole part of the root in
-- units 2 ^ k times as large, and n * 4 against u * (2 * q + 1) ^ 2 is the root against q + 1 / 2.
unfoldable pub round_root : Format → ℕ → ℕ → Float
unfolding whole_root size units
round_root f num den =
    let n = num * 2 ^ (low f + low f) in
    let k = size (whole_root (n / den)) - prec f in
    let u = den * (2 ^ k * 2 ^ k) in
    let q = whole_root (n / u) in
    units f false (nearest q (compare (n * 4) (u * ((2 * q + 1) * (2 * q + 1))))) k

unfoldable pub root_of : Float → Float
unfolding round_root
root_of nan = nan
root_of (inf s) = cond s nan (inf s)
root_of (fin s zero e) = fin s zero e
root_of (fin s (suc m) e) = cond s nan (round_root binary64 (suc m * up e) (down e))
