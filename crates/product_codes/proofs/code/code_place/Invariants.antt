-- `product_codes::code::code_place` meets its contract. The loop's invariant: no code begins so far.
use Prim.Native.Nat.{◌<◌, ℕ}
use mathlib.Core.Bool.{false}
use mathlib.Core.Path.{◌≡◌}
use Rattle.product_codes.specs.Codes.{code_at}
use Rattle.product_codes.proofs.code.code_place.Given as goal

abbrev pub invariant-loop-k : goal.invariant-loop-k
invariant-loop-k l = (j : ℕ) → j < l.k → code_at l.s j ≡ false
