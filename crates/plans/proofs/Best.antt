-- The row that serves best is one of the updates; and a leg's number. Assumes nothing.
use Rattle.std.specs.Prelude.{Some}
use Prim.Native.Nat.{ℕ, suc, ◌+◌, ◌<◌}
use native.Mathlib.Omega.{arith}
use mathlib.Core.Path.{◌≡◌}
use mathlib.Core.List.{List}
use Rattle.tables.specs.declared.lent.Updates.{Updates}
use Rattle.best_rows.specs.Serving.{best_row, score_of}
use Rattle.best_rows.proofs.Bests.{best_is}

pub best_below : (bytes words : List ℕ) (u : Updates) (k : ℕ) → best_row bytes u words ≡ Some k → k < u.sequence.n
unfolding best_row
best_below bytes words u k e = (best_is (score_of bytes u words) u.sequence.n k e).below

-- the leg after call k, both counted as they are
pub leg_number : (k : ℕ) → k + 2 ≡ suc (suc k)
leg_number k = omega arith
