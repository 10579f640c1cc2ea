-- `stop_rows::row::stop_among` meets its contract. The loop's invariant: no row so far has the sequence and a stop with a position.
use Prim.Native.Nat.{◌<◌, ℕ}
use mathlib.Core.Bool.{false}
use mathlib.Core.Path.{◌≡◌}
use Rattle.stop_rows.specs.Rows.{row_from}
use Rattle.stop_rows.proofs.row.stop_among.Given as goal

abbrev pub invariant-loop-k : goal.invariant-loop-k
invariant-loop-k l = (j : ℕ) → j < l.k → row_from l.lent.bytes.now l.lent.words.now l.l l.sequence l.from j ≡ false
