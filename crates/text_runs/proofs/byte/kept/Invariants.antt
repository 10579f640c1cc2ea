-- `text_runs::byte::kept` meets its contract. The loop's invariant: the last byte of another kind is the last below k.
use mathlib.Core.Path.{◌≡◌}
use lib.ListN.{length}
use Rattle.ids.specs.Bytes.{is_of}
use Rattle.ids.specs.First.{last}
use Rattle.text_runs.specs.Runs.{fails_at}
use Rattle.text_runs.proofs.byte.kept.Given as goal

abbrev pub invariant-loop-k : goal.invariant-loop-k
invariant-loop-k l = last (fails_at (is_of l.kind) l.s) (length l.s) ≡ last (fails_at (is_of l.kind) l.s) l.k
