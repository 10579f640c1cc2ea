-- `best_rows::best::best_row` meets its contract. The loop's invariant: the best so far is that of the rows so far.
use mathlib.Core.Path.{◌≡◌}
use Rattle.best_rows.specs.Serving.{best_below, score_of}
use Rattle.best_rows.proofs.best.best_row.Given as goal

abbrev pub invariant-loop-k : goal.invariant-loop-k
invariant-loop-k l = l.best ≡ best_below (score_of l.lent.bytes.now l.u l.lent.words.now) l.k
