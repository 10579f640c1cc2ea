-- What is kept is the best of the rows before k.
use mathlib.Core.Path.{◌≡◌}
use Rattle.line_fits.specs.Asked.{fits_of}
use Rattle.line_fits.proofs.Best.{state_of}
use Rattle.line_fits.proofs.line.Line.best_of.Given as goal

abbrev pub invariant-loop-k : goal.invariant-loop-k
invariant-loop-k l = l.best ≡ state_of (fits_of l.self l.asked) l.k
