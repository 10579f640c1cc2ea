-- No row before k is beside b.
use Rattle.columns.proofs.Scan.{Missed}
use Rattle.line_fits.specs.Asked.{fits_of}
use Rattle.line_crowds.specs.Crowds.{beside}
use Rattle.line_crowds.proofs.crowd.has_beside.Given as goal

abbrev pub invariant-loop-k : goal.invariant-loop-k
invariant-loop-k l = Missed (beside (fits_of l.line l.asked) l.b) l.k
