-- Each turn takes a byte's text, and no more than `most` bytes are given.
use Rattle.std.proofs.Common.{◌≤◌, length}
use Rattle.case_ids.proofs.id.each_byte.Given as goal

abbrev pub invariant-loop-left : goal.invariant-loop-left
invariant-loop-left g l = goal.F-IsAlwaysCallable g l.put × (l.n ≤ l.most)

abbrev pub decreases-loop-left : goal.decreases-loop-left
decreases-loop-left g l = length l.left
