use Rattle.std.proofs.Common.{arith, sym}
use Rattle.columns.proofs.Scan.{hit, none}
use Rattle.columns.proofs.row.some_row.Goals as goal

pub returns-then-at_fault : goal.returns-then-at_fault
returns-then-at_fault g c = λ fault h. hit fault _ _ c.loop-k-test.true (sym (h _ c.loop-k-test.true _ (rw c.if-at_fault.true at c.at_fault.ensures)))

pub returns : goal.returns
returns g c = λ fault h. none fault _ (λ j l. sym (h j l _ (c.loop-k.invariant j (omega arith))))
