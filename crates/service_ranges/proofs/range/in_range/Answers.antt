use borrow.Author.Rules.{rules}
use borrow.Author.Tests.{le-leb, lt-leb}
use mathlib.Core.Path.{sym}
use Rattle.service_ranges.specs.Range.{in_range}
use Rattle.days.proofs.ordinal_of.Reads as ordinal-of-reads
use Rattle.ids.proofs.cell.Reads as cell-reads
use Rattle.service_ranges.proofs.range.byte.Reads as byte-Reads
use Rattle.service_ranges.proofs.range.on_weekday.Reads as on-weekday-reads
use Rattle.service_ranges.proofs.range.in_range.Goals as goal

pub returns-then-day-ordinal_of : goal.returns-then-day-ordinal_of
unfolding in_range
returns-then-day-ordinal_of c = sym (simp (← (rw c.cell.ensures at c.ordinal_of.ensures), lt-leb _ _ c.if-day-ordinal_of.true))

pub returns-then-ordinal_of-day : goal.returns-then-ordinal_of-day
unfolding in_range
returns-then-ordinal_of-day c = sym (simp (← (rw c.cell.ensures at c.ordinal_of.ensures), ← (rw c.cell-2.ensures at c.ordinal_of-2.ensures), le-leb _ _ c.if-day-ordinal_of.false, lt-leb _ _ c.if-ordinal_of-day.true))

pub returns : goal.returns
unfolding in_range
returns c = sym (simp (← (rw c.cell.ensures at c.ordinal_of.ensures), ← (rw c.cell-2.ensures at c.ordinal_of-2.ensures), le-leb _ _ c.if-day-ordinal_of.false, le-leb _ _ c.if-ordinal_of-day.false, c.on_weekday.ensures, c.byte.ensures))
