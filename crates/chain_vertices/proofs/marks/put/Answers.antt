use mir.Facts.{Fits-bits}
use Rattle.chain_vertices.proofs.Shift.{shifted, room}
use Rattle.chain_vertices.proofs.marks.put.Goals as goal

pub overflow_add-marks : goal.overflow_add-marks
overflow_add-marks c = let a = c.args in rw (shifted a.i) (Fits-bits 64 tt (room _ a.i c.requires.i_bound))

pub returns-then-bit : goal.returns-then-bit
returns-then-bit c = rw (c.if-bit.true, shifted c.args.i)

pub returns-else-bit : goal.returns-else-bit
returns-else-bit c = rw c.if-bit.false
