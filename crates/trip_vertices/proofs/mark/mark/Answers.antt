use borrow.Author.Rules.{rules}
use Rattle.lengths.specs.Line.{line_of}
use Rattle.trip_vertices.proofs.Writing.{mark_small, mark_at, mark_none}
use Rattle.trip_vertices.proofs.mark.mark.Goals as goal

pub overflow_cast-result : goal.overflow_cast-result
overflow_cast-result c = record { fits = mark_small (line_of c.args.line.lat.now c.args.line.lon.now) c.args.at c.args.stop c.pass-passed.result c.pass-passed.ensures _ c.in-Some.is c.requires }

pub returns-in-Some : goal.returns-in-Some
returns-in-Some c = mark_at (line_of c.args.line.lat.now c.args.line.lon.now) c.args.at c.args.stop c.pass-passed.result c.pass-passed.ensures _ c.in-Some.is

pub returns-in-None : goal.returns-in-None
returns-in-None c = mark_none (line_of c.args.line.lat.now c.args.line.lon.now) c.args.at c.args.stop c.pass-passed.result c.pass-passed.ensures c.in-None.is
