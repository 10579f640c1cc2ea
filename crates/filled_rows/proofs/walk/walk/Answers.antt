use borrow.Author.Rules.{rules}
use Rattle.lengths.specs.Line.{line_of}
use Rattle.filled_rows.proofs.Placed.{unplaced, placed, not_before, on_it}
use Rattle.filled_rows.proofs.walk.walk.Goals as goal

pub returns-in_default : goal.returns-in_default
returns-in_default c = unplaced _ _ _ c.args.row c.in_default.is c.requires.sum_value

pub length_on-m-requires : goal.length_on-m-requires
length_on-m-requires c = let line = line_of c.args.line.lat.now c.args.line.lon.now in record { sum_value = c.requires.sum_value; from_le_to = not_before line c.args.at _ c.requires.at_in_bounds c.step-step.ensures; to_in_bounds = on_it line c.args.at _ c.requires.at_in_bounds c.step-step.ensures }

pub returns : goal.returns
returns c = placed _ _ c.args.at c.args.row c.in-Some.is c.step-step.ensures c.length_on-m.ensures c.filled.ensures
