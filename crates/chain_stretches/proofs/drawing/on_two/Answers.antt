-- `chain_stretches::drawing::on_two` meets its contract.
use borrow.Author.Rules.{rules}
use Rattle.lengths.specs.Line.{line_of}
use Rattle.chain_stretches.proofs.drawing.on_two.Goals as goal

pub returns : goal.returns
unfolding line_of
returns c = c.draw.ensures
