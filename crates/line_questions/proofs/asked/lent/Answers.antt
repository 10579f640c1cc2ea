use borrow.Author.Rules.{rules}
use Rattle.line_questions.specs.Asked.{along_lent}
use Rattle.line_questions.proofs.asked.lent.Goals as goal

pub returns : goal.returns
unfolding along_lent
returns c = rw (c.position.ensures, c.cut-6.ensures, c.cut-5.ensures, c.cut-4.ensures, c.cut-3.ensures, c.cut-2.ensures, c.cut.ensures)
