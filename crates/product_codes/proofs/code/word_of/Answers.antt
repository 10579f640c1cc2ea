use Rattle.product_codes.specs.Codes.{word}
use Rattle.product_codes.proofs.code.word_of.Goals as goal

pub returns : goal.returns
unfolding word
returns c = rw (c.first.ensures, c.alnum_run.ensures)
