use Rattle.product_codes.specs.Codes.{code_word}
use Rattle.product_codes.proofs.code.code_word.Goals as goal

pub returns : goal.returns
unfolding code_word
returns c = rw (c.word_of.ensures, c.past_place.ensures, c.code_place.ensures)
