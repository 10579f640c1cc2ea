use Rattle.product_codes.specs.Codes.{line_word}
use Rattle.product_codes.proofs.code.line_word.Goals as goal

pub returns : goal.returns
unfolding line_word
returns c = rw (c.if_long.ensures, c.word_of.ensures, c.past_place.ensures, c.first_place_ignoring_case-place.ensures)
