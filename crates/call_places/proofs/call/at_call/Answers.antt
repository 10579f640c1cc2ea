-- `call_places::call::at_call` meets its contract.
use borrow.Author.Rules.{rules}
use native.Mathlib.Numerals.{add-one}
use Rattle.call_places.proofs.call.at_call.Goals as goal

pub returns : goal.returns
returns c = rw (c.at_stop.ensures, c.word.ensures, c.call_end-end.ensures, add-one)
