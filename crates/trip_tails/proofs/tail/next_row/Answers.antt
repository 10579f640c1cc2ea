use mathlib.Core.Path.{◌∙◌, sym}
use Rattle.ids.proofs.Search.{first_hit}
use Rattle.trip_tails.specs.Tails.{tail_row}
use Rattle.trip_tails.proofs.tail.next_row.Goals as goal

pub returns-then-is_row : goal.returns-then-is_row
returns-then-is_row c =
    first_hit (tail_row c.args.lent.now.bytes.now c.args.lent.now.words.now c.args.tripkeys c.args.tail.now c.args.found) _ c.loop-k.k c.loop-k-test.true (sym c.is_row.ensures ∙ c.if-is_row.true) c.loop-k.invariant
