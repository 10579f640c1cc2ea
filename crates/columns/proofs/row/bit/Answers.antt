use Rattle.std.proofs.Common.{arith, ◌≡◌, ◌≤◌, ◌+◌, length}
use Rattle.std.proofs.lemmas.Grind.{common_steps}
use Rattle.columns.specs.Rows.{bit_of}
use Rattle.columns.proofs.row.bit.Goals as goal

pub returns-in-Some : goal.returns-in-Some
unfolding bit_of
returns-in-Some c = let h = c.in-Some.ensures.lookup in let e : c.saturating_add-at.result ≡ c.args.span.at + c.args.k = omega arith in grind (arith, common_steps, c.from.ensures)

pub returns-in-None : goal.returns-in-None
unfolding bit_of
returns-in-None c = let h = c.in-None.ensures.lookup in let e : length c.args.bytes.now ≤ c.args.span.at + c.args.k = omega arith in grind (arith, common_steps)
