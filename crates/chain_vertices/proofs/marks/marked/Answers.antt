use Rattle.std.proofs.Common.{◌≡◌, ℕ, ◌/◌, ◌%◌, ◌^◌, ◌≤◌, false, List, length, sym, ◌∙◌}
use Rattle.std.proofs.lemmas.Bool.{le-ltb}
use native.Mathlib.Nat.{zero-div}
use lib.ListN.{get_or-eq_default}
use lib.Pow.{pow_pos}
use Rattle.chain_vertices.specs.Marks.{is_marked}
use Rattle.chain_vertices.proofs.Shift.{shifted}
use Rattle.chain_vertices.proofs.marks.marked.Goals as goal

pub nonzero_div-result : goal.nonzero_div-result
nonzero_div-result c = let i = c.args.i in rw (shifted i) (pow_pos _)

pub returns-then-w-marks : goal.returns-then-w-marks
unfolding is_marked
returns-then-w-marks c = rw (shifted c.args.i)

unmarked : (marks : List ℕ) (i : ℕ) → length marks ≤ i / 64 → is_marked marks i ≡ false
unfolding is_marked
unmarked marks i h = rw (get_or-eq_default marks 0 h, zero-div (2 ^ (i % 64)))

pub returns-else-w-marks : goal.returns-else-w-marks
returns-else-w-marks c = le-ltb _ _ c.if-w-marks.false ∙ sym (unmarked c.args.marks.now c.args.i c.if-w-marks.false)
