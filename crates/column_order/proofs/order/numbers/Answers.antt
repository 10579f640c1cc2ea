-- `column_order::order::numbers` meets its contract.
use native.Mathlib.Omega.{arith}
use mathlib.Core.Path.{sym}
use mathlib.Core.List.{[]}
use Rattle.ids.specs.Cmp.{cmp}
use Rattle.ids.proofs.ByteOrder.{head_less, head_more, head_same}
use Rattle.column_order.proofs.order.numbers.Goals as goal

pub returns-then-x-y : goal.returns-then-x-y
returns-then-x-y c = sym (head_less _ _ _ _ c.if-x-y.true)

pub returns-then-y-x : goal.returns-then-y-x
returns-then-y-x c = sym (head_more _ _ _ _ c.if-y-x.true)

pub returns : goal.returns
unfolding cmp
returns c = let a = c.args in sym (head_same a.x a.y [] [] (omega arith))
