use borrow.Author.Rules.{rules}
use native.Mathlib.Omega.{arith}
use mathlib.Core.Path.{sym}
use lib.ListN.{drop_of_length-le}
use Rattle.ids.proofs.Pools.{rest}
use Prim.Native.Nat.{◌≤◌}
use lib.ListN.{length}
use Rattle.parts.proofs.part.from.Goals as goal

pub returns-then-s-n : goal.returns-then-s-n
returns-then-s-n c = let a = c.args in let l : length a.s.now ≤ a.n = omega arith in sym (drop_of_length-le a.s.now l)

pub returns : goal.returns
returns c = let a = c.args in rest a.s.now a.n
