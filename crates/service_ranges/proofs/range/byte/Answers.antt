use borrow.Author.Rules.{rules}
use Prim.Native.Nat.{◌+◌, ◌≤◌}
use native.Mathlib.Omega.{arith}
use mathlib.Core.Path.{sym}
use lib.ListN.{length, get_or-eq_default}
use Rattle.service_ranges.proofs.range.byte.Goals as goal

pub returns-then-bytes-k : goal.returns-then-bytes-k
returns-then-bytes-k c = let a = c.args in let l : length a.bytes.now ≤ a.span.at + a.k = omega arith in sym (get_or-eq_default a.bytes.now 0 l)

pub returns-then-bytes-at : goal.returns-then-bytes-at
returns-then-bytes-at c = let a = c.args in let l : length a.bytes.now ≤ a.span.at + a.k = omega arith in sym (get_or-eq_default a.bytes.now 0 l)
