use borrow.Author.Rules.{rules}
use Prim.Native.Nat.{◌+◌, ◌≤◌}
use native.Mathlib.Omega.{arith}
use mathlib.Core.Path.{sym}
use lib.IntN.{pos}
use lib.ListN.{length, get_or-eq_default}
use Rattle.update_rows.proofs.update.time.Goals as goal

pub returns-then-times-k : goal.returns-then-times-k
returns-then-times-k c =
    let a = c.args in
    let l : length a.times.now ≤ a.span.at + a.k = omega arith in
    sym (get_or-eq_default a.times.now (pos 0) l)

pub returns-then-times-at : goal.returns-then-times-at
returns-then-times-at c =
    let a = c.args in
    let l : length a.times.now ≤ a.span.at + a.k = omega arith in
    sym (get_or-eq_default a.times.now (pos 0) l)
