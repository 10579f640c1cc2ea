use borrow.Author.Count.{below_more}
use native.Mathlib.Omega.{arith}
use mathlib.Core.Path.{◌∙◌}
use Prim.Native.Nat.{◌+◌}
use Rattle.ids.specs.Bytes.{fold_of}
use Rattle.text_folds.proofs.Folds.{place_hit, place_miss, stands}
use Rattle.text_folds.proofs.fold.place.Goals as goal

pub returns-then-starts : goal.returns-then-starts
returns-then-starts c =
    let a = c.args in
    place_hit (fold_of a.fold) a.needle.now a.s.now c.loop-at.at (omega arith)
    (stands (fold_of a.fold) a.needle.now a.s.now c.loop-at.at c.starts.ensures ∙ c.if-starts.true) c.loop-at.invariant

pub loop-at-preserved : goal.loop-at-preserved
loop-at-preserved c =
    let a = c.args in
    below_more _ _ c.loop-at.invariant (stands (fold_of a.fold) a.needle.now a.s.now c.loop-at.at c.starts.ensures ∙ c.if-starts.false)

pub returns-else-starts : goal.returns-else-starts
returns-else-starts c =
    let a = c.args in
    place_miss (fold_of a.fold) a.needle.now a.s.now (c.loop-at.at + 1) (omega arith)
    (below_more _ _ c.loop-at.invariant (stands (fold_of a.fold) a.needle.now a.s.now c.loop-at.at c.starts.ensures ∙ c.if-starts.false))
