-- `text_folds::fold::place` meets its contract. The loop's invariant: the needle stands at no place so far.
use Prim.Native.Nat.{◌<◌, ℕ}
use mathlib.Core.Bool.{false}
use mathlib.Core.List.{map}
use mathlib.Core.Path.{◌≡◌}
use Rattle.ids.specs.Bytes.{fold_of}
use Rattle.text_folds.specs.Folds.{stands_at}
use Rattle.text_folds.proofs.fold.place.Given as goal

abbrev pub invariant-loop-at : goal.invariant-loop-at
invariant-loop-at l = (j : ℕ) → j < l.at → stands_at (map (fold_of l.fold) l.needle) (map (fold_of l.fold) l.s) j ≡ false
