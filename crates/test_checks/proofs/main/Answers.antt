-- `test_checks::main` is safe: each pool is as long as its array. By the law of `length-replicate`, since a search would count every element.
use Prim.Native.Nat.{ℕ}
use mathlib.Core.Path.{refl, sym}
use lib.ListN.{length-replicate}
use Rattle.test_checks.proofs.main.Goals as goal

pub slice_bounds-read_full-end : goal.slice_bounds-read_full-end
slice_bounds-read_full-end c = sym (length-replicate {A = ℕ} 524288 0)

pub slice_bounds-pools-end : goal.slice_bounds-pools-end
slice_bounds-pools-end c = sym (length-replicate {A = ℕ} 262144 0)

pub slice_bounds-pools-end-2 : goal.slice_bounds-pools-end-2
slice_bounds-pools-end-2 c = sym (length-replicate {A = ℕ} 393216 0)

pub slice_bounds-pools-end-3 : goal.slice_bounds-pools-end-3
slice_bounds-pools-end-3 c = refl

pub slice_bounds-pools-end-4 : goal.slice_bounds-pools-end-4
slice_bounds-pools-end-4 c = refl

pub slice_bounds-pools-end-5 : goal.slice_bounds-pools-end-5
slice_bounds-pools-end-5 c = refl
