-- A walk at a leg's ends and between them. Assumes nothing.
use Prim.Native.Nat.{ℕ}
use mathlib.Core.Path.{◌≡◌}
use mathlib.Core.Bool.{true, false}
use mathlib.Core.List.{List}
use lib.Ieee.{Float, le}
use Rattle.floats.specs.Number.{nought, one}
use Rattle.lengths.specs.declared.line.Point.{Point}
use Rattle.legs.specs.Walk.{start_of, end_of, inside_leg, walk_of}
use Rattle.paths.specs.declared.path.Path.{Path}

-- a walk at a leg's start, at its end, and between
module _ (k : ℕ) (shape chain : List Point) (from to : Point) (path : Path) (frac : Float) where
  pub at_its_start : le frac nought ≡ true → start_of k from to ≡ walk_of k shape chain from to path frac
  unfolding walk_of
  at_its_start h = rw h

  pub at_its_end : le frac nought ≡ false → le one frac ≡ true → end_of k from to ≡ walk_of k shape chain from to path frac
  unfolding walk_of
  at_its_end h i = rw (h, i)

  pub between : le frac nought ≡ false → le one frac ≡ false → inside_leg k shape chain from to path frac ≡ walk_of k shape chain from to path frac
  unfolding walk_of
  between h i = rw (h, i)
