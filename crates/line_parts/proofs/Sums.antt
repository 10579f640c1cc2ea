-- What a turn of a loop over a part's stretches adds. Assumes nothing.
use Prim.Native.Nat.{ℕ, ◌+◌, ◌-◌, ◌≤◌}
use native.Mathlib.Omega.{arith}
use native.Mathlib.Numerals.{add-one}
use mathlib.Core.Path.{◌≡◌, ap, ◌∙◌}
use mathlib.Core.List.{List}
use lib.Ieee.{binary64, add}
use lib.ListN.{length, get_or-eq_default}
use Rattle.floats.specs.Number.{nought}
use Rattle.lengths.specs.Line.{nowhere}
use Rattle.lengths.specs.declared.line.Point.{Point}
use Rattle.line_parts.specs.Part.{at, stretch_length, length_from}

-- past its last, a line has no vertex
pub no_vertex : (line : List Point) (k : ℕ) → length line ≤ k → at line k ≡ nowhere
no_vertex line k h = get_or-eq_default line nowhere h

-- the length to a part's first vertex
pub no_sum : (line : List Point) (a : ℕ) → length_from line a (a - a) ≡ nought
unfolding length_from
no_sum line a = let e : a - a ≡ 0 = omega arith in ap (length_from line a) e

-- and to the next after j stretches
pub next_sum : (line : List Point) (a j : ℕ) → length_from line a (j + 1) ≡ add binary64 (length_from line a j) (stretch_length line (a + j))
unfolding length_from
next_sum line a j = rw add-one

-- the same after vertex k
pub sum_next : (line : List Point) (a k : ℕ) → a ≤ k → length_from line a (k + 1 - a) ≡ add binary64 (length_from line a (k - a)) (stretch_length line k)
sum_next line a k h =
    let e : k + 1 - a ≡ k - a + 1 = omega arith in
    let f : a + (k - a) ≡ k = omega arith in
    ap (length_from line a) e ∙ next_sum line a (k - a) ∙ ap (λ (j : ℕ). add binary64 (length_from line a (k - a)) (stretch_length line j)) f
