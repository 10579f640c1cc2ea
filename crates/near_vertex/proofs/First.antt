-- The first vertex near a stop, by what the search for the least distance remembers. Assumes nothing.
use Rattle.std.specs.Prelude.{Some}
use Prim.Native.Nat.{ℕ, ◌+◌, ◌-◌, ◌<◌}
use native.Mathlib.Omega.{arith}
use mathlib.Core.Path.{◌≡◌, sym, ◌∙◌}
use mathlib.Core.List.{List}
use lib.Ieee.{le}
use lib.ListN.{drop}
use Rattle.lengths.specs.declared.line.Point.{Point}
use Rattle.vertices_within.specs.Near.{distance_of, distances_of, first_within}
use Rattle.distance_sweep.specs.Nearest.{bound_of, Nears}
use Rattle.distance_sweep.specs.declared.nearest.Nearest.{Nearest}
use Rattle.vertices_within.proofs.Truth.{no, yes}
use Rattle.vertices_within.proofs.Search.{first_skip, first_hit}

module _ (stop : Point) (line : List Point) (at : ℕ) (near : Nearest) (r : Nears stop line at near) where
  -- it is not before `from`
  pub first_from : first_within (bound_of near) at (distances_of stop (drop at line)) ≡ first_within (bound_of near) near.from (distances_of stop (drop near.from line))
  first_from =
      let e : at + (near.from - at) ≡ near.from = omega (arith, r.seen.starts) in
      rw e at (first_skip stop line (bound_of near) (near.from - at) at (λ j a b. no (le (distance_of stop line j) (bound_of near)) (r.seen.far j a (omega (arith, r.seen.starts)))))

  -- it is `from` where that is the one marked
  pub first_marked : near.upto - near.from ≡ 1 → Some near.from ≡ first_within (bound_of near) at (distances_of stop (drop at line))
  first_marked e =
      let s = r.seen in
      let a : at < near.upto = omega (arith, s.starts) in
      let b : near.upto - 1 ≡ near.from = omega arith in
      let m = rw ((s.marked a).0, b) at (s.marked a).1 in
      sym (first_from ∙ first_hit stop line (bound_of near) near.from (omega (arith, s.ends, s.starts)) (yes (le (distance_of stop line near.from) (bound_of near)) m))
