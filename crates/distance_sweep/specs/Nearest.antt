-- What a search for the least distance remembers, so that no vertex is looked at twice where it need not be.
use Rattle.std.specs.Prelude.{ℕ, ◌+◌, ◌-◌, ◌<◌, ◌≤◌, ◌≡◌, cond, List, T, Float, length, drop}
use Rattle.std.specs.Float.{binary64}
use Rattle.std.specs.Float.Ieee.{add, lt, le}
use Rattle.floats.proofs.Order.{number}
use Rattle.maths.specs.Series.{whole}
use Rattle.lengths.specs.declared.line.Point.{Point}
use Rattle.vertices_within.specs.Near.{distance_of, distances_of, least_in}
use Rattle.distance_sweep.specs.declared.nearest.Nearest.{Nearest}

-- by how many metres a vertex may be farther from a stop than the nearest
abbrev pub slack : Float
slack = whole 25

-- no farther than this is near
abbrev pub bound_of : Nearest → Float
bound_of near = add binary64 near.best slack

-- With the distance x of the vertex before `next`. Where it is the least so far and the one marked is no longer near, it is marked in its place.
unfoldable pub next_of : Nearest → Float → ℕ → Float → Nearest
next_of near x next limit =
    cond (lt x near.best)
    (cond (le near.mark (add binary64 x slack)) (record { best = x; limit = limit; from = near.from; upto = near.upto; mark = near.mark })
    (record { best = x; limit = limit; from = near.upto; upto = next; mark = x }))
    near

-- What is known once the vertices from `at` up to k are seen: none has a smaller distance; none before `from` is near; the one before `upto`, if
-- there is one, is near, and its distance, the mark, is the least up to there.
pub record Seen (d : ℕ → Float) (at k : ℕ) (near : Nearest) : Type 0 where
  pub starts : at ≤ near.from
  pub ordered : near.from ≤ near.upto
  pub ends : near.upto ≤ k
  pub counts : T (number near.best)
  pub least : (j : ℕ) → at ≤ j → j < k → (x : Float) → T (le (d j) x) → T (le near.best x)
  pub far : (j : ℕ) → at ≤ j → j < near.from → T (le (d j) (bound_of near)) → ⊥
  pub lower : (j : ℕ) → at ≤ j → j < near.upto → (x : Float) → T (le (d j) x) → T (le near.mark x)
  pub marked : at < near.upto → (near.mark ≡ d (near.upto - 1)) × T (le near.mark (bound_of near))

-- once all vertices from `at` on are
pub record Nears (stop : Point) (line : List Point) (at : ℕ) (near : Nearest) : Type 0 where
  pub best : near.best ≡ least_in (distances_of stop (drop at line))
  pub seen : Seen (distance_of stop line) at (at + (length line - at)) near
