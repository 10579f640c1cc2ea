-- Points of which those that lie at the one kept before are left out, and the ends of a chain. Definitions only.
use Rattle.std.specs.Prelude.{◌-◌, Bool, cond, List, [], ◌∷◌, reverse, ltb, length, set}
use Rattle.lengths.specs.declared.line.Point.{Point}
use Rattle.chain_stretches.specs.Near.{is_near}

-- of points after p, which is kept, those that are kept: each that is not near the one kept last
unfoldable pub thin_after : Point → List Point → List Point
thin_after p [] = []
thin_after p (q ∷ qs) = cond (is_near p q) (thin_after p qs) (q ∷ thin_after q qs)

-- of any points: the first is kept
unfoldable pub thinned : List Point → List Point
thinned [] = []
thinned (p ∷ ps) = p ∷ thin_after p ps

-- with the ends' own positions for the first and the last; fewer than two points are the ends alone
unfoldable pub ended : Point → Point → List Point → List Point
ended from to ps = cond (ltb (length ps) 2) (from ∷ to ∷ []) (set (set ps 0 from) (length ps - 1) to)

-- in the chain's direction
abbrev pub turned_if : Bool → List Point → List Point
turned_if reversed ps = cond reversed (reverse ps) ps

-- the chain of stops: thinned in their own order, then turned where it is sailed against that
unfoldable pub chain_from : Bool → Point → Point → List Point → List Point
chain_from reversed from to stops = ended from to (turned_if reversed (thinned stops))
