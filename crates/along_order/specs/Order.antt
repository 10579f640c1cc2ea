-- The order of places on a part of a line, in sailing direction. Definitions only.
use Rattle.std.specs.Prelude.{ℕ, suc, ◌<◌, ◌≡◌, ◌⊎◌, T, Float}
use Rattle.std.specs.Float.Ieee.{le}
use Rattle.floats.specs.Number.{nought}
use Rattle.ways.specs.Way.{turned_of}
use Rattle.line_parts.specs.declared.part.Part.{Part}
use Rattle.stretches.specs.declared.spot.Spot.{Spot}
use Rattle.stretches.specs.declared.spot.Spot.TheVariants.{First, Stretch, Straight, NoStretch}
use Rattle.ways.specs.declared.way.Way.{Way}
use Rattle.ways.specs.declared.way.Way.TheVariants.{With, Against}

-- which comes where in the order of the vertices: the first vertex, the stretches, the last vertex, which a target on no stretch counts as
abbrev pub rank_of : Part → Spot → ℕ
rank_of part First = part.first
rank_of part (Stretch k t) = suc k
rank_of part (Straight t) = suc part.first
rank_of part NoStretch = suc part.last

-- the fraction of its stretch, in the order of the vertices
abbrev pub fraction_at : Spot → Float
fraction_at First = nought
fraction_at (Stretch k t) = t
fraction_at (Straight t) = t
fraction_at NoStretch = nought

-- The second is no earlier than the first, in sailing direction: it is on a later stretch, or on the same at no smaller a fraction. Both fractions are numbers.
abbrev pub NoEarlier : Part → Way → Spot → Spot → Type 0
NoEarlier part With p q = (rank_of part p < rank_of part q) ⊎ ((rank_of part p ≡ rank_of part q) × T (le (turned_of With (fraction_at p)) (turned_of With (fraction_at q))))
NoEarlier part Against p q = (rank_of part q < rank_of part p) ⊎ ((rank_of part p ≡ rank_of part q) × T (le (turned_of Against (fraction_at p)) (turned_of Against (fraction_at q))))
