-- Where a ferry is on a leg. Definitions only.
use Rattle.std.specs.Prelude.{ℕ}
use Rattle.stretches.specs.declared.spot.Spot.{Spot}
use Rattle.stretches.specs.declared.spot.Spot.TheVariants.{First, Stretch as Spot·stretch, Straight as Spot·straight, NoStretch as Spot·none}
use Rattle.ways.specs.declared.way.Way.{Way}
use Rattle.ways.specs.declared.way.Way.TheVariants.{With}
use Rattle.paths.specs.declared.path.Line.{Line}
use Rattle.paths.specs.declared.path.Line.TheVariants.{Straight}
use Rattle.legs.specs.declared.place.Place.{Place}
use Rattle.legs.specs.declared.place.Place.TheVariants.{Start, Stretch, NoStretch}

-- The place that a spot of a line is on leg k. A straight line is one stretch, from the leg's start to its end. A leg's path is never at its bare first vertex: `on_path` of `leg_order`, in proofs/Chosen.antt.
abbrev pub place_of : ℕ → Line → Way → Spot → Place
place_of k kind way First = Start k
place_of k kind way (Spot·stretch v t) = Stretch k kind way v t
place_of k kind way (Spot·straight t) = Stretch k Straight With 0 t
place_of k kind way Spot·none = NoStretch k kind way
