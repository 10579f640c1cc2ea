-- Both ways of sailing: what does not go back in the order of the vertices does not go on against it. Assumes nothing.
use mathlib.Core.Path.{sym}
use mathlib.Core.Logic.{inl, inr}
use lib.Dec.{T}
use lib.Ieee.{Float, binary64, sub, le}
use Rattle.floats.specs.Number.{nought, one}
use Rattle.floats.proofs.Order.{le-number_left, le-number_right}
use Rattle.floats.proofs.Sums.{sub-number_left, sub_anti, one_less_nonneg, one_less_le}
use Rattle.ways.specs.Way.{turned_of}
use Rattle.line_parts.specs.declared.part.Part.{Part}
use Rattle.stretches.specs.declared.spot.Spot.{Spot}
use Rattle.ways.specs.declared.way.Way.{Way}
use Rattle.ways.specs.declared.way.Way.TheVariants.{With, Against}
use Rattle.along_order.specs.Order.{fraction_at, NoEarlier}
use Rattle.along_order.proofs.Search.{Before}

-- one less each of two numbers
one_less_anti : (x y : Float) → T (le x y) → T (le (sub binary64 one y) (sub binary64 one x))
one_less_anti x y h =
    sub_anti binary64 one x y (sub-number_left binary64 one x tt (le-number_left x y h)) (sub-number_left binary64 one y tt (le-number_right x y h)) h

-- against the vertices
turned_back : (part : Part) (p q : Spot) → Before part q p → NoEarlier part Against p q
turned_back part p q (inl h) = inl h
turned_back part p q (inr h) = inr (sym h.0, one_less_anti (fraction_at q) (fraction_at p) h.1)

-- A walk that does not go back as its fraction in the order of the vertices grows does not as the fraction in sailing direction does.
pub sails : (part : Part) (way : Way) (walk : Float → Spot) → ((f g : Float) → T (le f g) → Before part (walk f) (walk g)) → (f g : Float) → T (le f g) →
    NoEarlier part way (walk (turned_of way f)) (walk (turned_of way g))
sails part With walk mono f g h = mono f g h
sails part Against walk mono f g h = turned_back part (walk (sub binary64 one f)) (walk (sub binary64 one g)) (mono (sub binary64 one g) (sub binary64 one f) (one_less_anti f g h))

-- The same from 0 to 1.
pub sails_unit : (part : Part) (way : Way) (walk : Float → Spot) → ((f g : Float) → T (le nought f) → T (le f g) → T (le g one) → Before part (walk f) (walk g)) →
    (f g : Float) → T (le nought f) → T (le f g) → T (le g one) → NoEarlier part way (walk (turned_of way f)) (walk (turned_of way g))
sails_unit part With walk mono f g z h o = mono f g z h o
sails_unit part Against walk mono f g z h o =
    turned_back part (walk (sub binary64 one f)) (walk (sub binary64 one g))
    (mono (sub binary64 one g) (sub binary64 one f) (one_less_nonneg binary64 g o) (one_less_anti f g h) (one_less_le binary64 f z))
