-- The order of places: the call or leg in turn, then the stretch of path in sailing direction, then the fraction of it. Definitions only.
use Rattle.std.specs.Prelude.{ℕ, ◌*◌, ◌-◌, ◌<◌, ◌≡◌, ◌⊎◌, T, Float}
use Rattle.std.specs.Float.Ieee.{le}
use Rattle.ways.specs.Way.{turned_of}
use Rattle.ways.specs.declared.way.Way.{Way}
use Rattle.ways.specs.declared.way.Way.TheVariants.{With, Against}
use Rattle.paths.specs.declared.path.Line.{Line}
use Rattle.legs.specs.declared.place.Place.{Place}
use Rattle.legs.specs.declared.place.Place.TheVariants.{Call, Start, End, Stretch, NoStretch}

-- leg 1, call 1, leg 2, call 2 and on
abbrev pub turn_of : Place → ℕ
turn_of (Call k) = 2 * k
turn_of (Start k) = 2 * k - 1
turn_of (End k) = 2 * k - 1
turn_of (Stretch k line way v t) = 2 * k - 1
turn_of (NoStretch k line way) = 2 * k - 1

-- Along a line that is sailed this way, fraction t' of the stretch from vertex v' is no earlier than fraction t of the one from v. Both fractions are numbers.
abbrev pub Along : Way → ℕ → Float → ℕ → Float → Type 0
Along With v t v' t' = (v < v') ⊎ ((v ≡ v') × T (le (turned_of With t) (turned_of With t')))
Along Against v t v' t' = (v' < v) ⊎ ((v ≡ v') × T (le (turned_of Against t) (turned_of Against t')))

-- What is no earlier than a call, of the places with its turn.
abbrev pub AfterCall : Place → Type 0
AfterCall (Call k) = Unit {0}
AfterCall (Start k) = ⊥
AfterCall (Stretch k line way v t) = ⊥
AfterCall (NoStretch k line way) = ⊥
AfterCall (End k) = ⊥

-- Than a leg's end.
abbrev pub AfterEnd : Place → Type 0
AfterEnd (Call k) = ⊥
AfterEnd (Start k) = ⊥
AfterEnd (Stretch k line way v t) = ⊥
AfterEnd (NoStretch k line way) = ⊥
AfterEnd (End k) = Unit {0}

-- Than a place on a stretch: along the same line and way, the last vertex of a line that is sailed with its vertices, and the leg's end.
abbrev pub AfterStretch : Line → Way → ℕ → Float → Place → Type 0
AfterStretch line way v t (Call k) = ⊥
AfterStretch line way v t (Start k) = ⊥
AfterStretch line way v t (Stretch k line' way' v' t') = (line ≡ line') × (way ≡ way') × Along way v t v' t'
AfterStretch line way v t (NoStretch k line' way') = (line ≡ line') × (way ≡ way') × (way ≡ With)
AfterStretch line way v t (End k) = Unit {0}

-- Than the last vertex of a line, where no stretch was met: each stretch of a line that is sailed against its vertices, the same vertex, and the leg's end.
abbrev pub AfterNoStretch : Line → Way → Place → Type 0
AfterNoStretch line way (Call k) = ⊥
AfterNoStretch line way (Start k) = ⊥
AfterNoStretch line way (Stretch k line' way' v t) = (line ≡ line') × (way ≡ way') × (way ≡ Against)
AfterNoStretch line way (NoStretch k line' way') = (line ≡ line') × (way ≡ way')
AfterNoStretch line way (End k) = Unit {0}

-- Of two places with one turn the second is no earlier than the first. A leg's start is before all else of it.
abbrev pub InLeg : Place → Place → Type 0
InLeg (Call k) q = AfterCall q
InLeg (Start k) q = Unit {0}
InLeg (Stretch k line way v t) q = AfterStretch line way v t q
InLeg (NoStretch k line way) q = AfterNoStretch line way q
InLeg (End k) q = AfterEnd q

-- The second place is no earlier than the first.
abbrev pub NoEarlier : Place → Place → Type 0
NoEarlier p q = (turn_of p < turn_of q) ⊎ ((turn_of p ≡ turn_of q) × InLeg p q)
