-- What is granted of a leg where its places are shown to be in order, and what a chain of stops is. Definitions only.
use Rattle.std.specs.Prelude.{◌-◌, ◌≤◌, ◌≡◌, List, length}
use Rattle.lengths.specs.declared.line.Point.{Point}
use Rattle.line_parts.specs.Part.{at, whole_of}
use Rattle.along_order.specs.Granted.{Lengths, Distance}
use Rattle.paths.specs.declared.path.Path.{Path}
use Rattle.paths.specs.declared.path.Path.TheVariants.{ByDistance, Polyline, Chain, Straight}

-- a chain of stops from one end of a leg to the other
pub record Chained (from to : Point) (chain : List Point) : Type 0 where
  pub points : 2 ≤ length chain
  pub starts : at chain 0 ≡ from
  pub ends : at chain (length chain - 1) ≡ to

-- each length along the path is a number of zero or more
abbrev pub LengthsOf : List Point → List Point → Path → Type 0
LengthsOf shape chain (ByDistance span) = Lengths shape (whole_of shape)
LengthsOf shape chain (Polyline route way) = Lengths shape route.part
LengthsOf shape chain (Chain route) = Lengths chain route.part
LengthsOf shape chain Straight = Unit {0}

-- both distances that a path is between, calibrated, are finite and not below zero
abbrev pub DistancesOf : Path → Type 0
DistancesOf (ByDistance span) = Distance span.lo × Distance span.hi
DistancesOf (Polyline route way) = Unit {0}
DistancesOf (Chain route) = Unit {0}
DistancesOf Straight = Unit {0}

-- what is granted of a leg with this path
pub record Granted (shape chain : List Point) (path : Path) : Type 0 where
  pub lengths : LengthsOf shape chain path
  pub distances : DistancesOf path
