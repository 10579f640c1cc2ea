-- Lengths along a line, in metres. Each is summed from the left, with one rounding for each stretch. Definitions only.
use Rattle.std.specs.Prelude.{ℕ, suc, List, [], ◌∷◌, Float, take}
use Rattle.std.specs.Float.{binary64}
use Rattle.std.specs.Float.Ieee.{add}
use Rattle.floats.specs.Number.{nought}
use Rattle.lengths.specs.Line.{metres_of}
use Rattle.lengths.specs.declared.line.Point.{Point}

-- the sum so far, with the stretches from a over each of the points
unfoldable pub onward : Float → Point → List Point → Float
onward sum a [] = sum
onward sum a (b ∷ line) = onward (add binary64 sum (metres_of a b)) b line

-- the length of a line: nought where it has no stretch
unfoldable pub length_of : List Point → Float
length_of [] = nought
length_of (a ∷ line) = onward nought a line

-- the length along it to vertex k, and to its last where it has no vertex k
unfoldable pub length_to : List Point → ℕ → Float
length_to line k = length_of (take (suc k) line)

-- the sums so far at a and at each of the points
unfoldable pub sums_of : Float → Point → List Point → List Float
sums_of sum a [] = sum ∷ []
sums_of sum a (b ∷ line) = sum ∷ sums_of (add binary64 sum (metres_of a b)) b line

-- the lengths to each vertex, as the Rust lists them
unfoldable pub lengths_of : List Point → List Float
lengths_of [] = []
lengths_of (a ∷ line) = sums_of nought a line
