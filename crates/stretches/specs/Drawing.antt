-- The position and the bearing of a spot. Definitions only.
use Rattle.std.specs.Prelude.{suc, ◌-◌, cond, List, ltb, Float}
use Rattle.std.specs.Float.{binary64}
use Rattle.std.specs.Float.Ieee.{add, sub, mul}
use Rattle.floats.specs.Number.{nought}
use Rattle.measure.specs.Measure.{bearing_of}
use Rattle.lengths.specs.declared.line.Point.{Point}
use Rattle.line_parts.specs.declared.part.Part.{Part}
use Rattle.stretches.specs.declared.spot.Spot.{Spot}
use Rattle.stretches.specs.declared.spot.Spot.TheVariants.{First, Stretch, Straight, NoStretch}
use Rattle.stretches.specs.declared.drawing.Drawn.{Drawn}
use Rattle.line_parts.specs.Part.{at}

-- the bearing from p to q
abbrev pub bearing_of_way : Point → Point → Float
bearing_of_way p q = bearing_of p.lat p.lon q.lat q.lon

-- the coordinate at the fraction t of the way from x to y
abbrev pub mix_of : Float → Float → Float → Float
mix_of x y t = add binary64 x (mul binary64 (sub binary64 y x) t)

-- the position there on the way from p to q
unfoldable pub between_of : Point → Point → Float → Drawn
between_of p q t = record { lat = mix_of p.lat q.lat t; lon = mix_of p.lon q.lon t; bearing = bearing_of_way p q }

-- at p, with a bearing
abbrev pub held_at : Point → Float → Drawn
held_at p bearing = record { lat = p.lat; lon = p.lon; bearing = bearing }

-- at the first vertex of a part, towards the next; bearing 0 where it has no other
unfoldable pub first_of : List Point → Part → Drawn
first_of line part =
    held_at (at line part.first) (cond (ltb part.first part.last) (bearing_of_way (at line part.first) (at line (suc part.first))) nought)

-- at its last, from the one before
unfoldable pub last_of : List Point → Part → Drawn
last_of line part = held_at (at line part.last) (bearing_of_way (at line (part.last - 1)) (at line part.last))

-- a stretch's bearing is in the order of the vertices, whichever way it is sailed
abbrev pub draw_of : List Point → Part → Spot → Drawn
draw_of line part First = first_of line part
draw_of line part (Stretch k t) = between_of (at line k) (at line (suc k)) t
draw_of line part (Straight t) = between_of (at line part.first) (at line part.last) t
draw_of line part NoStretch = last_of line part
