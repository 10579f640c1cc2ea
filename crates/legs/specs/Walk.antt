-- What a walk along a leg gives at a fraction of it. Definitions only.
use Rattle.std.specs.Prelude.{ℕ, cond, List, Float}
use Rattle.std.specs.Float.Ieee.{le}
use Rattle.floats.specs.Number.{nought, one}
use Rattle.lengths.specs.declared.line.Point.{Point}
use Rattle.stretches.specs.Drawing.{bearing_of_way, draw_of, held_at}
use Rattle.stretches.specs.declared.drawing.Drawn.{Drawn}
use Rattle.stretches.specs.declared.spot.Spot.{Spot}
use Rattle.paths.specs.Path.{path_kind, path_line, path_part, path_status, path_way, spot_of}
use Rattle.legs.specs.Place.{place_of}
use Rattle.paths.specs.declared.path.Path.{Path}
use Rattle.legs.specs.declared.place.Place.TheVariants.{Start, End}
use Rattle.paths.specs.declared.status.Status.TheVariants.{InTransitTo}
use Rattle.legs.specs.declared.walk.Walked.{Walked}

-- at leg k's start: the stop's own position, towards the leg's end
abbrev pub start_of : ℕ → Point → Point → Walked
start_of k from to = record { place = Start k; drawn = held_at from (bearing_of_way from to); status = InTransitTo }

-- at its end
abbrev pub end_of : ℕ → Point → Point → Walked
end_of k from to = record { place = End k; drawn = held_at to (bearing_of_way from to); status = InTransitTo }

-- at a spot of its path, as it is drawn
abbrev pub on_path : ℕ → Path → Spot → Drawn → Walked
on_path k path spot drawn = record { place = place_of k (path_kind path) (path_way path) spot; drawn = drawn; status = path_status path }

-- strictly between its ends
abbrev pub inside_leg : ℕ → List Point → List Point → Point → Point → Path → Float → Walked
inside_leg k shape chain from to path frac =
    let spot = spot_of shape chain path frac in
    on_path k path spot (draw_of (path_line shape chain from to path) (path_part shape path) spot)

-- at any fraction of leg k: 0 or less is its start, and 1 or more its end; NaN is neither
unfoldable pub walk_of : ℕ → List Point → List Point → Point → Point → Path → Float → Walked
walk_of k shape chain from to path frac = cond (le frac nought) (start_of k from to) (cond (le one frac) (end_of k from to) (inside_leg k shape chain from to path frac))
