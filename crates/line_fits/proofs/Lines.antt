-- Where a line begins. Assumes nothing.
use Prim.Native.Nat.{◌≤◌}
use mathlib.Core.List.{[]}
use Rattle.row_lookup.proofs.Halves.{place_le}
use Rattle.row_stands.specs.Stands.{key_of, parts_at, stand_of}
use Rattle.row_stands.specs.declared.rows.Rows.TheVariants.{Lines}
use Rattle.line_fits.specs.declared.line.Line.{Line}

-- its first row is one of the line entries, or one past all
pub within : (s : Line) → s.from ≤ s.timetable.plan.lines.trip.n
unfolding stand_of
within s =
    let t = Lines s.timetable.plan.lines.token in
    place_le (parts_at s.timetable.lent.bytes.now s.timetable.lent.words.now t) (key_of t s.token.now [] 0 0) s.timetable.plan.lines.trip.n s.from s.begins
