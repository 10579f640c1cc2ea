-- The calls of a sailing: their rows in the updates, and their stops. Definitions only.
use Rattle.std.specs.Prelude.{ℕ, List, Float, get_or}
use Rattle.ids.specs.Pool.{cell_of}
use Rattle.lengths.specs.declared.line.Point.{Point}
use Rattle.tables.specs.declared.lent.Tables.{Tables}
use Rattle.trip_rows.specs.Rows.{stop_point}
use Rattle.paths.specs.declared.path.End.{End}

module _ (words : List ℕ) (reals : List Float) (t : Tables) (rows stops : List ℕ) where
  -- call k, counted from 0: its stop, its sequence, where it is, and itself as an end of a leg
  abbrev pub stop_of_call : ℕ → ℕ
  stop_of_call k = get_or stops k 0

  abbrev pub sequence_of_call : ℕ → ℕ
  sequence_of_call k = cell_of words t.updates.sequence (get_or rows k 0)

  abbrev pub point_of_call : ℕ → Point
  point_of_call k = stop_point reals t.stops (stop_of_call k)

  abbrev pub call_end : ℕ → End
  call_end k = record { sequence = sequence_of_call k; at = point_of_call k }
