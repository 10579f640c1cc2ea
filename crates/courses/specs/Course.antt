-- A trip's course in the tables: flags, a shape's line, and rows that are found. Definitions only.
use Rattle.std.specs.Prelude.{ℕ, ◌+◌, Bool, not, List, ◌==◌, Float, Option, Some, None}
use Rattle.ids.specs.declared.pool.Span.{Span}
use Rattle.columns.specs.Rows.{bit_of}
use Rattle.tables.specs.declared.lent.Shapes.{Shapes}
use Rattle.trip_rows.specs.Rows.{shape_column, shape_span}

-- row k of a column of flags is set
unfoldable pub is_flagged : List ℕ → Span → ℕ → Bool
is_flagged bytes span k = not (bit_of bytes span k == 0)

-- a shape's part of a column of all points
unfoldable pub shape_part : List ℕ → List Float → Shapes → Span → ℕ → List Float
shape_part words reals shapes column shape = shape_column reals column (shape_span words shapes shape)

-- the row that was found after `from`
abbrev pub row_after : ℕ → Option ℕ → Option ℕ
row_after from (Some k) = Some (from + k)
row_after from None = None
