-- Columns in the pools.
use Rattle.std.specs.Prelude.{ℕ, ◌+◌, List, get_or, take, drop}
use Rattle.ids.specs.declared.pool.Span.{Span}
use Rattle.ids.specs.declared.pool.IdColumn.{IdColumn}

-- row k of a column of numbers
abbrev pub cell_of : List ℕ → Span → ℕ → ℕ
cell_of words span k = get_or words (span.at + k) 0

-- row k of a column of ids
unfoldable pub id_of : List ℕ → List ℕ → IdColumn → ℕ → List ℕ
id_of bytes words col k = take (cell_of words col.lens k) (drop (cell_of words col.starts k) bytes)
