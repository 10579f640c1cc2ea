-- Lines of a text.
use Rattle.std.specs.Prelude.{ℕ, ◌+◌, List, length, drop}
use Rattle.ids.specs.First.{or_at}
use Rattle.text_runs.specs.Runs.{first_byte}

-- where the line that begins at `at` ends: at the first newline from there on, or where the text does
unfoldable pub line_end : List ℕ → ℕ → ℕ
line_end s at = at + or_at (length (drop at s)) (first_byte (drop at s) 10)
